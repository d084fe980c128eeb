-- How a filter keeps its names. Only proofs need this.
use Rattle.std.specs.Prelude.{◌≡◌, ℕ, Bool, false, List, map, Option, Some, None}
use Rattle.std.specs.Borrow.{Bor}
use Rattle.sg_history.specs.History.{among}
use Rattle.log_views.specs.Sorted.{AreSorted}

-- whether there is a filter that names a channel
abbrev pub named_by : Option (List (List ℕ)) → List ℕ → Bool
named_by None c = false
named_by (Some filter) c = among filter c

-- the names that are kept
abbrev pub names_of : List (Bor (List ℕ)) → List (List ℕ)
names_of names = map (λ n. n.now) names

-- these are the names of a filter by rising bytes, each once
pub record AreNamesOf (filter : Option (List (List ℕ))) (names : List (List ℕ)) : Type 0 where
  pub sorted : AreSorted names
  pub same : (c : List ℕ) → among names c ≡ named_by filter c
