-- Texts that were seen. Only proofs need this.
use Rattle.std.specs.Prelude.{ℕ, Bool, List, is_some}
use denote.Ref.{Bor}
use Rattle.std.specs.BTreeMap.{BTreeMap, get_by}
use Rattle.std.specs.Cmp.Lexicographic.{slice_cmp}
use Rattle.std.specs.Ordering.{nat_cmp}

-- whether a text is there
abbrev pub has : BTreeMap (Bor (List ℕ)) (Unit {0}) → List ℕ → Bool
has seen text = is_some (get_by (λ t. slice_cmp nat_cmp text t.now) seen)
