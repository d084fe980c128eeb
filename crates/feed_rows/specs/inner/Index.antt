-- what the index of the pass over the log stands for
use Rattle.std.specs.Prelude.{ℕ, List, Option}
use Rattle.std.specs.Borrow.{Bor}
use Rattle.std.specs.BTreeMap.{BTreeMap, get_by}
use Rattle.std.specs.Ordering.{nat_cmp}
use Rattle.std.specs.Cmp.Lexicographic.{slice_cmp}
use Rattle.feed_rows.specs.Known.{PlacedBy}

-- the place that an index has for a name
abbrev pub place_in : BTreeMap (Bor (List ℕ)) ℕ → List ℕ → Option ℕ
place_in places name = get_by (λ k. slice_cmp nat_cmp name k.now) places

-- the index has of every name its place among these
abbrev pub IsIndex : List (List ℕ) → BTreeMap (Bor (List ℕ)) ℕ → Type 0
IsIndex names places = (name : List ℕ) → PlacedBy names name (place_in places name)
