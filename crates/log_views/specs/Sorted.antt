-- Names in their order, each once.
use Rattle.std.specs.Prelude.{◌≡◌, ℕ, true, List}
use Rattle.std.specs.Ordering.{nat_cmp}
use Rattle.std.specs.Cmp.Lexicographic.{slice_cmp}
use Rattle.sg_names.specs.ItemList.{rises}

-- each name comes strictly before the next, by bytes
abbrev pub AreSorted : List (List ℕ) → Type 0
AreSorted names = rises (slice_cmp nat_cmp) names ≡ true
