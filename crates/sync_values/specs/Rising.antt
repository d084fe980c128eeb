-- Names that rise, each strictly, in the order of their bytes.
use Rattle.std.specs.Prelude.{ℕ, Bool, true, List, map, Option, None, Some}
use Rattle.std.specs.Ordering.{nat_cmp, is_lt}
use Rattle.std.specs.Cmp.Lexicographic.{slice_cmp}
use Rattle.sg_names.specs.ItemList.{rises}

-- whether each name comes behind the one before it
abbrev pub names_rise : {A : Type 0} → List (List ℕ × A) → Bool
names_rise ms = rises (slice_cmp nat_cmp) (map (λ m. m.0) ms)

-- whether a name comes behind that of the last, where there is one
abbrev pub comes_behind : {A : Type 0} → Option (List ℕ × A) → List ℕ → Bool
comes_behind None name = true
comes_behind (Some m) name = is_lt (slice_cmp nat_cmp m.0 name)
