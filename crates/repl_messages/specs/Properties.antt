-- What the properties of a message say. Where a key stands twice, its first value counts.
use Rattle.std.specs.Prelude.{ℕ, Bool, false, ◌||◌, not, List, Option, Some, None, codes}
use Rattle.std.specs.Str.{bytes_eq}
use Rattle.blip_frame.specs.Props.{Pair, value_at}

-- a truth value: true where the property is there and is neither `0` nor `false`
abbrev pub truth_of : Option (List ℕ) → Bool
truth_of None = false
truth_of (Some value) = not (bytes_eq value (codes "0") || bytes_eq value (codes "false"))

-- whether a property is true
abbrev pub is_property_set : List ℕ → List Pair → Bool
is_property_set key props = truth_of (value_at props key)
