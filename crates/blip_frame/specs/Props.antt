-- Properties: keys and values, in order.
use Rattle.std.specs.Prelude.{ℕ, Bool, false, ◌||◌, List, [], ◌∷◌, map, Option, Some, None, IsUtf8, if◌then◌else◌}
use Rattle.std.specs.List.{list_any}
use Rattle.std.specs.Str.{bytes_eq}
use Rattle.std.specs.String.{string_bytes}
use Rattle.blip_frame.specs.declared.props.Prop.{Prop}

-- a key and a value, as bytes
abbrev pub Pair : Type 0
Pair = List ℕ × List ℕ

abbrev pub pair_of : Prop → Pair
pair_of p = (string_bytes p.key, string_bytes p.value)

abbrev pub pairs_of : List Prop → List Pair
pairs_of props = map pair_of props

-- the value of the first property with the key
abbrev pub value_at : List Pair → List ℕ → Option (List ℕ)
value_at [] key = None
value_at (p ∷ props) key = if bytes_eq p.0 key then Some p.1 else value_at props key

abbrev pub keys_of : List Pair → List (List ℕ)
keys_of props = map (λ p. p.0) props

-- whether a key stands twice
abbrev pub stands_twice : List (List ℕ) → Bool
stands_twice [] = false
stands_twice (key ∷ keys) = list_any (bytes_eq key) keys || stands_twice keys

-- key and value are UTF-8
abbrev pub AreUtf8 : Pair → Type 0
AreUtf8 p = IsUtf8 p.0 × IsUtf8 p.1
