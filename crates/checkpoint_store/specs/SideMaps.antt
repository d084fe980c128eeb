-- Side maps: what stands under their texts, and what a value that is put under one of these leaves.
use Rattle.std.specs.Prelude.{◌≡◌, ℕ, List, Option, Some, map, if◌then◌else◌}
use Rattle.std.specs.Option.{option_map}
use Rattle.std.specs.Str.{bytes_eq}
use Rattle.std.specs.Ordering.{nat_cmp}
use Rattle.std.specs.Cmp.Lexicographic.{slice_cmp}
use Rattle.std.specs.List.Sorted.{IsStrictlySortedBy}
use Rattle.sg_history.specs.Board.{SideEntry, SideValue, side_at}

-- the texts of a side map, in order
abbrev pub texts : List SideEntry → List (List ℕ)
texts side = map (λ (e : SideEntry). e.text) side

-- the texts rise by their bytes, so that each stands once
abbrev pub IsRising : List SideEntry → Type 0
IsRising side = IsStrictlySortedBy (slice_cmp nat_cmp) (texts side)

-- the number under a text, if the side map has the text
abbrev pub side_number : List SideEntry → List ℕ → Option ℕ
side_number side text = option_map (λ (value : SideValue). value.number) (side_at side text)

-- what a text has once a value is put under another: that value where they are the same, and else what it had
abbrev pub side_put : List SideEntry → List ℕ → SideValue → List ℕ → Option SideValue
side_put side text value other = if bytes_eq text other then Some value else side_at side other

-- the second side map has what a value that is put under a text leaves of the first
abbrev pub IsPut : List SideEntry → List ℕ → SideValue → List SideEntry → Type 0
IsPut before text value after = (other : List ℕ) → side_at after other ≡ side_put before text value other
