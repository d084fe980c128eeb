-- the items of a header's value
use Rattle.std.specs.Prelude.{ℕ, ◌==◌, List, [], ◌∷◌, reverse, Option, Some, None, option_map, if◌then◌else◌}

-- the bytes from the first that is no space
abbrev pub skip_spaces : List ℕ → List ℕ
skip_spaces [] = []
skip_spaces (b ∷ bytes) = if b == 32 then skip_spaces bytes else b ∷ bytes

-- the bytes without the spaces at both ends
abbrev pub trim_spaces : List ℕ → List ℕ
trim_spaces bytes = reverse (skip_spaces (reverse (skip_spaces bytes)))

-- what stands before and behind the first such byte, if there is one
abbrev pub parted_at : ℕ → List ℕ → Option (List ℕ × List ℕ)
parted_at mark [] = None
parted_at mark (b ∷ bytes) = if b == mark then Some ([], bytes) else option_map (λ parts. (b ∷ parts.0, parts.1)) (parted_at mark bytes)

module _ {A : Type 0} where
  -- the first, or else the second
  abbrev pub or_else : Option A → Option A → Option A
  or_else None other = other
  or_else (Some value) other = Some value

  -- what the first item gives that gives something
  abbrev pub first_given : (List ℕ → Option A) → List (List ℕ) → Option A
  first_given given [] = None
  first_given given (item ∷ items) = or_else (given item) (first_given given items)
