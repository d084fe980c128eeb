-- what comes by a line in memory, as far as it was not read
use Rattle.std.specs.Prelude.{ℕ, List, [], ◌∷◌, ◌++◌, take, drop}
use Rattle.sg_outside.specs.Wire.{LineRead}
use Rattle.sg_lines.specs.declared.inputs.LineInput.{LineInput}
use Rattle.sg_lines.specs.declared.inputs.LineInput.TheVariants as input

-- what stands behind a place of an input
abbrev pub rest_of : ℕ → LineInput → LineInput
rest_of at (input.Bytes bytes) = input.Bytes (drop at bytes)
rest_of at input.Idle = input.Idle

-- the inputs that are still to come, where the first of them was read up to a place
abbrev pub rest_first : ℕ → List LineInput → List LineInput
rest_first at [] = []
rest_first at (first ∷ later) = rest_of at first ∷ later

-- the same behind so many inputs
abbrev pub coming : List LineInput → ℕ → ℕ → List LineInput
coming inputs next at = rest_first at (drop next inputs)

-- what reading at most so many of these bytes gives
abbrev pub read_of_rest : ℕ → List ℕ → LineRead
read_of_rest most [] = LineRead.Idle
read_of_rest most (byte ∷ bytes) = LineRead.Bytes (take most (byte ∷ bytes))

-- these bytes as an input, if there are any
abbrev pub left_of_rest : List ℕ → List LineInput
left_of_rest [] = []
left_of_rest (byte ∷ bytes) = input.Bytes (byte ∷ bytes) ∷ []

-- what reading at most so many bytes of an input gives
abbrev pub read_from : ℕ → LineInput → LineRead
read_from most (input.Bytes bytes) = read_of_rest most bytes
read_from most input.Idle = LineRead.Idle

-- what it leaves of the input
abbrev pub left_of : ℕ → LineInput → List LineInput
left_of most (input.Bytes bytes) = left_of_rest (drop most bytes)
left_of most input.Idle = []

-- what is left of an input that was read up to a place
abbrev pub left_at : ℕ → LineInput → List LineInput
left_at at (input.Bytes bytes) = left_of_rest (drop at bytes)
left_at at input.Idle = []

-- what reading at most so many bytes gives, where these inputs are still to come
abbrev pub next_read : ℕ → List LineInput → LineRead
next_read most [] = LineRead.End
next_read most (first ∷ later) = read_from most first

-- what is still to come after it
abbrev pub after_read : ℕ → List LineInput → List LineInput
after_read most [] = []
after_read most (first ∷ later) = left_of most first ++ later
