-- Which variable this is, and at which place it stands among those that were written, each of which stands once.
use Rattle.std.specs.Prelude.{ℕ, zero, suc, ◌+◌, ◌==◌, Bool, true, false, not, ◌&&◌, ◌||◌, if◌then◌else◌, List, [], ◌∷◌, Option, None, Some}
use Rattle.std.specs.Str.{bytes_eq}
use Rattle.sync_values.specs.declared.value.Value.{Value}
use Rattle.sync_values.specs.declared.value.Value.TheVariants as v
use Rattle.sync_meaning.specs.declared.variables.Variable.{Variable}

-- whether this is the variable of a name and a number
abbrev pub is_variable : List ℕ → ℕ → Variable → Bool
is_variable name number x = bytes_eq name x.name && number == x.number

-- the first place of a variable, or the count of all where it isn't there
abbrev pub slot_of : List ℕ → ℕ → List Variable → ℕ
slot_of name number [] = 0
slot_of name number (x ∷ xs) = if is_variable name number x then 0 else slot_of name number xs + 1

-- whether a variable was written
abbrev pub is_written : List ℕ → ℕ → List Variable → Bool
is_written name number [] = false
is_written name number (x ∷ xs) = is_variable name number x || is_written name number xs

-- whether each variable stands once
abbrev pub each_once : List Variable → Bool
each_once [] = true
each_once (x ∷ xs) = not (is_written x.name x.number xs) && each_once xs

-- the variables where the one at a place holds a value
abbrev pub replaced : ℕ → Value → List Variable → List Variable
replaced at value [] = []
replaced zero value (x ∷ xs) = record x { value = value } ∷ xs
replaced (suc at) value (x ∷ xs) = x ∷ replaced at value xs

-- what a variable that was found holds, or undefined where there is none
abbrev pub held : Option Variable → Value
held None = v.Undefined
held (Some x) = x.value
