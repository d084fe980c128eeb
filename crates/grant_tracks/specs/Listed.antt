-- Lists of numbers.
use Rattle.std.specs.Prelude.{ℕ, Bool, nat_eq, List}
use Rattle.std.specs.List.{list_any}

-- whether a number is among these
abbrev pub is_in : List ℕ → ℕ → Bool
is_in list x = list_any (nat_eq x) list
