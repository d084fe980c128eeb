-- Units of UTF-16.
use Rattle.std.specs.Prelude.{ℕ, nat_lt, if◌then◌else◌, List, sum_by}

-- how many units of UTF-16 the character has that begins with this byte of UTF-8: none where it begins none
abbrev pub units_of : ℕ → ℕ
units_of b = if nat_lt b 128 then 1 else (if nat_lt b 192 then 0 else (if nat_lt b 240 then 1 else 2))

-- how many units of UTF-16 a text has
abbrev pub units : List ℕ → ℕ
units s = sum_by units_of s
