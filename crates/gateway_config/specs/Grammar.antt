-- The grammars of a configuration's own texts and numbers, over the bytes of a text that is UTF-8.
use Rattle.std.specs.Prelude.{ℕ, Bool, ◌&&◌, ◌||◌, nat_lt, nat_le, nat_eq, List, length}
use Rattle.std.specs.List.{list_all}
use Rattle.sg_names.specs.Decimal.{is_digit}

-- `a` to `z`
abbrev pub is_lower : ℕ → Bool
is_lower b = nat_le 97 b && nat_le b 122

-- `A` to `Z`
abbrev pub is_upper : ℕ → Bool
is_upper b = nat_le 65 b && nat_le b 90

-- `-` or `_`
abbrev pub is_joint : ℕ → Bool
is_joint b = nat_eq b 45 || nat_eq b 95

abbrev pub is_database_byte : ℕ → Bool
is_database_byte b = is_lower b || is_digit b || is_joint b

abbrev pub is_session_byte : ℕ → Bool
is_session_byte b = is_lower b || is_upper b || is_digit b || is_joint b

-- 1 to 100 bytes
abbrev pub is_short : List ℕ → Bool
is_short text = nat_lt 0 (length text) && nat_le (length text) 100

-- a database's name: 1 to 100 lower-case letters, digits, `_` and `-`
abbrev pub is_database : List ℕ → Bool
is_database text = is_short text && list_all (λ b. is_database_byte b) text

-- a session: 1 to 100 letters, digits, `-` and `_`
abbrev pub is_session : List ℕ → Bool
is_session text = is_short text && list_all (λ b. is_session_byte b) text

-- how many callers are let in: 1 to 4294967295
abbrev pub is_count : ℕ → Bool
is_count n = nat_le 1 n && nat_le n 4294967295
