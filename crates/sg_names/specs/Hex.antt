-- lower-case hexadecimal texts of bytes
use Rattle.std.specs.Prelude.{◌≡◌, ℕ, ◌+◌, ◌*◌, ◌/◌, ◌%◌, ◌==◌, Bool, true, ◌++◌, take, ◌&&◌, ◌||◌, if◌then◌else◌, nat_lt, nat_le, List, [], ◌∷◌, length}
use Rattle.std.specs.List.{list_all}

-- the digit of a number below 16: `0` to `9`, `a` to `f`
abbrev pub hex_digit : ℕ → ℕ
hex_digit n = if nat_lt n 10 then 48 + n else 87 + n

-- two digits a byte, the high one first
abbrev pub hex_text : List ℕ → List ℕ
hex_text [] = []
hex_text (b ∷ bs) = hex_digit (b / 16) ∷ hex_digit (b % 16) ∷ hex_text bs

abbrev pub is_hex_digit : ℕ → Bool
is_hex_digit b = (nat_le 48 b && nat_le b 57) || (nat_le 97 b && nat_le b 102)

-- the text of at least one byte: not empty, of even length, and of lower-case hexadecimal digits
abbrev pub is_hex : List ℕ → Bool
is_hex text = nat_lt 0 (length text) && (length text % 2 == 0) && list_all (λ b. is_hex_digit b) text

-- each number is a byte
abbrev pub are_bytes : List ℕ → Bool
are_bytes bytes = list_all (λ b. nat_lt b 256) bytes

-- the first so many pairs of digits were read as bytes, which were put at the end
pub record HasRead (text : List ℕ) (pairs : ℕ) (before after : List ℕ) : Type 0 where
  pub bytes : List ℕ
  pub spelled : take (2 * pairs) text ≡ hex_text bytes
  pub appended : after ≡ before ++ bytes
  pub are : are_bytes bytes ≡ true
