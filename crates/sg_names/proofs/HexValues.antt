-- the table of the values of digits
use Rattle.std.proofs.Common.{◌≡◌, ◌<◌, ◌≤◌, ◌+◌, ℕ, zero, suc, refl, ◌∙◌, ap, arith, Bool, true, false, ◌&&◌, not, if◌then◌else◌, List, [], ◌∷◌, length, nat_eq, nat_lt, slice_index_or}
use Rattle.sg_names.specs.Hex.{hex_digit, is_hex_digit}

-- a value below 16 is that of the digit, and another one says that the byte is none
abbrev fits : ℕ → ℕ → Bool
fits byte value = if nat_lt value 16 then nat_eq (hex_digit value) byte else not (is_hex_digit byte)

abbrev all_fit : ℕ → List ℕ → Bool
all_fit byte [] = true
all_fit byte (v ∷ vs) = fits byte v && all_fit (byte + 1) vs

abbrev pub values : List ℕ
values =
    255 ∷ 255 ∷ 255 ∷ 255 ∷ 255 ∷ 255 ∷ 255 ∷ 255 ∷ 255 ∷ 255 ∷ 255 ∷ 255 ∷ 255 ∷ 255 ∷ 255 ∷ 255 ∷
    255 ∷ 255 ∷ 255 ∷ 255 ∷ 255 ∷ 255 ∷ 255 ∷ 255 ∷ 255 ∷ 255 ∷ 255 ∷ 255 ∷ 255 ∷ 255 ∷ 255 ∷ 255 ∷
    255 ∷ 255 ∷ 255 ∷ 255 ∷ 255 ∷ 255 ∷ 255 ∷ 255 ∷ 255 ∷ 255 ∷ 255 ∷ 255 ∷ 255 ∷ 255 ∷ 255 ∷ 255 ∷
    0 ∷ 1 ∷ 2 ∷ 3 ∷ 4 ∷ 5 ∷ 6 ∷ 7 ∷ 8 ∷ 9 ∷ 255 ∷ 255 ∷ 255 ∷ 255 ∷ 255 ∷ 255 ∷
    255 ∷ 255 ∷ 255 ∷ 255 ∷ 255 ∷ 255 ∷ 255 ∷ 255 ∷ 255 ∷ 255 ∷ 255 ∷ 255 ∷ 255 ∷ 255 ∷ 255 ∷ 255 ∷
    255 ∷ 255 ∷ 255 ∷ 255 ∷ 255 ∷ 255 ∷ 255 ∷ 255 ∷ 255 ∷ 255 ∷ 255 ∷ 255 ∷ 255 ∷ 255 ∷ 255 ∷ 255 ∷
    255 ∷ 10 ∷ 11 ∷ 12 ∷ 13 ∷ 14 ∷ 15 ∷ 255 ∷ 255 ∷ 255 ∷ 255 ∷ 255 ∷ 255 ∷ 255 ∷ 255 ∷ 255 ∷
    255 ∷ 255 ∷ 255 ∷ 255 ∷ 255 ∷ 255 ∷ 255 ∷ 255 ∷ 255 ∷ 255 ∷ 255 ∷ 255 ∷ 255 ∷ 255 ∷ 255 ∷ 255 ∷
    255 ∷ 255 ∷ 255 ∷ 255 ∷ 255 ∷ 255 ∷ 255 ∷ 255 ∷ 255 ∷ 255 ∷ 255 ∷ 255 ∷ 255 ∷ 255 ∷ 255 ∷ 255 ∷
    255 ∷ 255 ∷ 255 ∷ 255 ∷ 255 ∷ 255 ∷ 255 ∷ 255 ∷ 255 ∷ 255 ∷ 255 ∷ 255 ∷ 255 ∷ 255 ∷ 255 ∷ 255 ∷
    255 ∷ 255 ∷ 255 ∷ 255 ∷ 255 ∷ 255 ∷ 255 ∷ 255 ∷ 255 ∷ 255 ∷ 255 ∷ 255 ∷ 255 ∷ 255 ∷ 255 ∷ 255 ∷
    255 ∷ 255 ∷ 255 ∷ 255 ∷ 255 ∷ 255 ∷ 255 ∷ 255 ∷ 255 ∷ 255 ∷ 255 ∷ 255 ∷ 255 ∷ 255 ∷ 255 ∷ 255 ∷
    255 ∷ 255 ∷ 255 ∷ 255 ∷ 255 ∷ 255 ∷ 255 ∷ 255 ∷ 255 ∷ 255 ∷ 255 ∷ 255 ∷ 255 ∷ 255 ∷ 255 ∷ 255 ∷
    255 ∷ 255 ∷ 255 ∷ 255 ∷ 255 ∷ 255 ∷ 255 ∷ 255 ∷ 255 ∷ 255 ∷ 255 ∷ 255 ∷ 255 ∷ 255 ∷ 255 ∷ 255 ∷
    255 ∷ 255 ∷ 255 ∷ 255 ∷ 255 ∷ 255 ∷ 255 ∷ 255 ∷ 255 ∷ 255 ∷ 255 ∷ 255 ∷ 255 ∷ 255 ∷ 255 ∷ 255 ∷
    255 ∷ 255 ∷ 255 ∷ 255 ∷ 255 ∷ 255 ∷ 255 ∷ 255 ∷ 255 ∷ 255 ∷ 255 ∷ 255 ∷ 255 ∷ 255 ∷ 255 ∷ 255 ∷ []

fit : (byte i other : ℕ) (vs : List ℕ) → all_fit byte vs ≡ true → i < length vs → fits (byte + i) (slice_index_or vs i other) ≡ true
fit byte i other [] all within = absurd (omega (arith, within))
fit byte zero other (v ∷ vs) all within = grind (arith, all)
fit byte (suc i) other (v ∷ vs) all within = ap (λ (n : ℕ). fits n (slice_index_or vs i other)) (omega arith) ∙ fit (byte + 1) i other vs (grind (arith, all)) (omega (arith, within))

value_fits : (byte other : ℕ) → byte < 256 → fits byte (slice_index_or values byte other) ≡ true
value_fits byte other low = ap (λ (n : ℕ). fits n (slice_index_or values byte other)) (omega arith) ∙ fit 0 byte other values refl low

pub digit_of : (byte other value : ℕ) → byte < 256 → value ≡ slice_index_or values byte other → value < 16 → hex_digit value ≡ byte
digit_of byte other value low is few = grind (arith, value_fits byte other low, is, few)

pub no_digit : (byte other value : ℕ) → byte < 256 → value ≡ slice_index_or values byte other → 16 ≤ value → is_hex_digit byte ≡ false
no_digit byte other value low is many = grind (arith, value_fits byte other low, is, many)
