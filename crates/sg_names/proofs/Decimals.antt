-- decimals, their digits and what they lack
use Rattle.std.proofs.Common.{◌≡◌, ◌≢◌, ℕ, ◌+◌, ◌<◌, ◌≤◌, ◌/◌, ◌%◌, ◌^◌, Bool, true, false, ◌&&◌, ◌||◌, not, List, [], ◌∷◌, ◌++◌, get_or, refl, ap, ◌∙◌, arith}
use Rattle.std.specs.Prelude.{decimal, nat_eq, nat_le}
use Rattle.std.specs.List.{list_all}
use Rattle.std.proofs.lemmas.Fmt.{decimal_by_steps}
use Rattle.std.proofs.lemmas.Bool.{and_parts, and_from, or_left, not_from_false, ne_eqb, le-leb, leb-true}
use Rattle.std.proofs.lemmas.List.Folds.{list_all-append}
use Rattle.sg_names.specs.Decimal.{is_decimal, is_digit, is_empty}
use Rattle.sg_names.specs.Grammar.{lacks}

is_digit-from : (d : ℕ) → d < 10 → is_digit (48 + d) ≡ true
is_digit-from d small = and_from _ _ (le-leb 48 (48 + d) (omega arith)) (le-leb (48 + d) 57 (omega arith))

pub digit_range : (b : ℕ) → is_digit b ≡ true → (48 ≤ b) × (b ≤ 57)
digit_range b h = let both = and_parts (nat_le 48 b) (nat_le b 57) h in (leb-true 48 b both.0, leb-true b 57 both.1)

-- the parts of the test
decimal_parts : (b : ℕ) (bs : List ℕ) → is_decimal (b ∷ bs) ≡ true
    → (is_digit b ≡ true) × (list_all is_digit bs ≡ true) × ((not (nat_eq b 48) || is_empty bs) ≡ true)
decimal_parts b bs h =
    let first = and_parts (is_digit b && list_all is_digit bs) (not (nat_eq b 48) || is_empty bs) h in
    let digits = and_parts (is_digit b) (list_all is_digit bs) first.0 in
    (digits.0, digits.1, first.1)

-- a digit behind a decimal that does not begin with `0`
is_decimal-push : (ds : List ℕ) (d : ℕ) → is_decimal ds ≡ true → get_or ds 0 0 ≢ 48 → d < 10 → is_decimal (ds ++ (48 + d) ∷ []) ≡ true
is_decimal-push [] d h high small = absurd (cc)
is_decimal-push (b ∷ bs) d h high small =
    let parts = decimal_parts b bs h in
    let further : list_all is_digit (bs ++ (48 + d) ∷ []) ≡ true =
    list_all-append is_digit bs ((48 + d) ∷ []) ∙ and_from _ _ parts.1 (and_from _ _ (is_digit-from d small) refl) in
    and_from _ _ (and_from _ _ parts.0 further)
    (or_left (not (nat_eq b 48)) _ (not_from_false (nat_eq b 48) (ne_eqb b 48 high)))

abbrev IsWritten : ℕ → List ℕ → Type 0
IsWritten n ds = (is_decimal ds ≡ true) × (0 < n → get_or ds 0 0 ≢ 48)

written_digit : (n : ℕ) → n < 10 → IsWritten n ((48 + n) ∷ [])
written_digit n small =
    (and_from _ _ (and_from _ _ (is_digit-from n small) refl) (tests (not (nat_eq (48 + n) 48))), λ above e. absurd (omega arith))
  where
    tests : (b : Bool) → (b || true) ≡ true
    tests true = refl
    tests false = refl

written_more : (n : ℕ) (ds : List ℕ) → 10 ≤ n → IsWritten (n / 10) ds → IsWritten n (ds ++ (48 + n % 10) ∷ [])
written_more n [] large written = absurd (cc (written.0))
written_more n (b ∷ bs) large written =
    let front : 0 < n / 10 = omega arith in
    (is_decimal-push (b ∷ bs) (n % 10) written.0 (written.1 front) (omega arith), λ above. written.1 front)

-- what a number is written as is a decimal
pub is_decimal-decimal : (n : ℕ) → n < 2 ^ 64 → is_decimal (decimal n) ≡ true
is_decimal-decimal n small = (decimal_by_steps IsWritten written_digit written_more n small).0

-- digits lack a byte that is none
digits_lack : (c : ℕ) (ds : List ℕ) → is_digit c ≡ false → list_all is_digit ds ≡ true → lacks c ds ≡ true
digits_lack c [] other h = refl
digits_lack c (b ∷ bs) other h =
    let parts = and_parts (is_digit b) (list_all is_digit bs) h in
    let apart : b ≢ c = λ e. cc (ap is_digit e) in
    and_from _ _ (not_from_false (nat_eq b c) (ne_eqb b c apart)) (digits_lack c bs other parts.1)

-- a decimal is of digits
pub decimal_digits : (ds : List ℕ) → is_decimal ds ≡ true → list_all is_digit ds ≡ true
decimal_digits [] h = refl
decimal_digits (b ∷ bs) h = let parts = decimal_parts b bs h in and_from _ _ parts.0 parts.1

-- a decimal lacks a byte that is no digit
pub decimals_lack : (c : ℕ) (ds : List ℕ) → is_digit c ≡ false → is_decimal ds ≡ true → lacks c ds ≡ true
decimals_lack c ds other h = digits_lack c ds other (decimal_digits ds h)

pub lacks-decimal : (c n : ℕ) → is_digit c ≡ false → n < 2 ^ 64 → lacks c (decimal n) ≡ true
lacks-decimal c n other small = decimals_lack c (decimal n) other (is_decimal-decimal n small)
