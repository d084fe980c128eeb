-- Words, names and integers that are printed are cut out again, and so is the space between tokens.
use Rattle.std.proofs.Common.{◌≡◌, ℕ, suc, ◌+◌, ◌*◌, ◌%◌, ◌/◌, ◌<◌, ◌≤◌, min, nat_lt, Bool, true, false, cond, ◌||◌, ◌⊎◌, inl, inr, List, [], ◌∷◌, ◌++◌, take, length, Some, None, refl, sym, subst, ap, ◌∙◌, true≢false, eqb-true, ltb-true, ltb-false, le-ltb, arith}
use Rattle.std.specs.Str.{chars}
use Rattle.std.specs.Prelude.{decimal, fold, ◌==◌}
use Rattle.std.specs.Char.{is_ascii_digit}
use Rattle.std.proofs.lemmas.Fmt.{decimal_by_steps}
use Rattle.std.proofs.lemmas.List.{take_at}
use Rattle.std.proofs.lemmas.Str.{encode_ascii}
use Rattle.sync_tokens.specs.Blanks.{is_space}
use Rattle.sync_tokens.specs.Literals.{max_integer, digits_len, digit, number, has_leading_zero, integer_kind}
use Rattle.sync_tokens.specs.Scan.{piece_at, word, integer, integer_by}
use Rattle.sync_tokens.specs.Words.{is_letter, word_len, utf8, reserved, kind_by, word_kind}
use Rattle.sync_tokens.specs.declared.token.Kind.TheVariants as kinds
use Rattle.sync_tokens.specs.declared.token.Sign.{Sign}
use Rattle.sync_tokens.specs.declared.token.Sign.TheVariants as signs
use Rattle.sync_tokens.specs.declared.token.Word.{Word}
use Rattle.sync_print.specs.Spelling.{sign_text}
use Rattle.sync_tokens.specs.Spellable.{is_part, AllParts}
use Rattle.sync_print.proofs.CutTokens.{Stops, at_end, at_space, at_paren_close, at_bracket_close, at_comma, at_semicolon, at_colon, at_dot, at_paren_open, at_bracket_open}

-- ---- ASCII

abbrev pub AllAscii : List ℕ → Type 0
AllAscii [] = Unit {0}
AllAscii (c ∷ cs) = (nat_lt c 128 ≡ true) × AllAscii cs

pub ascii_first : (c : ℕ) (bs : List ℕ) → nat_lt c 128 ≡ true → chars (c ∷ bs) ≡ c ∷ chars bs
unfolding chars
ascii_first c [] h = rw h refl
ascii_first c (b ∷ bs) h = rw h refl

pub chars_ascii : (w rest : List ℕ) → AllAscii w → chars (w ++ rest) ≡ w ++ chars rest
chars_ascii [] rest a = refl
chars_ascii (c ∷ w) rest a = ascii_first c (w ++ rest) a.0 ∙ ap (λ z. c ∷ z) (chars_ascii w rest a.1)

pub utf8_ascii : (w : List ℕ) → AllAscii w → utf8 w ≡ w
utf8_ascii [] a = refl
utf8_ascii (c ∷ w) a = ap (λ z. z ++ utf8 w) (encode_ascii c (ltb-true c 128 a.0)) ∙ ap (λ z. c ∷ z) (utf8_ascii w a.1)

pub sign_ascii : (s : Sign) → AllAscii (sign_text s)
sign_ascii signs.ParenOpen = (refl, tt)
sign_ascii signs.ParenClose = (refl, tt)
sign_ascii signs.BraceOpen = (refl, tt)
sign_ascii signs.BraceClose = (refl, tt)
sign_ascii signs.BracketOpen = (refl, tt)
sign_ascii signs.BracketClose = (refl, tt)
sign_ascii signs.Comma = (refl, tt)
sign_ascii signs.Semicolon = (refl, tt)
sign_ascii signs.Colon = (refl, tt)
sign_ascii signs.Dot = (refl, tt)
sign_ascii signs.Question = (refl, tt)
sign_ascii signs.Assign = (refl, tt)
sign_ascii signs.PlusAssign = (refl, (refl, tt))
sign_ascii signs.MinusAssign = (refl, (refl, tt))
sign_ascii signs.Increment = (refl, (refl, tt))
sign_ascii signs.Decrement = (refl, (refl, tt))
sign_ascii signs.Plus = (refl, tt)
sign_ascii signs.Minus = (refl, tt)
sign_ascii signs.Star = (refl, tt)
sign_ascii signs.Not = (refl, tt)
sign_ascii signs.Or = (refl, (refl, tt))
sign_ascii signs.And = (refl, (refl, tt))
sign_ascii signs.Equal = (refl, (refl, tt))
sign_ascii signs.NotEqual = (refl, (refl, tt))
sign_ascii signs.Same = (refl, (refl, (refl, tt)))
sign_ascii signs.NotSame = (refl, (refl, (refl, tt)))
sign_ascii signs.Less = (refl, tt)
sign_ascii signs.LessOrEqual = (refl, (refl, tt))
sign_ascii signs.Greater = (refl, tt)
sign_ascii signs.GreaterOrEqual = (refl, (refl, tt))

-- ---- words and names

stops_word : (cs : List ℕ) → Stops cs → word_len cs ≡ 0
stops_word _ at_end = refl
stops_word _ (at_space cs) = refl
stops_word _ (at_paren_close cs) = refl
stops_word _ (at_bracket_close cs) = refl
stops_word _ (at_comma cs) = refl
stops_word _ (at_semicolon cs) = refl
stops_word _ (at_colon cs) = refl
stops_word _ (at_dot cs) = refl
stops_word _ (at_paren_open cs) = refl
stops_word _ (at_bracket_open cs) = refl

word_len_of : (w cs : List ℕ) → AllParts w → Stops cs → word_len (w ++ cs) ≡ length w
word_len_of [] cs a s = stops_word cs s
word_len_of (c ∷ w) cs a s =
    let one : 1 + length w ≡ suc (length w) = omega arith in
    ap (λ b. cond b (1 + word_len (w ++ cs)) 0) a.0 ∙ ap (λ n. 1 + n) (word_len_of w cs a.1 s) ∙ one

either : (x y : Bool) → (x || y) ≡ true → (x ≡ true) ⊎ (y ≡ true)
either true y h = inl refl
either false y h = inr h

not_true : (b : Bool) → (b ≡ true → ⊥) → b ≡ false
not_true true no_way = absurd (no_way refl)
not_true false no_way = refl

-- neither a letter nor a digit
no_other : (f : ℕ → Bool) (c n : ℕ) → f n ≡ false → f c ≡ true → (c == n) ≡ true → ⊥
no_other f c n none is same = true≢false (sym (subst (λ m. f m ≡ true) (eqb-true c n same) is) ∙ none)

no_space_by : (f : ℕ → Bool) (c : ℕ) → f 32 ≡ false → f 9 ≡ false → f 13 ≡ false → f 10 ≡ false → f c ≡ true → is_space c ≡ true → ⊥
no_space_by f c a b d e l s =
    elim (either (c == 32 || c == 9 || c == 13) (c == 10) s) [
      | inr x ↦ no_other f c 10 e l x
      | inl x ↦ elim (either (c == 32 || c == 9) (c == 13) x) [
        | inr y ↦ no_other f c 13 d l y
        | inl y ↦ elim (either (c == 32) (c == 9) y) [
          | inr z ↦ no_other f c 9 b l z
          | inl z ↦ no_other f c 32 a l z
        ]
      ]
    ]

no_letter_space : (c : ℕ) → is_letter c ≡ true → is_space c ≡ true → ⊥
no_letter_space c l = no_space_by is_letter c refl refl refl refl l

-- a word with a letter first
pub word_piece : (c : ℕ) (w cs : List ℕ) → is_letter c ≡ true → AllParts w → Stops cs → piece_at (c ∷ (w ++ cs)) ≡ word (c ∷ (w ++ cs))
unfolding piece_at
word_piece c w cs l a s =
    let none : is_space c ≡ false = not_true (is_space c) (no_letter_space c l) in
    rw (none, l) refl

pub letter_part : (c : ℕ) → is_letter c ≡ true → is_part c ≡ true
letter_part c l = ap (λ b. b || is_ascii_digit c) l

taken_word : (c : ℕ) (w cs : List ℕ) → is_letter c ≡ true → AllParts w → Stops cs → take (word_len (c ∷ (w ++ cs))) (c ∷ (w ++ cs)) ≡ c ∷ w
taken_word c w cs l a s =
    ap (λ n. take n (c ∷ (w ++ cs))) (word_len_of (c ∷ w) cs (letter_part c l, a) s) ∙ take_at (c ∷ w) cs (length (c ∷ w)) refl

part_ascii : (c : ℕ) → is_part c ≡ true → nat_lt c 128 ≡ true
part_ascii c h = grind (arith, h)

pub parts_ascii : (w : List ℕ) → AllParts w → AllAscii w
parts_ascii [] a = tt
parts_ascii (c ∷ w) a = (part_ascii c a.0, parts_ascii w a.1)

kind_of_word : (c : ℕ) (w : List ℕ) → is_letter c ≡ true → AllParts w → word_kind (c ∷ w) ≡ kind_by (reserved (c ∷ w)) (c ∷ w)
unfolding word_kind
kind_of_word c w l a = ap (λ z. kind_by (reserved z) z) (utf8_ascii (c ∷ w) (parts_ascii (c ∷ w) (letter_part c l, a)))

pub name_piece : (c : ℕ) (w cs : List ℕ) → is_letter c ≡ true → AllParts w → reserved (c ∷ w) ≡ None → Stops cs → piece_at (c ∷ (w ++ cs)) ≡ integer_by (kinds.Name (c ∷ w)) (suc (length w))
name_piece c w cs l a free s =
    let len : word_len (c ∷ (w ++ cs)) ≡ suc (length w) = word_len_of (c ∷ w) cs (letter_part c l, a) s in
    let k : word_kind (c ∷ w) ≡ kinds.Name (c ∷ w) = kind_of_word c w l a ∙ ap (λ r. kind_by r (c ∷ w)) free in
    let t : take (word_len (c ∷ (w ++ cs))) (c ∷ (w ++ cs)) ≡ c ∷ w = taken_word c w cs l a s in
    word_piece c w cs l a s ∙ rw (t, k, len) refl

pub keyword_piece : (x : Word) (c : ℕ) (w cs : List ℕ) → is_letter c ≡ true → AllParts w → reserved (c ∷ w) ≡ Some x → Stops cs → piece_at (c ∷ (w ++ cs)) ≡ integer_by (kinds.Word x) (suc (length w))
keyword_piece x c w cs l a free s =
    let len : word_len (c ∷ (w ++ cs)) ≡ suc (length w) = word_len_of (c ∷ w) cs (letter_part c l, a) s in
    let k : word_kind (c ∷ w) ≡ kinds.Word x = kind_of_word c w l a ∙ ap (λ r. kind_by r (c ∷ w)) free in
    let t : take (word_len (c ∷ (w ++ cs))) (c ∷ (w ++ cs)) ≡ c ∷ w = taken_word c w cs l a s in
    word_piece c w cs l a s ∙ rw (t, k, len) refl

-- ---- integers

abbrev AllDigits : List ℕ → Type 0
AllDigits [] = Unit {0}
AllDigits (c ∷ cs) = (is_ascii_digit c ≡ true) × AllDigits cs

stops_digits : (cs : List ℕ) → Stops cs → digits_len cs ≡ 0
stops_digits _ at_end = refl
stops_digits _ (at_space cs) = refl
stops_digits _ (at_paren_close cs) = refl
stops_digits _ (at_bracket_close cs) = refl
stops_digits _ (at_comma cs) = refl
stops_digits _ (at_semicolon cs) = refl
stops_digits _ (at_colon cs) = refl
stops_digits _ (at_dot cs) = refl
stops_digits _ (at_paren_open cs) = refl
stops_digits _ (at_bracket_open cs) = refl

digits_len_of : (w cs : List ℕ) → AllDigits w → Stops cs → digits_len (w ++ cs) ≡ length w
digits_len_of [] cs a s = stops_digits cs s
digits_len_of (c ∷ w) cs a s =
    let one : 1 + length w ≡ suc (length w) = omega arith in
    ap (λ b. cond b (1 + digits_len (w ++ cs)) 0) a.0 ∙ ap (λ n. 1 + n) (digits_len_of w cs a.1 s) ∙ one

all_digits_append : (v w : List ℕ) → AllDigits v → AllDigits w → AllDigits (v ++ w)
all_digits_append [] w a b = b
all_digits_append (c ∷ v) w a b = (a.0, all_digits_append v w a.1 b)

abbrev number_step : ℕ → ℕ → ℕ
number_step n c = min (10 * n + digit c) (max_integer + 1)

fold_append : (n : ℕ) (v : List ℕ) (c : ℕ) → fold number_step n (v ++ c ∷ []) ≡ number_step (fold number_step n v) c
fold_append n [] c = refl
fold_append n (d ∷ v) c = fold_append (number_step n d) v c

-- the digits of a number
record Digits (n : ℕ) (ds : List ℕ) : Type 0 where
  first : ℕ
  rest : List ℕ
  is : ds ≡ first ∷ rest
  all : AllDigits ds
  leading : 0 < n → (first == 48) ≡ false
  single : n < 10 → rest ≡ []
  value : n ≤ max_integer → number ds ≡ n

digit_is : (n : ℕ) → n < 10 → is_ascii_digit (48 + n) ≡ true
digit_is n h = grind (arith, h)

digit_value_is : (n : ℕ) → n < 10 → digit (48 + n) ≡ n
digit_value_is n h = grind (arith, h)

one_digit : (n : ℕ) → n < 10 → Digits n ((48 + n) ∷ [])
one_digit n h =
    let small : 10 * 0 + n ≤ max_integer = omega (arith, h) in
    record {
      first = 48 + n;
      rest = [];
      is = refl;
      all = (digit_is n h, tt);
      leading = λ some. grind (arith, some);
      single = λ _. refl;
      value = λ _. ap (λ d. min (10 * 0 + d) (max_integer + 1)) (digit_value_is n h) ∙ (omega (arith, h));
    }

more_digits : (n : ℕ) (ds : List ℕ) → 10 ≤ n → Digits (n / 10) ds → Digits n (ds ++ (48 + n % 10) ∷ [])
more_digits n ds h d =
    let low : n % 10 < 10 = grind arith in
    let some : 0 < n / 10 = grind (arith, h) in
    let whole : 10 * (n / 10) + n % 10 ≡ n = grind arith in
    record {
      first = d.first;
      rest = d.rest ++ (48 + n % 10) ∷ [];
      is = ap (λ z. z ++ (48 + n % 10) ∷ []) d.is;
      all = all_digits_append ds ((48 + n % 10) ∷ []) d.all (digit_is (n % 10) low, tt);
      leading = λ _. d.leading some;
      single = λ below. absurd (omega (arith, h, below));
      value = λ small. (
          let less : n / 10 ≤ max_integer = grind (arith, small) in
          fold_append 0 ds (48 + n % 10)
          ∙ ap (λ z. min (10 * z + digit (48 + n % 10)) (max_integer + 1)) (d.value less)
          ∙ ap (λ z. min (10 * (n / 10) + z) (max_integer + 1)) (digit_value_is (n % 10) low)
          ∙ ap (λ z. min z (max_integer + 1)) whole
          ∙ omega (arith, small));
    }

digits_of : (n : ℕ) → n ≤ max_integer → Digits n (decimal n)
digits_of n h = decimal_by_steps Digits one_digit more_digits n (omega (arith, h))

leading_of : (c : ℕ) (cs : List ℕ) → (cs ≡ []) ⊎ ((c == 48) ≡ false) → has_leading_zero (c ∷ cs) ≡ false
leading_of c [] h = refl
leading_of c (d ∷ cs) (inl none) = absurd cc
leading_of c (d ∷ cs) (inr other) = other

leading_cases : (n : ℕ) (ds : List ℕ) (d : Digits n ds) (b : Bool) → nat_lt n 10 ≡ b → (d.rest ≡ []) ⊎ ((d.first == 48) ≡ false)
leading_cases n ds d true h = inl (d.single (ltb-true n 10 h))
leading_cases n ds d false h = inr (d.leading (omega (arith, ltb-false n 10 h)))

integer_of : (n : ℕ) (d : Digits n (decimal n)) → n ≤ max_integer → integer_kind (d.first ∷ d.rest) ≡ kinds.Integer n
integer_of n d h =
    let value : number (d.first ∷ d.rest) ≡ n = ap number (sym d.is) ∙ d.value h in
    let leading : has_leading_zero (d.first ∷ d.rest) ≡ false = leading_of d.first d.rest (leading_cases n (decimal n) d (nat_lt n 10) refl) in
    let small : nat_lt max_integer n ≡ false = le-ltb max_integer n h in
    rw (leading, value, small) refl

digit_no_letter : (c : ℕ) → is_ascii_digit c ≡ true → is_letter c ≡ false
digit_no_letter c h = not_true (is_letter c) (λ l. grind (arith, h, l))

digit_no_space : (c : ℕ) → is_ascii_digit c ≡ true → is_space c ≡ false
digit_no_space c h = not_true (is_space c) (no_space_by is_ascii_digit c refl refl refl refl h)

digit_piece : (c : ℕ) (cs : List ℕ) → is_ascii_digit c ≡ true → piece_at (c ∷ cs) ≡ integer (c ∷ cs)
unfolding piece_at
digit_piece c cs h = rw (digit_no_space c h, digit_no_letter c h, h) refl

pub integer_piece : (n c : ℕ) (w cs : List ℕ) → AllDigits (c ∷ w) → integer_kind (c ∷ w) ≡ kinds.Integer n → Stops cs → piece_at (c ∷ (w ++ cs)) ≡ integer_by (kinds.Integer n) (suc (length w))
integer_piece n c w cs a k s =
    let len : digits_len (c ∷ (w ++ cs)) ≡ suc (length w) = digits_len_of (c ∷ w) cs a s in
    let t : take (digits_len (c ∷ (w ++ cs))) (c ∷ (w ++ cs)) ≡ c ∷ w = ap (λ n'. take n' (c ∷ (w ++ cs))) len ∙ take_at (c ∷ w) cs (suc (length w)) refl in
    digit_piece c (w ++ cs) a.0 ∙ rw (t, k, len) refl

digit_ascii : (c : ℕ) → is_ascii_digit c ≡ true → nat_lt c 128 ≡ true
digit_ascii c h = grind (arith, h)

pub digits_ascii : (w : List ℕ) → AllDigits w → AllAscii w
digits_ascii [] a = tt
digits_ascii (c ∷ w) a = (digit_ascii c a.0, digits_ascii w a.1)

pub record IntegerText (n : ℕ) : Type 0 where
  pub first : ℕ
  pub rest : List ℕ
  pub is : decimal n ≡ first ∷ rest
  pub ascii : AllAscii (first ∷ rest)
  pub piece : (cs : List ℕ) → Stops cs → piece_at (first ∷ (rest ++ cs)) ≡ integer_by (kinds.Integer n) (suc (length rest))

pub integer_text : (n : ℕ) → n ≤ max_integer → IntegerText n
integer_text n h =
    let d : Digits n (decimal n) = digits_of n h in
    let all : AllDigits (d.first ∷ d.rest) = subst (λ z. AllDigits z) d.is d.all in
    record {
      first = d.first;
      rest = d.rest;
      is = d.is;
      ascii = digits_ascii (d.first ∷ d.rest) all;
      piece = λ cs s. integer_piece n d.first d.rest cs all (integer_of n d h) s;
    }
