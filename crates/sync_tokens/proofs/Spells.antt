-- The tokens of a text but the last can be spelled.
use Rattle.std.proofs.Common.{◌≡◌, ℕ, zero, suc, ◌+◌, ◌-◌, ◌*◌, ◌%◌, nat_lt, nat_le, Bool, true, false, cond, ◌||◌, List, [], ◌∷◌, ◌++◌, take, Option, Some, None, Result, Ok, Err, IfOk, refl, sym, subst, ap, ◌∙◌, ltb-true, ltb-false, arith}
use Rattle.std.specs.Prelude.{◌==◌, IsUtf8, encode_utf8}
use Rattle.std.specs.Str.{chars}
use Rattle.std.specs.Char.{is_ascii_digit, digit_value, IsScalar}
use Rattle.std.proofs.lemmas.Str.{encode_ascii, scalars-chars, IsUtf8-append, IsUtf8-encode, IsUtf8-nil}
use lib.Utf8.{scalar, scalars}
use Rattle.sync_tokens.specs.declared.place.Place.{Place}
use Rattle.sync_tokens.specs.declared.place.SyntaxWhy.TheVariants.{Range}
use Rattle.sync_tokens.specs.declared.token.Kind.TheVariants as kinds
use Rattle.sync_tokens.specs.declared.token.Sign.{Sign}
use Rattle.sync_tokens.specs.declared.token.Token.{Token}
use Rattle.sync_tokens.specs.declared.token.Word.{Word}
use Rattle.sync_tokens.specs.declared.literal.Inside.{Inside}
use Rattle.sync_tokens.specs.declared.literal.Inside.TheVariants.{Plain, Escape, Digits}
use Rattle.sync_tokens.specs.declared.literal.Step.{Step}
use Rattle.sync_tokens.specs.declared.literal.Step.TheVariants.{Goes, Gives, Closes, Fails}
use Rattle.sync_tokens.specs.declared.scan.Piece.{Piece}
use Rattle.sync_tokens.specs.declared.scan.Piece.TheVariants as pieces
use Rattle.sync_tokens.specs.Blanks.{is_space, comment_len}
use Rattle.sync_tokens.specs.Literals.{max_integer, digits_len, number, has_leading_zero, plain_step, escape_step, coded, digits_step, text_step, after_step, text_from, literal_at}
use Rattle.sync_tokens.specs.Places.{step, first_place}
use Rattle.sync_tokens.specs.Scan.{word, integer_by, integer, text_by, text, sign_by, comment_by, slash, piece_at, laid, tokens_from, tokens_in, tokens_of}
use Rattle.sync_tokens.specs.Signs.{sign_at}
use Rattle.sync_tokens.specs.Spellable.{is_part, AllParts, IsSpellable, IsLast, AreTokens, TextsHaveTokens}
use Rattle.sync_tokens.specs.Words.{is_letter, word_len, utf8, reserved, kind_by, word_kind}

by_bool : {P : Type 0} (b : Bool) → (b ≡ true → P) → (b ≡ false → P) → P
by_bool true f g = f refl
by_bool false f g = g refl

-- ---- what stands at a place

-- a token that can be spelled, or a last one
abbrev Stands : Piece → Type 0
Stands (pieces.Blank len) = Unit {0}
Stands (pieces.Token kind len) = IsSpellable kind
Stands (pieces.Last kind) = IsLast kind

-- ---- words

part_ascii : (c : ℕ) → is_part c ≡ true → nat_lt c 128 ≡ true
part_ascii c h = grind (arith, h)

utf8_part : (c : ℕ) (w : List ℕ) → is_part c ≡ true → utf8 (c ∷ w) ≡ c ∷ utf8 w
utf8_part c w h = ap (λ z. z ++ utf8 w) (encode_ascii c (ltb-true c 128 (part_ascii c h)))

-- the front of these characters that are letters and digits, as bytes
front : List ℕ → List ℕ
front cs = utf8 (take (word_len cs) cs)

pub record Fronts (cs : List ℕ) : Type 0 where
  pub bytes : List ℕ
  pub is : utf8 (take (word_len cs) cs) ≡ bytes
  pub parts : AllParts bytes

none_len : (c : ℕ) (cs : List ℕ) → is_part c ≡ false → word_len (c ∷ cs) ≡ 0
none_len c cs h = rw h refl

fronts : (cs : List ℕ) → Fronts cs
fronts [] = record { bytes = []; is = refl; parts = tt }
fronts (c ∷ cs) = by_bool (is_part c)
    (λ h. (let r : Fronts cs = fronts cs in
    let one : word_len (c ∷ cs) ≡ suc (word_len cs) = rw h (omega arith) in
    record { bytes = c ∷ r.bytes; is = ap (λ n. utf8 (take n (c ∷ cs))) one ∙ utf8_part c (take (word_len cs) cs) h ∙ ap (λ z. c ∷ z) r.is; parts = (h, r.parts) }))
    (λ h. record { bytes = []; is = ap (λ n. utf8 (take n (c ∷ cs))) (none_len c cs h); parts = tt })

letter_part : (c : ℕ) → is_letter c ≡ true → is_part c ≡ true
letter_part c l = ap (λ b. b || is_ascii_digit c) l

name_stands : (o : Option Word) (c : ℕ) (bs : List ℕ) → is_letter c ≡ true → AllParts bs → reserved (c ∷ bs) ≡ o → IsSpellable (kind_by o (c ∷ bs))
name_stands None c bs l parts free = record { first = c; rest = bs; is = refl; letter = l; parts = parts; free = free }
name_stands (Some w) c bs l parts free = tt

word_stands : (c : ℕ) (cs : List ℕ) → is_letter c ≡ true → Stands (word (c ∷ cs))
unfolding word_kind
word_stands c cs l =
    let r : Fronts cs = fronts cs in
    let one : word_len (c ∷ cs) ≡ suc (word_len cs) = rw (letter_part c l) (omega arith) in
    let bytes : utf8 (take (word_len (c ∷ cs)) (c ∷ cs)) ≡ c ∷ r.bytes = ap (λ n. utf8 (take n (c ∷ cs))) one ∙ utf8_part c (take (word_len cs) cs) (letter_part c l) ∙ ap (λ z. c ∷ z) r.is in
    subst (λ z. IsSpellable (kind_by (reserved z) z)) (sym bytes) (name_stands (reserved (c ∷ r.bytes)) c r.bytes l r.parts refl)

-- ---- integers

integer_kind_stands : (b c : Bool) (n len : ℕ) → c ≡ nat_lt max_integer n → Stands (integer_by (cond (b || c) (kinds.Bad Range) (kinds.Integer n)) len)
integer_kind_stands true c n len is = tt
integer_kind_stands false true n len is = tt
integer_kind_stands false false n len is = ltb-false max_integer n (sym is)

integer_stands : (cs : List ℕ) → Stands (integer cs)
integer_stands cs =
    let ds : List ℕ = take (digits_len cs) cs in
    integer_kind_stands (has_leading_zero ds) (nat_lt max_integer (number ds)) (number ds) (digits_len cs) refl

-- ---- texts

abbrev GivesScalar : Step → Type 0
GivesScalar (Gives c) = IsScalar c
GivesScalar _ = Unit {0}

step_cond : (b : Bool) (x y : Step) → GivesScalar x → GivesScalar y → GivesScalar (cond b x y)
step_cond true x y h k = h
step_cond false x y h k = k

plain_scalar : (quote c : ℕ) → IsScalar c → GivesScalar (plain_step quote c)
plain_scalar quote c h =
    step_cond (c == quote) Closes _ tt (step_cond (c == 10) Fails _ tt (step_cond (c == 92) (Goes Escape) (Gives c) tt h))

escape_scalar : (c : ℕ) → IsScalar c → GivesScalar (escape_step c)
escape_scalar c h =
    step_cond (c == 92 || c == 39 || c == 34) (Gives c) _ h
    (step_cond (c == 110) (Gives 10) _ refl (step_cond (c == 116) (Gives 9) _ refl (step_cond (c == 114) (Gives 13) _ refl (step_cond (c == 117) (Goes (Digits 4 0)) Fails tt tt))))

coded_by : (b : Bool) (code : ℕ) → scalar code ≡ b → GivesScalar (cond b (Gives code) Fails)
coded_by true code h = h
coded_by false code h = tt

digits_scalar : (left code c : ℕ) → GivesScalar (digits_step left code c)
digits_scalar left code c =
    let more : ℕ = code % 4096 * 16 + digit_value c in
    step_cond (nat_lt (digit_value c) 16) (cond (nat_le left 1) (coded more) (Goes (Digits (left - 1) more))) Fails
    (step_cond (nat_le left 1) (coded more) (Goes (Digits (left - 1) more)) (coded_by (scalar more) more refl) tt) tt

step_scalar : (quote : ℕ) (inside : Inside) (c : ℕ) → IsScalar c → GivesScalar (text_step quote inside c)
unfolding text_step
step_scalar quote Plain c h = plain_scalar quote c h
step_scalar quote Escape c h = escape_scalar c h
step_scalar quote (Digits left code) c h = digits_scalar left code c

abbrev FoundUtf8 : Option (List ℕ × ℕ) → Type 0
FoundUtf8 None = Unit {0}
FoundUtf8 (Some found) = IsUtf8 found.0

after_utf8 : (s : Step) (text : List ℕ) (count : ℕ) (rest : Inside → List ℕ → Option (List ℕ × ℕ)) → GivesScalar s → IsUtf8 text
    → ((inside : Inside) (longer : List ℕ) → IsUtf8 longer → FoundUtf8 (rest inside longer)) → FoundUtf8 (after_step s text count rest)
after_utf8 (Goes inside) text count rest h u k = k inside text u
after_utf8 (Gives c) text count rest h u k = k Plain (text ++ encode_utf8 c) (IsUtf8-append text (encode_utf8 c) u (IsUtf8-encode c h))
after_utf8 Closes text count rest h u k = u
after_utf8 Fails text count rest h u k = tt

scalar_first : (c : ℕ) (cs : List ℕ) → scalars (c ∷ cs) ≡ true → IsScalar c
scalar_first c cs h = grind (arith, h)

scalar_rest : (c : ℕ) (cs : List ℕ) → scalars (c ∷ cs) ≡ true → scalars cs ≡ true
scalar_rest c cs h = grind (arith, h)

text_utf8 : (quote : ℕ) (cs : List ℕ) → scalars cs ≡ true → (inside : Inside) (text : List ℕ) (count : ℕ) → IsUtf8 text → FoundUtf8 (text_from quote inside text count cs)
text_utf8 quote [] h inside text count u = tt
text_utf8 quote (c ∷ cs) h inside text count u =
    after_utf8 (text_step quote inside c) text count (λ next longer. text_from quote next longer (count + 1) cs) (step_scalar quote inside c (scalar_first c cs h)) u
    (λ next longer v. text_utf8 quote cs (scalar_rest c cs h) next longer (count + 1) v)

text_by_stands : (o : Option (List ℕ × ℕ)) → FoundUtf8 o → Stands (text_by o)
text_by_stands None u = tt
text_by_stands (Some found) u = u

text_stands : (quote : ℕ) (cs : List ℕ) → scalars cs ≡ true → Stands (text quote cs)
text_stands quote cs h = text_by_stands (literal_at quote cs) (text_utf8 quote cs h Plain [] 0 IsUtf8-nil)

-- ---- comments and signs

comment_stands : (o : Option ℕ) → Stands (comment_by o)
comment_stands None = tt
comment_stands (Some len) = tt

piece_cond : (b : Bool) (x y : Piece) → (b ≡ true → Stands x) → (b ≡ false → Stands y) → Stands (cond b x y)
piece_cond true x y h k = h refl
piece_cond false x y h k = k refl

slash_stands : (cs : List ℕ) → Stands (slash cs)
unfolding slash
slash_stands [] = tt
slash_stands (c ∷ cs) = piece_cond (c == 47) _ _ (λ _. tt) (λ _. piece_cond (c == 42) _ _ (λ _. comment_stands (comment_len cs)) (λ _. tt))

sign_stands : (o : Option (Sign × ℕ)) → Stands (sign_by o)
sign_stands None = tt
sign_stands (Some found) = tt

piece_stands : (cs : List ℕ) → scalars cs ≡ true → Stands (piece_at cs)
unfolding piece_at
piece_stands [] h = tt
piece_stands (c ∷ cs) h =
    piece_cond (is_space c) _ _ (λ _. tt)
    (λ _. piece_cond (is_letter c) _ _ (λ l. word_stands c cs l)
    (λ _. piece_cond (is_ascii_digit c) _ _ (λ _. integer_stands (c ∷ cs))
    (λ _. piece_cond (c == 39 || c == 34) _ _ (λ _. text_stands c cs (scalar_rest c cs h))
    (λ _. piece_cond (c == 47) _ _ (λ _. slash_stands cs) (λ _. sign_stands (sign_at (c ∷ cs)))))))

-- ---- all tokens

tokens_more : (t : Token) (ts : List Token) → IsSpellable t.kind → AreTokens ts → AreTokens (t ∷ ts)
tokens_more t [] h a = absurd a
tokens_more t (u ∷ ts) h a = (h, a)

laid_tokens : (p : Place) (piece : Piece) (rest : ℕ → List Token) → Stands piece → ((n : ℕ) → AreTokens (rest n)) → AreTokens (laid p piece rest)
laid_tokens p (pieces.Blank len) rest h k = k (len - 1)
laid_tokens p (pieces.Token kind len) rest h k = tokens_more (record { place = p; kind = kind }) (rest (len - 1)) h (k (len - 1))
laid_tokens p (pieces.Last kind) rest h k = h

from_tokens : (left : ℕ) (p : Place) (cs : List ℕ) → scalars cs ≡ true → AreTokens (tokens_from left p cs)
from_tokens left p [] h = tt
from_tokens (suc left) p (c ∷ cs) h = from_tokens left (step p c) cs (scalar_rest c cs h)
from_tokens zero p (c ∷ cs) h =
    laid_tokens p (piece_at (c ∷ cs)) (λ left. tokens_from left (step p c) cs) (piece_stands (c ∷ cs) h) (λ n. from_tokens n (step p c) cs (scalar_rest c cs h))

pub texts_have_tokens : TextsHaveTokens
unfolding tokens_of
texts_have_tokens bytes u = from_tokens 0 first_place (chars bytes) (scalars-chars bytes u)

-- what holds of each value that is had, where another thing does
pub if_ok_also : {A E : Type 0} (r : Result A E) (P Q : A → Type 0) → IfOk r P → ((a : A) → P a → Q a) → IfOk r Q
if_ok_also (Ok a) P Q h k = k a h
if_ok_also (Err e) P Q h k = tt

pub cut_tokens : (text cs : List ℕ) (ts : List Token) → IsUtf8 text → cs ≡ chars text → ts ≡ tokens_in cs → AreTokens ts
unfolding tokens_of
cut_tokens text cs ts u are is = subst AreTokens (sym (is ∙ ap tokens_in are)) (texts_have_tokens text u)
