-- hexadecimal texts
use Rattle.std.proofs.Common.{◌≡◌, ℕ, zero, suc, true, false, ◌&&◌, inl, inr, ◌+◌, ◌*◌, ◌<◌, ◌/◌, ◌%◌, List, [], ◌∷◌, ◌++◌, length, take, get_or, refl, sym, ap, ◌∙◌, arith, append_assoc}
use Rattle.std.proofs.lemmas.List.{take_more}
use Rattle.std.proofs.lemmas.Grind.{common_steps}
use Rattle.std.specs.Prelude.{nat_lt, Result, Ok, Err, OnOk}
use Rattle.sg_names.specs.declared.fault.TextFault.{TextFault}
use Rattle.sg_names.specs.declared.fault.TextFault.TheVariants.{Bad, Memory}
use Rattle.std.specs.List.{list_all}
use Rattle.std.proofs.lemmas.Bool.{and_parts, and_from, lt-ltb, eq-eqb, cases_Bool}
use Rattle.std.proofs.lemmas.List.Folds.{list_all-append}
use Rattle.sg_names.proofs.OneText.{hex_digits}
use Rattle.sg_names.specs.Hex.{hex_digit, hex_text, is_hex, is_hex_digit, HasRead}

-- one more byte at the end
pub hex_text-push : (bytes : List ℕ) (b : ℕ) → hex_text (bytes ++ b ∷ []) ≡ hex_text bytes ++ hex_digit (b / 16) ∷ hex_digit (b % 16) ∷ []
hex_text-push [] b = refl
hex_text-push (c ∷ bytes) b = ap (λ rest. hex_digit (c / 16) ∷ hex_digit (c % 16) ∷ rest) (hex_text-push bytes b)

pub hex_text_more : (bytes : List ℕ) (i : ℕ) → i < length bytes
    → hex_text (take (i + 1) bytes) ≡ hex_text (take i bytes) ++ hex_digit (get_or bytes i 0 / 16) ∷ hex_digit (get_or bytes i 0 % 16) ∷ []
hex_text_more bytes i inside = ap hex_text (take_more bytes i 0 inside) ∙ hex_text-push (take i bytes) (get_or bytes i 0)

-- the two digits of the next byte, put at the end one after the other
pub hex_written_more : (before out high low bytes : List ℕ) (i x y : ℕ) → i < length bytes
    → out ≡ before ++ hex_text (take i bytes) → x ≡ hex_digit (get_or bytes i 0 / 16) → y ≡ hex_digit (get_or bytes i 0 % 16)
    → high ≡ out ++ x ∷ [] → low ≡ high ++ y ∷ [] → low ≡ before ++ hex_text (take (i + 1) bytes)
hex_written_more before out high low bytes i x y inside written first second pushed again =
    let more = hex_text_more bytes i inside in
    let both : low ≡ out ++ x ∷ y ∷ [] = grind (arith, common_steps, pushed, again) in
    grind (arith, common_steps, more, both, written, first, second)

-- the byte of the next two digits
pub read_more : (text : List ℕ) (i : ℕ) (before out more : List ℕ) (b : ℕ) → HasRead text i before out → 2 * i + 1 < length text
    → b < 256 → hex_digit (b / 16) ≡ get_or text (2 * i) 0 → hex_digit (b % 16) ≡ get_or text (2 * i + 1) 0
    → more ≡ out ++ b ∷ [] → HasRead text (i + 1) before more
read_more text i before out more b has inside small first second pushed =
    let place : 2 * (i + 1) ≡ (2 * i + 1) + 1 = omega arith in
    let one = take_more text (2 * i) 0 (omega arith) in
    let two = take_more text (2 * i + 1) 0 inside in
    let both : take (2 * (i + 1)) text ≡ hex_text has.bytes ++ hex_digit (b / 16) ∷ hex_digit (b % 16) ∷ [] =
    grind (arith, common_steps, ap (λ n. take n text) place, one, two, first, second, has.spelled) in
    record {
      bytes = has.bytes ++ b ∷ [];
      spelled = both ∙ sym (hex_text-push has.bytes b);
      appended = pushed ∙ ap (λ front. front ++ b ∷ []) has.appended ∙ append_assoc before has.bytes (b ∷ []);
      are = list_all-append (λ c. nat_lt c 256) has.bytes (b ∷ []) ∙ and_from _ _ has.are (and_from _ _ (lt-ltb b 256 small) refl);
    }

all_at : (text : List ℕ) (i : ℕ) → list_all (λ b. is_hex_digit b) text ≡ true → i < length text → is_hex_digit (get_or text i 0) ≡ true
all_at [] i all inside = absurd (omega arith)
all_at (b ∷ bs) zero all inside = (and_parts (is_hex_digit b) (list_all (λ c. is_hex_digit c) bs) all).0
all_at (b ∷ bs) (suc i) all inside = all_at bs i (and_parts (is_hex_digit b) (list_all (λ c. is_hex_digit c) bs) all).1 (omega arith)

-- a byte that is no digit
pub not_all : (text : List ℕ) (i : ℕ) → i + 1 < length text → (is_hex_digit (get_or text i 0) && is_hex_digit (get_or text (i + 1) 0)) ≡ false
    → list_all (λ b. is_hex_digit b) text ≡ false
not_all text i inside none = elim (cases_Bool (list_all (λ b. is_hex_digit b) text)) [
  | inl all ↦ absurd (cc (none, and_from _ _ (all_at text i all (omega arith)) (all_at text (i + 1) all inside)))
  | inr some ↦ some
]

take_all : (xs : List ℕ) → take (length xs) xs ≡ xs
take_all xs = grind (arith, common_steps)

-- all pairs were read
pub read_all : (text before after : List ℕ) → length text % 2 ≡ 0 → HasRead text (length text / 2) before after
    → ((bytes : List ℕ) × (text ≡ hex_text bytes) × (after ≡ before ++ bytes)) × (list_all (λ b. is_hex_digit b) text ≡ true)
read_all text before after even has =
    let long : 2 * (length text / 2) ≡ length text = omega arith in
    let whole : text ≡ hex_text has.bytes = sym (ap (λ n. take n text) long ∙ take_all text) ∙ has.spelled in
    ((has.bytes, whole, has.appended), ap (list_all (λ b. is_hex_digit b)) whole ∙ hex_digits has.bytes has.are)

is_hex_from : (text : List ℕ) → 0 < length text → length text % 2 ≡ 0 → list_all (λ b. is_hex_digit b) text ≡ true → is_hex text ≡ true
is_hex_from text some even all =
    and_from _ _ (and_from _ _ (lt-ltb 0 (length text) some) (eq-eqb (length text % 2) 0 even)) all

-- a text that was read is in the grammar
pub read_hex : {T : Type 0} (r : Result T TextFault) (text before after : List ℕ) → 0 < length text → length text % 2 ≡ 0
    → OnOk r (HasRead text (length text / 2) before after) → OnOk r (is_hex text ≡ true)
read_hex (Ok x) text before after some even has = is_hex_from text some even (read_all text before after even has).1
read_hex (Err e) text before after some even has = tt

-- a text outside the grammar is refused as such
pub refused_hex : {T : Type 0} (r : Result T TextFault) (text : List ℕ) → 0 < length text → length text % 2 ≡ 0
    → (r ≡ Err Memory → list_all (λ b. is_hex_digit b) text ≡ true) → OnOk r (is_hex text ≡ true) → ¬ (is_hex text ≡ true) → r ≡ Err Bad
refused_hex (Ok x) text some even memory ok outside = absurd (outside ok)
refused_hex (Err Bad) text some even memory ok outside = refl
refused_hex (Err Memory) text some even memory ok outside = absurd (outside (is_hex_from text some even (memory refl)))
