-- The number up to a limit of which a text is the decimal.
use Rattle.std.proofs.Common.{◌≡◌, ◌≢◌, ℕ, zero, suc, ◌<◌, ◌≤◌, ◌^◌, true, false, List, Some, None, if◌then◌else◌, decimal, ◌⊎◌, inl, inr, eqb, refl, sym, ap, ◌∙◌, arith}
use Rattle.std.specs.Str.{bytes_eq}
use Rattle.std.proofs.lemmas.Slice.Eq.{bytes_eq-Decides}
use Rattle.std.proofs.lemmas.Fmt.{decimal_injective}
use Rattle.std.proofs.lemmas.Bool.Decides.{eqb_tells}
use Rattle.repl_messages.specs.Numbers.{number_up_to}

-- one more number to try
step : (text : List ℕ) (n : ℕ) → number_up_to (suc n) text ≡ (if bytes_eq text (decimal (suc n)) then Some (suc n) else number_up_to n text)
unfolding number_up_to
step text n = refl

none_up_to_zero : (text : List ℕ) → number_up_to zero text ≡ None
unfolding number_up_to
none_up_to_zero text = refl

differs : (a b : List ℕ) → a ≢ b → bytes_eq a b ≡ false
differs a b h = elim (bytes_eq a b) as (λ t. bytes_eq a b ≡ t → t ≡ false) [ true ↦ λ e. absurd (h ((bytes_eq-Decides a b).0 e)) | false ↦ λ e. refl ] refl

-- a text that is the decimal of no number from 1 to the limit
pub number-none : (text : List ℕ) (limit : ℕ) → ((n : ℕ) → 1 ≤ n → n ≤ limit → text ≢ decimal n) → number_up_to limit text ≡ None
number-none text zero h = none_up_to_zero text
number-none text (suc n) h =
    step text n ∙ rw (differs text (decimal (suc n)) (h (suc n) (omega arith) (omega arith))) (number-none text n (λ m low high. h m low (omega arith)))

equals : (a b : List ℕ) → a ≡ b → bytes_eq a b ≡ true
equals a b e = (bytes_eq-Decides a b).1 e

found : (text : List ℕ) (k n : ℕ) → n ≡ suc k → text ≡ decimal n → number_up_to (suc k) text ≡ Some n
found text k n same e =
    let eq : bytes_eq text (decimal (suc k)) ≡ true = equals text (decimal (suc k)) (e ∙ ap decimal same) in
    step text k ∙ rw eq (ap (λ m. Some m) (sym same))

passed : (text : List ℕ) (k n : ℕ) → suc k < 2 ^ 64 → n ≤ suc k → n ≢ suc k → text ≡ decimal n → number_up_to k text ≡ Some n → number_up_to (suc k) text ≡ Some n
passed text k n small high other e more =
    let eq : bytes_eq text (decimal (suc k)) ≡ false = differs text (decimal (suc k)) (λ same. other (decimal_injective n (suc k) (omega arith) small (sym e ∙ same))) in
    step text k ∙ rw eq more

some_or_less : (text : List ℕ) (k n : ℕ) → suc k < 2 ^ 64 → 1 ≤ n → n ≤ suc k → text ≡ decimal n → ((eqb n (suc k) ≡ true) × (n ≡ suc k)) ⊎ ((eqb n (suc k) ≡ false) × (n ≢ suc k))
    → (n ≤ k → number_up_to k text ≡ Some n) → number_up_to (suc k) text ≡ Some n
some_or_less text k n small low high e (inl w) more = found text k n w.1 e
some_or_less text k n small low high e (inr w) more =
    let other : n ≢ suc k = w.1 in
    passed text k n small high other e (more (omega arith))

-- a text that is the decimal of a number from 1 to the limit
pub number-some : (text : List ℕ) (limit n : ℕ) → limit < 2 ^ 64 → 1 ≤ n → n ≤ limit → text ≡ decimal n → number_up_to limit text ≡ Some n
number-some text zero n small low high e = absurd (omega arith)
number-some text (suc k) n small low high e = some_or_less text k n small low high e (eqb_tells n (suc k)) (λ less. number-some text k n (omega arith) low less e)

-- a text that is the decimal of another number
pub number-other : (text : List ℕ) (limit n : ℕ) → limit < 2 ^ 64 → n < 2 ^ 64 → text ≡ decimal n → (1 ≤ n → n ≤ limit → ⊥) → number_up_to limit text ≡ None
number-other text limit n small fits e out =
    number-none text limit (λ m low high same.
    let eq : m ≡ n = decimal_injective m n (omega arith) fits (sym same ∙ e) in
    out (omega arith) (omega arith))
