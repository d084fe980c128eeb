-- What stands between double quotes.
use Rattle.std.proofs.Common.{◌≡◌, ◌≢◌, ℕ, List, [], ◌∷◌, ◌++◌, true, false, nat_eq, eqb, ◌⊎◌, Some, None, option_map, refl, ap, inl, inr}
use Rattle.std.proofs.lemmas.Bool.Decides.{eqb_tells}
use Rattle.repl_messages.specs.SubChanges.{before_quote, unquoted}

before_quote-last : (front : List ℕ) → before_quote (front ++ 34 ∷ []) ≡ Some front
before_quote-last [] = refl
before_quote-last (b ∷ []) = refl
before_quote-last (b ∷ c ∷ bs) = ap (λ front. option_map (λ xs. b ∷ xs) front) (before_quote-last (c ∷ bs))

-- a text between two double quotes
pub unquoted-quoted : (text rest inner : List ℕ) → text ≡ 34 ∷ rest → rest ≡ inner ++ 34 ∷ [] → inner ≡ unquoted text
unquoted-quoted text rest inner e f = rw (e, f, before_quote-last inner) refl

no_quote : (b : ℕ) (bs : List ℕ) → ((eqb b 34 ≡ true) × (b ≡ 34)) ⊎ ((eqb b 34 ≡ false) × (b ≢ 34)) → ((rest : List ℕ) → (b ∷ bs) ≢ 34 ∷ rest) → nat_eq b 34 ≡ false
no_quote b bs (inl w) h = absurd (h bs (ap (λ x. x ∷ bs) w.1))
no_quote b bs (inr w) h = w.0

-- a text that begins with no double quote
pub unquoted-bare : (text : List ℕ) → ((rest : List ℕ) → text ≢ 34 ∷ rest) → text ≡ unquoted text
unquoted-bare [] h = refl
unquoted-bare (b ∷ bs) h = rw (no_quote b bs (eqb_tells b 34) h) refl

no_last_quote : (b : ℕ) → ((eqb b 34 ≡ true) × (b ≡ 34)) ⊎ ((eqb b 34 ≡ false) × (b ≢ 34)) → ((front : List ℕ) → (b ∷ []) ≢ front ++ 34 ∷ []) → nat_eq b 34 ≡ false
no_last_quote b (inl w) h = absurd (h [] (ap (λ x. x ∷ []) w.1))
no_last_quote b (inr w) h = w.0

before_quote-none : (bs : List ℕ) → ((front : List ℕ) → bs ≢ front ++ 34 ∷ []) → before_quote bs ≡ None
before_quote-none [] h = refl
before_quote-none (b ∷ []) h = rw (no_last_quote b (eqb_tells b 34) h) refl
before_quote-none (b ∷ c ∷ bs) h = ap (λ front. option_map (λ xs. b ∷ xs) front) (before_quote-none (c ∷ bs) (λ front e. h (b ∷ front) (ap (λ xs. b ∷ xs) e)))

-- a text that begins with a double quote, and ends with no second
pub unquoted-open : (text rest : List ℕ) → text ≡ 34 ∷ rest → ((front : List ℕ) → rest ≢ front ++ 34 ∷ []) → text ≡ unquoted text
unquoted-open text rest e h = rw (e, before_quote-none rest h) refl
