-- What is left of a message once a piece has gone, and a piece of bytes that lie in two lists.
use Rattle.std.proofs.Common.{◌≡◌, ℕ, zero, suc, ◌+◌, ◌-◌, ◌<◌, ◌≤◌, true, List, [], ◌∷◌, ◌++◌, length, take, drop, ltb, refl, sym, ap, ◌∙◌, arith}
use Rattle.std.proofs.lemmas.Bool.{ltb-true}
use Rattle.std.proofs.lemmas.List.{drop-drop, drop_all, take_all, length-append, length-drop, length-take}
use native.Mathlib.Numerals.{unary_clauses}
use Rattle.blip_frame.specs.Frame.{largest_written}

pub drop_again : (xs : List ℕ) (n m : ℕ) → drop (n + m) xs ≡ drop m (drop n xs)
drop_again xs n m = sym (drop-drop m n xs)

pub more_left : (xs ys : List ℕ) (n : ℕ) → ltb largest_written (length (drop n (xs ++ ys))) ≡ true → n + largest_written < length xs + length ys
more_left xs ys n more = omega (arith, ltb-true largest_written (length (drop n (xs ++ ys))) more, length-drop n (xs ++ ys), length-append xs ys)

pub none_left : (xs : List ℕ) (n : ℕ) → length xs ≤ n → drop n xs ≡ []
none_left xs n h = drop_all n xs h

pub all_taken : (xs : List ℕ) (n : ℕ) → length xs ≤ n → take n xs ≡ xs
all_taken xs n h = take_all n xs h

drop_both : (xs ys : List ℕ) (n : ℕ) → drop n (xs ++ ys) ≡ drop n xs ++ drop (n - length xs) ys
drop_both [] ys zero = refl
drop_both [] ys (suc n) = simp unary_clauses refl
drop_both (x ∷ xs) ys zero = let e : 0 ≡ 0 - suc (length xs) = omega arith in ap (λ (k : ℕ). (x ∷ xs) ++ drop k ys) e
drop_both (x ∷ xs) ys (suc n) = simp unary_clauses (drop_both xs ys n)

take_both : (xs ys : List ℕ) (n : ℕ) → take n (xs ++ ys) ≡ take n xs ++ take (n - length xs) ys
take_both [] [] zero = refl
take_both [] [] (suc n) = simp unary_clauses refl
take_both [] (y ∷ ys) zero = refl
take_both [] (y ∷ ys) (suc n) = simp unary_clauses refl
take_both (x ∷ xs) ys zero = let e : 0 ≡ 0 - suc (length xs) = omega arith in ap (λ (k : ℕ). take k ys) e
take_both (x ∷ xs) ys (suc n) = simp unary_clauses (ap (λ l. x ∷ l) (take_both xs ys n))

-- the piece of two lists, of which the second begins where the first ends
both_parts : (front body : List ℕ) (start n : ℕ)
    → take n (drop start front) ++ take (n - length (take n (drop start front))) (drop (start - length front) body) ≡ take n (drop start (front ++ body))
both_parts front body start n =
    let e : n - length (take n (drop start front)) ≡ n - length (drop start front) = omega (arith, length-take n (drop start front)) in
    ap (λ k. take n (drop start front) ++ take k (drop (start - length front) body)) e
    ∙ sym (take_both (drop start front) (drop (start - length front) body) n)
    ∙ ap (take n) (sym (drop_both front body start))

-- the same of what was computed for it
pub piece_of : (front body all some whole part first second : List ℕ) (start place len n : ℕ)
    → all ≡ front → some ≡ drop start all → first ≡ take n some
    → whole ≡ body → len ≡ length front → place ≡ start - len → part ≡ drop place whole → second ≡ take (n - length first) part
    → first ++ second ≡ take n (drop start (front ++ body))
piece_of front body all some whole part first second start place len n e1 e2 e3 e4 e5 e6 e7 e8 =
    rw (e8, e7, e6, e5, e4, e3, e2, e1) (both_parts front body start n)
