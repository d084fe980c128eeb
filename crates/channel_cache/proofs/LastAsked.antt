-- the channels asked for in turn are the last distinct ones
use Rattle.std.proofs.Common.{◌≡◌, ◌<◌, ℕ, zero, suc, refl, sym, ◌∙◌, ap, arith, Bool, true, false, ◌||◌, not, cond, List, [], ◌∷◌, ◌++◌, take, reverse, append_assoc}
use Rattle.std.specs.Str.{bytes_eq}
use Rattle.std.proofs.lemmas.Bool.{true≢false}
use Rattle.std.proofs.lemmas.List.{append-nil, reverse-append}
use Rattle.sg_history.specs.History.{among}
use Rattle.channel_cache.specs.Asked.{asked_after, asked_after_all, last_distinct, others}
use Rattle.channel_cache.specs.inner.Asking.{Apart}
use Rattle.channel_cache.proofs.Changing.{same_name}
use Rattle.channel_cache.proofs.Names.{others_none}

neither : (a b : Bool) → (a || b) ≡ false → (a ≡ false) × (b ≡ false)
neither true b h = absurd (true≢false h)
neither false b h = (refl, h)

-- one is not among the others, nor is what is not among all
not_other : (xs : List (List ℕ)) (c : List ℕ) → among (others c xs) c ≡ false
not_other [] c = refl
not_other (x ∷ xs) c = by (bytes_eq x c) refl (not_other xs c)
  where
    by : (b : Bool) → bytes_eq x c ≡ b → among (others c xs) c ≡ false → among (cond (not b) (x ∷ others c xs) (others c xs)) c ≡ false
    by true is rest = rest
    by false is rest = ap (λ (b : Bool). b || among (others c xs) c) is ∙ rest

none_of_others : (xs : List (List ℕ)) (c x : List ℕ) → among xs x ≡ false → among (others c xs) x ≡ false
none_of_others [] c x none = refl
none_of_others (y ∷ ys) c x none = by (bytes_eq y c) (neither (bytes_eq y x) (among ys x) none) (λ h. none_of_others ys c x h)
  where
    by : (b : Bool) → (bytes_eq y x ≡ false) × (among ys x ≡ false) → (among ys x ≡ false → among (others c ys) x ≡ false) → among (cond (not b) (y ∷ others c ys) (others c ys)) x ≡ false
    by true two rest = rest two.1
    by false two rest = ap (λ (b : Bool). b || among (others c ys) x) two.0 ∙ rest two.1

apart_others : (xs : List (List ℕ)) (c : List ℕ) → Apart xs → Apart (others c xs)
apart_others [] c apart = tt
apart_others (x ∷ xs) c apart = by (bytes_eq x c) (apart_others xs c apart.1)
  where
    by : (b : Bool) → Apart (others c xs) → Apart (cond (not b) (x ∷ others c xs) (others c xs))
    by true rest = rest
    by false rest = (none_of_others xs c x apart.0, rest)

apart_distinct : (xs : List (List ℕ)) → Apart (last_distinct xs)
apart_distinct [] = tt
apart_distinct (x ∷ xs) = (not_other (last_distinct xs) x, apart_others (last_distinct xs) x (apart_distinct xs))

take_none : (n : ℕ) → ◌≡◌ {A = List (List ℕ)} (take n []) []
take_none zero = refl
take_none (suc n) = refl

none_taken : (n : ℕ) (xs : List (List ℕ)) (c : List ℕ) → among xs c ≡ false → among (take n xs) c ≡ false
none_taken zero xs c none = refl
none_taken (suc n) [] c none = refl
none_taken (suc n) (x ∷ xs) c none =
    let two = neither (bytes_eq x c) (among xs c) none in
    ap (λ (b : Bool). b || among (take n xs) c) two.0 ∙ none_taken n xs c two.1

taken_twice : (n : ℕ) (xs : List (List ℕ)) → take n (take n xs) ≡ take n xs
taken_twice zero xs = refl
taken_twice (suc n) [] = refl
taken_twice (suc n) (x ∷ xs) = ap (λ (l : List (List ℕ)). x ∷ l) (taken_twice n xs)

-- without one of them, one more than so many are enough
taken_others : (n : ℕ) (xs : List (List ℕ)) (c : List ℕ) → Apart xs → take n (others c (take (suc n) xs)) ≡ take n (others c xs)
taken_others n [] c apart = refl
taken_others n (x ∷ xs) c apart = by n (bytes_eq x c) refl (λ m. taken_others m xs c apart.1)
  where
    by : (m : ℕ) (b : Bool) → bytes_eq x c ≡ b → ((k : ℕ) → take k (others c (take (suc k) xs)) ≡ take k (others c xs))
        → take m (cond (not b) (x ∷ others c (take m xs)) (others c (take m xs))) ≡ take m (cond (not b) (x ∷ others c xs) (others c xs))
    by m true is rest =
        let none : among xs c ≡ false = ap (among xs) (sym (same_name x c is)) ∙ apart.0 in
        ap (take m) (others_none (take m xs) c (none_taken m xs c none))
        ∙ taken_twice m xs
        ∙ ap (take m) (sym (others_none xs c none))
    by zero false is rest = refl
    by (suc m) false is rest = ap (λ (l : List (List ℕ)). x ∷ l) (rest m)

after_one : (most : ℕ) → 0 < most → (c : List ℕ) (xs : List (List ℕ)) → Apart xs → asked_after most c (take most xs) ≡ take most (c ∷ others c xs)
after_one zero some c xs apart = absurd (omega (arith, some))
after_one (suc n) some c xs apart = ap (λ (l : List (List ℕ)). c ∷ l) (taken_others n xs c apart)

asked_rest : (most : ℕ) → 0 < most → (xs ys : List (List ℕ)) → asked_after_all most xs (take most (last_distinct ys)) ≡ take most (last_distinct (reverse xs ++ ys))
asked_rest most some [] ys = refl
asked_rest most some (x ∷ xs) ys =
    ap (asked_after_all most xs) (after_one most some x (last_distinct ys) (apart_distinct ys))
    ∙ asked_rest most some xs (x ∷ ys)
    ∙ ap (λ (l : List (List ℕ)). take most (last_distinct l)) (sym (ap (λ (l : List (List ℕ)). l ++ ys) (reverse-append (x ∷ []) xs) ∙ append_assoc (reverse xs) (x ∷ []) ys))

pub asked_all : (most : ℕ) (channels : List (List ℕ)) → 0 < most → asked_after_all most channels [] ≡ take most (last_distinct (reverse channels))
asked_all most channels some =
    ap (asked_after_all most channels) (sym (take_none most))
    ∙ asked_rest most some channels []
    ∙ ap (λ (l : List (List ℕ)). take most (last_distinct l)) (append-nil (reverse channels))
