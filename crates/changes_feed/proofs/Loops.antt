-- a loop over a list, one more
use Rattle.std.proofs.Common.{◌≡◌, ℕ, zero, suc, ◌+◌, ◌<◌, ◌≤◌, refl, ◌∙◌, ap, arith, Bool, true, false, ◌||◌, List, [], ◌∷◌, length, get_or, take}
use Rattle.std.specs.List.{list_any}

or_nothing : (b : Bool) → (b || false) ≡ b
or_nothing true = refl
or_nothing false = refl

or_over : (a b c : Bool) → (a || (b || c)) ≡ ((a || b) || c)
or_over true b c = refl
or_over false b c = refl

any_suc : {X : Type 0} (f : X → Bool) (xs : List X) (i : ℕ) (d : X) → i < length xs → list_any f (take (suc i) xs) ≡ (list_any f (take i xs) || f (get_or xs i d))
any_suc f [] i d h = absurd (omega (arith, h))
any_suc f (x ∷ xs) zero d h = or_nothing (f x)
any_suc f (x ∷ xs) (suc i) d h =
    ap (λ (b : Bool). f x || b) (any_suc f xs i d (omega (arith, h))) ∙ or_over (f x) (list_any f (take i xs)) (f (get_or xs i d))

pub any_more : {X : Type 0} (f : X → Bool) (xs : List X) (i : ℕ) (d : X) → i < length xs → list_any f (take (i + 1) xs) ≡ (list_any f (take i xs) || f (get_or xs i d))
any_more f xs i d h =
    let one : ◌≡◌ {A = ℕ} (i + 1) (suc i) = omega arith in
    ap (λ (n : ℕ). list_any f (take n xs)) one ∙ any_suc f xs i d h

pub take_all : {X : Type 0} (xs : List X) (n : ℕ) → length xs ≤ n → take n xs ≡ xs
take_all [] zero h = refl
take_all [] (suc n) h = refl
take_all (x ∷ xs) zero h = absurd (omega (arith, h))
take_all (x ∷ xs) (suc n) h = ap (λ l. x ∷ l) (take_all xs n (omega (arith, h)))
