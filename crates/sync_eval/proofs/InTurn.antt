-- What is left of a list, seen from the first of it.
use Rattle.std.proofs.Common.{◌≡◌, ◌≤◌, ◌<◌, ◌-◌, List, [], ◌∷◌, length, get_or, take, drop, refl, sym, ap, subst, arith}
use Rattle.std.proofs.Math.Seq.{take-length}

pub split_left : {X : Type 0} (left : List X) (x : X) → 1 ≤ length left → x ≡ get_or left 0 x → left ≡ x ∷ drop 1 left
split_left [] x some is = absurd (omega (arith, some))
split_left (y ∷ ys) x some is = ap (λ z. z ∷ ys) (sym is)

pub none_left : {X : Type 0} (left : List X) → length left < 1 → left ≡ []
none_left [] none = refl
none_left (y ∷ ys) none = absurd (omega (arith, none))

pub rest_same : {X : Type 0} (left : List X) → take (length left - 1) (drop 1 left) ≡ drop 1 left
rest_same [] = refl
rest_same (y ∷ ys) = let n : length ys ≡ length (y ∷ ys) - 1 = omega arith in subst (λ k. take k ys ≡ ys) n (take-length ys)
