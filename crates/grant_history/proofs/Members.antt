-- what is in a list, and what a test finds there
use Rattle.std.proofs.Common.{◌≡◌, ◌⊎◌, inl, inr, refl, ◌∙◌, ap, Bool, true, false, ◌||◌, List, [], ◌∷◌, ◌++◌}
use Rattle.std.specs.List.{list_any}
use Rattle.std.proofs.lemmas.Bool.{false≢true}

abbrev pub IsIn : {X : Type 0} → List X → X → Type 0
IsIn [] x = ⊥
IsIn (y ∷ ys) x = (y ≡ x) ⊎ IsIn ys x

or_right : (a b : Bool) → b ≡ true → (a || b) ≡ true
or_right true b h = refl
or_right false b h = h

-- an element that passes
pub record Passing {X : Type 0} (f : X → Bool) (xs : List X) : Type 0 where
  pub one : X
  pub there : IsIn xs one
  pub is : f one ≡ true

pub passing : {X : Type 0} (f : X → Bool) (xs : List X) → list_any f xs ≡ true → Passing f xs
passing {X} f [] h = absurd (false≢true h)
passing {X} f (x ∷ xs) h = by (f x) refl h (λ k. passing f xs k)
  where
    by : (b : Bool) → f x ≡ b → (b || list_any f xs) ≡ true → (list_any f xs ≡ true → Passing f xs) → Passing f (x ∷ xs)
    by true is h rest = record { one = x; there = inl refl; is = is }
    by false is h rest = let p = rest h in record { one = p.one; there = inr p.there; is = p.is }

pub passes_in : {X : Type 0} (f : X → Bool) (xs : List X) (x : X) → IsIn xs x → f x ≡ true → list_any f xs ≡ true
passes_in f [] x h is = absurd h
passes_in f (y ∷ ys) x (inl e) is = ap (λ b. b || list_any f ys) (ap f e ∙ is)
passes_in f (y ∷ ys) x (inr h) is = or_right (f y) (list_any f ys) (passes_in f ys x h is)

pub in_left : {X : Type 0} (xs ys : List X) (x : X) → IsIn xs x → IsIn (xs ++ ys) x
in_left [] ys x h = absurd h
in_left (y ∷ xs) ys x (inl e) = inl e
in_left (y ∷ xs) ys x (inr h) = inr (in_left xs ys x h)

pub in_right : {X : Type 0} (xs ys : List X) (x : X) → IsIn ys x → IsIn (xs ++ ys) x
in_right [] ys x h = h
in_right (y ∷ xs) ys x h = inr (in_right xs ys x h)
