-- What stands behind a beginning of a text.
use Rattle.std.proofs.Common.{◌≡◌, ◌≢◌, ℕ, Bool, true, false, List, [], ◌∷◌, ◌++◌, drop, Option, Some, None, option_map, MatchOption, Bor, nat_eq, cond, refl, sym, ap, ◌∙◌, eq-eqb, eqb-true}
use Rattle.std.specs.Str.Pattern.{StripsPrefix, FindsTextPrefix}
use Rattle.sync_meaning.specs.Builtins.{stripped}

same_byte : (b : ℕ) → nat_eq b b ≡ true
same_byte b = eq-eqb b b refl

pub stripped-front : (p rest : List ℕ) → stripped p (p ++ rest) ≡ Some rest
stripped-front [] rest = refl
stripped-front (b ∷ bs) rest = rw (same_byte b) (stripped-front bs rest)

none_if : (same : Bool) (behind : Option (List ℕ)) → (same ≡ true → None ≡ behind) → None ≡ cond same behind None
none_if true behind h = h refl
none_if false behind h = refl

-- where a text doesn't begin so there is none
pub stripped-none : (p t : List ℕ) → ((rest : List ℕ) → t ≢ p ++ rest) → None ≡ stripped p t
stripped-none [] t lacks = absurd (lacks t refl)
stripped-none (b ∷ bs) [] lacks = refl
stripped-none (b ∷ bs) (c ∷ cs) lacks =
    none_if (nat_eq b c) (stripped bs cs) (λ same. stripped-none bs cs (λ rest e. lacks rest (ap (λ l. c ∷ l) e ∙ ap (λ x. x ∷ (bs ++ rest)) (sym (eqb-true b c same)))))

pub stripped-is : (p t : List ℕ) (r : Option (Bor (List ℕ)))
    → MatchOption r ((rest : List ℕ) → t ≢ p ++ rest) (λ x. StripsPrefix (FindsTextPrefix p) t x.now)
    → option_map (λ x. x.now) r ≡ stripped p t
stripped-is p t None h = stripped-none p t h
stripped-is p t (Some x) h = ap Some h.2 ∙ sym (ap (stripped p) h.1.1 ∙ stripped-front p (drop h.0 t))
