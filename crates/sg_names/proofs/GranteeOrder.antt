-- how a user's name compares with a role's text
use Rattle.std.proofs.Common.{◌≡◌, ℕ, Bool, true, false, cond, not, List, [], ◌∷◌, ◌++◌, refl, sym, ap, ◌∙◌, inl, inr, Ordering}
use Rattle.std.specs.Prelude.{nat_eq, nat_lt, codes}
use Rattle.std.specs.declared.cmp.Ordering.TheVariants.{Less, Equal, Greater}
use Rattle.std.specs.Ordering.{nat_cmp, ordering_then}
use Rattle.std.specs.Cmp.Lexicographic.{slice_cmp}
use Rattle.std.proofs.lemmas.Bool.{and_parts, cases_Bool, not_from_true, eq-eqb, eqb-true}
use Rattle.sg_names.specs.Grammar.{lacks}
use Rattle.sg_names.specs.Grants.{grantee_text}
use Rattle.sg_names.specs.declared.grants.Grantee.{Grantee}
use Rattle.sg_names.specs.declared.grants.Grantee.TheVariants.{User, Role}

-- where two numbers differ, what follows does not matter
decided : (less same : Bool) (o p : Ordering) → not same ≡ true
    → ordering_then (cond less Less (cond same Equal Greater)) o ≡ ordering_then (cond less Less (cond same Equal Greater)) p
decided true same o p h = refl
decided false true o p h = absurd (cc (h))
decided false false o p h = refl

flipped : (x c : ℕ) → not (nat_eq x c) ≡ true → not (nat_eq c x) ≡ true
flipped x c h = elim (cases_Bool (nat_eq c x)) [
  | inl same ↦ absurd (cc (h, not_from_true (nat_eq x c) (eq-eqb x c (sym (eqb-true c x same)))))
  | inr other ↦ ap not other
]

-- a text without `:` compares with one that has it as with that one's front
pub cmp_before_colon : (name front back : List ℕ) → lacks 58 name ≡ true
    → slice_cmp nat_cmp name (front ++ 58 ∷ back) ≡ slice_cmp nat_cmp name (front ++ 58 ∷ [])
cmp_before_colon [] [] back h = refl
cmp_before_colon [] (c ∷ front) back h = refl
cmp_before_colon (x ∷ name) [] back h = decided (nat_lt x 58) (nat_eq x 58) _ _ (and_parts (not (nat_eq x 58)) (lacks 58 name) h).0
cmp_before_colon (x ∷ name) (c ∷ front) back h =
    ap (ordering_then (nat_cmp x c)) (cmp_before_colon name front back (and_parts (not (nat_eq x 58)) (lacks 58 name) h).1)

pub cmp_after_colon : (name front back : List ℕ) → lacks 58 name ≡ true
    → slice_cmp nat_cmp (front ++ 58 ∷ back) name ≡ slice_cmp nat_cmp (front ++ 58 ∷ []) name
cmp_after_colon [] [] back h = refl
cmp_after_colon [] (c ∷ front) back h = refl
cmp_after_colon (x ∷ name) [] back h = decided (nat_lt 58 x) (nat_eq 58 x) _ _ (flipped x 58 (and_parts (not (nat_eq x 58)) (lacks 58 name) h).0)
cmp_after_colon (x ∷ name) (c ∷ front) back h =
    ap (ordering_then (nat_cmp c x)) (cmp_after_colon name front back (and_parts (not (nat_eq x 58)) (lacks 58 name) h).1)

-- the same, of the text of a role
pub user_before_role : (user role front : List ℕ) (g k : Grantee) (r : Ordering) → g ≡ User user → k ≡ Role role → lacks 58 user ≡ true → front ≡ codes "role:"
    → r ≡ slice_cmp nat_cmp user front → r ≡ slice_cmp nat_cmp (grantee_text g) (grantee_text k)
user_before_role user role front g k r e f h is c =
    c ∙ ap (slice_cmp nat_cmp user) is ∙ sym (cmp_before_colon user (codes "role") role h)
    ∙ (λ i. slice_cmp nat_cmp (grantee_text (sym e i)) (grantee_text (sym f i)))

pub role_before_user : (role user front : List ℕ) (g k : Grantee) (r : Ordering) → g ≡ Role role → k ≡ User user → lacks 58 user ≡ true → front ≡ codes "role:"
    → r ≡ slice_cmp nat_cmp front user → r ≡ slice_cmp nat_cmp (grantee_text g) (grantee_text k)
role_before_user role user front g k r e f h is c =
    c ∙ ap (λ text. slice_cmp nat_cmp text user) is ∙ sym (cmp_after_colon user (codes "role") role h)
    ∙ (λ i. slice_cmp nat_cmp (grantee_text (sym e i)) (grantee_text (sym f i)))
