-- Where a variable stands among those that were written, what it holds, and that each stands once.
use Rattle.std.proofs.Common.{◌≡◌, ℕ, zero, suc, ◌+◌, ◌<◌, ◌≤◌, ◌==◌, true, false, ◌&&◌, if◌then◌else◌, IsTrue, List, [], ◌∷◌, ◌++◌, length, Option, Some, None, refl, sym, ap, ◌∙◌, subst, arith, rules, inl, inr, add-one}
use Rattle.std.specs.List.{slice_get}
use Rattle.std.specs.Prelude.{slice_set, slice_index_or}
use Rattle.std.specs.Str.{bytes_eq}
use Rattle.std.proofs.lemmas.Bool.{cases_Bool}
use Rattle.std.proofs.lemmas.Bool.Decides.{Decides-eqb}
use Rattle.std.proofs.lemmas.Slice.Eq.{bytes_eq-Decides}
use Rattle.sync_values.specs.declared.value.Value.{Value}
use Rattle.sync_values.specs.declared.value.Value.TheVariants as v
use Rattle.sync_meaning.specs.declared.variables.Variable.{Variable}
use Rattle.sync_meaning.specs.Slots.{is_variable, slot_of, held, is_written, each_once, replaced}
use Rattle.sync_meaning.specs.Variables.{variable, value_in, variables_with}

pub value_held : (name : List ℕ) (number : ℕ) (xs : List Variable) → value_in name number xs ≡ held (slice_get xs (slot_of name number xs))
value_held name number [] = refl
value_held name number (x ∷ xs) =
    elim (cases_Bool (is_variable name number x)) [ inl e ↦ rw e refl | inr e ↦ rw (e, add-one) (value_held name number xs) ]

pub written_last : (name : List ℕ) (number : ℕ) (value : Value) (xs : List Variable) → length xs ≤ slot_of name number xs
    → variables_with name number value xs ≡ xs ++ variable name number value ∷ []
written_last name number value [] past = refl
written_last name number value (x ∷ xs) past =
    elim (cases_Bool (is_variable name number x)) [
      | inl e ↦
          let none : suc (length xs) ≤ 0 = subst (λ b. suc (length xs) ≤ (if b then 0 else slot_of name number xs + 1)) e past in
          absurd (omega (arith, none))
      | inr e ↦
          let more : suc (length xs) ≤ slot_of name number xs + 1 = subst (λ b. suc (length xs) ≤ (if b then 0 else slot_of name number xs + 1)) e past in
          rw e (ap (λ l. x ∷ l) (written_last name number value xs (omega (arith, more))))
    ]

-- ---- each stands once

-- a variable has one name and one number
its_name : (name : List ℕ) (number : ℕ) (x : Variable) → is_variable name number x ≡ true → name ≡ x.name
its_name name number x e = (bytes_eq-Decides name x.name).0 (grind (arith, e))

its_number : (name : List ℕ) (number : ℕ) (x : Variable) → is_variable name number x ≡ true → number ≡ x.number
its_number name number x e = (Decides-eqb number x.number).0 (grind (arith, e))

-- the variable that is meant holds another value in its place
same_variable : (name : List ℕ) (number : ℕ) (value : Value) (x : Variable) → is_variable name number x ≡ true → variable name number value ≡ record x { value = value }
same_variable name number value x e = λ i. record { name = its_name name number x e i; number = its_number name number x e i; value = value }

written_at_place : (name : List ℕ) (number : ℕ) (value : Value) (xs : List Variable) → slot_of name number xs < length xs
    → variables_with name number value xs ≡ replaced (slot_of name number xs) value xs
written_at_place name number value [] below = absurd (omega (arith, below))
written_at_place name number value (x ∷ xs) below =
    elim (cases_Bool (is_variable name number x)) [
      | inl e ↦ rw e (ap (λ y. y ∷ xs) (same_variable name number value x e))
      | inr e ↦
          let less : slot_of name number xs + 1 < suc (length xs) = subst (λ b. (if b then 0 else slot_of name number xs + 1) < suc (length xs)) e below in
          rw (e, add-one) (ap (λ l. x ∷ l) (written_at_place name number value xs (omega (arith, less))))
    ]

pub written_there : (name : List ℕ) (number : ℕ) (value : Value) (xs : List Variable) (at : ℕ) → at ≡ slot_of name number xs → at < length xs
    → variables_with name number value xs ≡ replaced at value xs
written_there name number value xs at e below =
    written_at_place name number value xs (subst (λ k. k < length xs) e below) ∙ sym (ap (λ k. replaced k value xs) e)

-- writing a value at a place is setting the variable there
abbrev with_value : Value → Variable → Variable
with_value value x = record { name = x.name; number = x.number; value = value }

pub replaced_set : (at : ℕ) (value : Value) (xs : List Variable) (x : Variable) → at < length xs
    → slice_set xs at (with_value value (slice_index_or xs at x)) ≡ replaced at value xs
replaced_set at value [] x below = absurd (omega (arith, below))
replaced_set zero value (y ∷ ys) x below = refl
replaced_set (suc at) value (y ∷ ys) x below = ap (λ l. y ∷ l) (replaced_set at value ys x (omega (arith, below)))

-- a variable that stands at a place was written
written_at : (name : List ℕ) (number : ℕ) (xs : List Variable) (at : ℕ) (x : Variable) → slice_get xs at ≡ Some x → is_variable name number x ≡ true
    → is_written name number xs ≡ true
written_at name number [] at x e h = absurd (grind (arith, e))
written_at name number (y ∷ ys) zero x e h =
    let same : y ≡ x = grind (arith, e) in
    let this : is_variable name number y ≡ true = subst (λ z. is_variable name number z ≡ true) (sym same) h in
    rw this refl
written_at name number (y ∷ ys) (suc at) x e h =
    elim (cases_Bool (is_variable name number y)) [ inl this ↦ rw this refl | inr other ↦ rw other (written_at name number ys at x e h) ]

-- where each stands once, a variable that stands at a place stands at no place before it
pub place_kept : (name : List ℕ) (number : ℕ) (xs : List Variable) (at : ℕ) (x : Variable) → IsTrue (each_once xs) → slice_get xs at ≡ Some x
    → is_variable name number x ≡ true → at ≡ slot_of name number xs
place_kept name number [] at x once e h = absurd (grind (arith, e))
place_kept name number (y ∷ ys) zero x once e h =
    let same : y ≡ x = grind (arith, e) in
    let this : is_variable name number y ≡ true = subst (λ z. is_variable name number z ≡ true) (sym same) h in
    rw this refl
place_kept name number (y ∷ ys) (suc at) x once e h =
    let parts : (is_written y.name y.number ys ≡ false) × IsTrue (each_once ys) = search (rules, once) in
    elim (cases_Bool (is_variable name number y)) [
      | inl this ↦
          let there : is_written name number ys ≡ true = written_at name number ys at x e h in
          let again : is_written y.name y.number ys ≡ true = subst (λ n. is_written n y.number ys ≡ true) (its_name name number y this) (subst (λ k. is_written name k ys ≡ true) (its_number name number y this) there) in
          absurd (grind (arith, again, parts.0))
      | inr other ↦ rw (other, add-one) (ap suc (place_kept name number ys at x parts.1 e h))
    ]

-- writing one variable writes no other
others_written : (a name : List ℕ) (b number : ℕ) (value : Value) (xs : List Variable) → is_variable a b (variable name number value) ≡ false
    → is_written a b (variables_with name number value xs) ≡ is_written a b xs
others_written a name b number value [] other = rw other refl
others_written a name b number value (x ∷ xs) other =
    elim (cases_Bool (is_variable name number x)) [
      | inl e ↦
          let not_this : is_variable a b x ≡ false = subst (λ n. (bytes_eq a n && b == x.number) ≡ false) (its_name name number x e) (subst (λ k. (bytes_eq a name && b == k) ≡ false) (its_number name number x e) other) in
          rw (e, other, not_this) refl
      | inr e ↦ rw (e, others_written a name b number value xs other) refl
    ]

-- a variable is not another where the other is not it
not_that : (name : List ℕ) (number : ℕ) (value : Value) (x : Variable) → is_variable name number x ≡ false
    → is_variable x.name x.number (variable name number value) ≡ false
not_that name number value x other =
    elim (cases_Bool (is_variable x.name x.number (variable name number value))) [
      | inl e ↦
          let names : x.name ≡ name = its_name x.name x.number (variable name number value) e in
          let numbers : x.number ≡ number = its_number x.name x.number (variable name number value) e in
          let here : is_variable x.name x.number x ≡ false = subst (λ n. is_variable n x.number x ≡ false) (sym names) (subst (λ k. is_variable name k x ≡ false) (sym numbers) other) in
          let itself : is_variable x.name x.number x ≡ true = rw ((bytes_eq-Decides x.name x.name).1 refl) ((Decides-eqb x.number x.number).1 refl) in
          absurd (grind (arith, here, itself))
      | inr e ↦ e
    ]

pub once_written : (name : List ℕ) (number : ℕ) (value : Value) (xs : List Variable) → IsTrue (each_once xs)
    → IsTrue (each_once (variables_with name number value xs))
once_written name number value [] once = refl
once_written name number value (x ∷ xs) once =
    let parts : (is_written x.name x.number xs ≡ false) × IsTrue (each_once xs) = search (rules, once) in
    elim (cases_Bool (is_variable name number x)) [
      | inl e ↦
          let none : is_written name number xs ≡ false = subst (λ n. is_written n number xs ≡ false) (sym (its_name name number x e)) (subst (λ k. is_written x.name k xs ≡ false) (sym (its_number name number x e)) parts.0) in
          rw (e, none) parts.1
      | inr e ↦
          let none : is_written x.name x.number (variables_with name number value xs) ≡ false = others_written x.name name x.number number value xs (not_that name number value x e) ∙ parts.0 in
          rw (e, none) (once_written name number value xs parts.1)
    ]
