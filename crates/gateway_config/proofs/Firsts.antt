-- the first fault of tests, one part after another
use Rattle.std.proofs.Common.{◌≡◌, List, [], ◌∷◌, ◌++◌, refl, sym, ap, ◌∙◌, subst, Option, Some, None}
use Rattle.std.specs.Option.{option_or}
use Rattle.gateway_config.specs.declared.fault.ConfigFault.{ConfigFault}
use Rattle.gateway_config.specs.declared.fault.ConfigFault.TheVariants.{Bad, Memory}
use Rattle.gateway_config.specs.Faults.{Fault, NamesFault, first_fault}

or_or : (f g h : Option Fault) → option_or f (option_or g h) ≡ option_or (option_or f g) h
or_or None g h = refl
or_or (Some x) g h = refl

pub first_of-append : (xs ys : List (Option Fault)) → first_fault (xs ++ ys) ≡ option_or (first_fault xs) (first_fault ys)
first_of-append [] ys = refl
first_of-append (x ∷ xs) ys = ap (option_or x) (first_of-append xs ys) ∙ or_or x (first_fault xs) (first_fault ys)

-- the fault of the first of two tests is named
pub first_named : (f g : Option Fault) (e : ConfigFault) → NamesFault f e → NamesFault (option_or f g) e
first_named f g (Bad path why) h = ap (λ o. option_or o g) h
first_named f g Memory h = tt

-- that of the second, where the first finds none
pub second_named : (f g : Option Fault) (e : ConfigFault) → f ≡ None → NamesFault g e → NamesFault (option_or f g) e
second_named f g (Bad path why) none h = ap (λ o. option_or o g) none ∙ h
second_named f g Memory none h = tt

pub both_none : (f g : Option Fault) → f ≡ None → g ≡ None → option_or f g ≡ None
both_none f g none h = ap (λ o. option_or o g) none ∙ h

-- the same of two parts of the tests
pub first_part : (xs ys : List (Option Fault)) (e : ConfigFault) → NamesFault (first_fault xs) e → NamesFault (first_fault (xs ++ ys)) e
first_part xs ys e h = subst (λ f. NamesFault f e) (sym (first_of-append xs ys)) (first_named (first_fault xs) (first_fault ys) e h)

pub second_part : (xs ys : List (Option Fault)) (e : ConfigFault) → first_fault xs ≡ None → NamesFault (first_fault ys) e → NamesFault (first_fault (xs ++ ys)) e
second_part xs ys e none h = subst (λ f. NamesFault f e) (sym (first_of-append xs ys)) (second_named (first_fault xs) (first_fault ys) e none h)

pub both_parts : (xs ys : List (Option Fault)) → first_fault xs ≡ None → first_fault ys ≡ None → first_fault (xs ++ ys) ≡ None
both_parts xs ys none h = first_of-append xs ys ∙ both_none (first_fault xs) (first_fault ys) none h

pub one_test : (f : Option Fault) → f ≡ first_fault (f ∷ [])
one_test None = refl
one_test (Some x) = refl

pub one_named : (f : Option Fault) (e : ConfigFault) → NamesFault f e → NamesFault (first_fault (f ∷ [])) e
one_named f e h = subst (λ g. NamesFault g e) (one_test f) h

pub one_none : (f : Option Fault) → f ≡ None → first_fault (f ∷ []) ≡ None
one_none f h = sym (one_test f) ∙ h
