-- The earliest fault is the first.
use Rattle.std.proofs.Common.{◌≡◌, ◌<◌, ◌⊎◌, inl, inr, Bool, true, false, not, ◌&&◌, if◌then◌else◌, List, [], ◌∷◌, Some, None, refl, sym, subst, ap, ◌∙◌, arith}
use Rattle.std.specs.List.{All, Contains}
use Rattle.std.proofs.lemmas.Bool.{cases_eq}
use Rattle.std.proofs.lemmas.List.Elements.{All-nil, All-cons, Contains-append_left, Contains-append_right, Contains-append_cases, Contains-push}
use Rattle.sync_tokens.specs.declared.place.Place.{Place}
use Rattle.sync_resolve.specs.declared.fault.ResolveFault.{ResolveFault}
use Rattle.sync_resolve.specs.Faults.{fault_place, is_wrong_count, stands_before, fault_comes_before, earlier, earliest, IsFirstFault}

-- a place that does not stand before another, where they are the same as it is said
abbrev NotBefore : Bool → Place → Place → Type 0
NotBefore same p q = (q.line < p.line) ⊎ ((p.line ≡ q.line) × ((q.column < p.column) ⊎ ((p.column ≡ q.column) × (same ≡ false))))

to_columns : (same : Bool) (p q : Place) → p.line ≡ q.line → stands_before same p q ≡ false → (q.column < p.column) ⊎ ((p.column ≡ q.column) × (same ≡ false))
to_columns same p q e h =
    elim (cases_eq p.column q.column) [ inl f ↦ inr (f, grind (arith, e, f, h)) | inr apart ↦ inl (grind (arith, e, apart, h)) ]

to_not_before : (same : Bool) (p q : Place) → stands_before same p q ≡ false → NotBefore same p q
to_not_before same p q h =
    elim (cases_eq p.line q.line) [ inl e ↦ inr (e, to_columns same p q e h) | inr apart ↦ inl (grind (arith, apart, h)) ]

from_not_before : (same : Bool) (p q : Place) → NotBefore same p q → stands_before same p q ≡ false
from_not_before same p q (inl h) = grind (arith, h)
from_not_before same p q (inr (e, inl h)) = grind (arith, e, h)
from_not_before same p q (inr (e, inr (f, g))) = grind (arith, e, f, g)

bools : (a b c : Bool) → (not b && a) ≡ false → (not c && b) ≡ false → (not c && a) ≡ false
bools a b true h k = refl
bools a true false h k = cc (k)
bools a false false h k = h

columns_chain : (a b c : Bool) (p q r : Place) → (p.column < q.column) ⊎ ((q.column ≡ p.column) × ((not b && a) ≡ false))
    → (q.column < r.column) ⊎ ((r.column ≡ q.column) × ((not c && b) ≡ false))
    → (p.column < r.column) ⊎ ((r.column ≡ p.column) × ((not c && a) ≡ false))
columns_chain a b c p q r (inl h) (inl k) = inl (omega (arith, h, k))
columns_chain a b c p q r (inl h) (inr (e, g)) = inl (omega (arith, h, e))
columns_chain a b c p q r (inr (e, g)) (inl k) = inl (omega (arith, e, k))
columns_chain a b c p q r (inr (e, g)) (inr (f, i)) = inr (f ∙ e, bools a b c g i)

chain : (a b c : Bool) (p q r : Place) → NotBefore (not b && a) q p → NotBefore (not c && b) r q → NotBefore (not c && a) r p
chain a b c p q r (inl h) (inl k) = inl (omega (arith, h, k))
chain a b c p q r (inl h) (inr (e, g)) = inl (omega (arith, h, e))
chain a b c p q r (inr (e, g)) (inl k) = inl (omega (arith, e, k))
chain a b c p q r (inr (e, g)) (inr (f, i)) = inr (f ∙ e, columns_chain a b c p q r g i)

places_chain : (a b c : Bool) (p q r : Place) → stands_before (not b && a) q p ≡ false → stands_before (not c && b) r q ≡ false
    → stands_before (not c && a) r p ≡ false
places_chain a b c p q r h k = from_not_before (not c && a) r p (chain a b c p q r (to_not_before (not b && a) q p h) (to_not_before (not c && b) r q k))

not_before : (e f g : ResolveFault) → fault_comes_before f e ≡ false → fault_comes_before g f ≡ false → fault_comes_before g e ≡ false
not_before e f g h k = places_chain (is_wrong_count e) (is_wrong_count f) (is_wrong_count g) (fault_place e) (fault_place f) (fault_place g) h k

places_itself : (a : Bool) (p : Place) → stands_before (not a && a) p p ≡ false
places_itself true p = grind arith
places_itself false p = grind arith

before_itself : (e : ResolveFault) → fault_comes_before e e ≡ false
before_itself e = places_itself (is_wrong_count e) (fault_place e)

places_turn : (a b : Bool) (p q : Place) → stands_before (not a && b) p q ≡ true → stands_before (not b && a) q p ≡ false
places_turn true true p q h = grind (arith, h)
places_turn true false p q h = grind (arith, h)
places_turn false true p q h = grind (arith, h)
places_turn false false p q h = grind (arith, h)

turned : (e f : ResolveFault) → fault_comes_before f e ≡ true → fault_comes_before e f ≡ false
turned e f h = places_turn (is_wrong_count f) (is_wrong_count e) (fault_place f) (fault_place e) h

-- of a fault and more the one that is found
record Found (e : ResolveFault) (fs : List ResolveFault) : Type 0 where
  fault : ResolveFault
  found : earliest (Some e) fs ≡ Some fault
  is_one : Contains (e ∷ fs) fault
  before : fault_comes_before e fault ≡ false
  first : All (λ f. fault_comes_before f fault ≡ false) fs

further : (e f r : ResolveFault) (fs : List ResolveFault) → Contains (e ∷ []) r ⊎ Contains fs r → Contains (e ∷ f ∷ fs) r
further e f r fs (inl h) = Contains-append_left (e ∷ []) (f ∷ fs) r h
further e f r fs (inr h) = Contains-append_right (e ∷ f ∷ []) fs r h

take_new : (e f : ResolveFault) (fs : List ResolveFault) → fault_comes_before f e ≡ true → Found f fs → Found e (f ∷ fs)
unfolding earlier
take_new e f fs h r = record {
  fault = r.fault;
  found = ap (λ b. earliest (if b then Some f else Some e) fs) h ∙ r.found;
  is_one = Contains-append_right (e ∷ []) (f ∷ fs) r.fault r.is_one;
  before = not_before r.fault f e r.before (turned e f h);
  first = All-cons (λ g. fault_comes_before g r.fault ≡ false) f fs r.before r.first;
}

take_old : (e f : ResolveFault) (fs : List ResolveFault) → fault_comes_before f e ≡ false → Found e fs → Found e (f ∷ fs)
unfolding earlier
take_old e f fs h r = record {
  fault = r.fault;
  found = ap (λ b. earliest (if b then Some f else Some e) fs) h ∙ r.found;
  is_one = further e f r.fault fs (Contains-append_cases (e ∷ []) fs r.fault r.is_one);
  before = r.before;
  first = All-cons (λ g. fault_comes_before g r.fault ≡ false) f fs (not_before r.fault e f r.before h) r.first;
}

take : (b : Bool) (e f : ResolveFault) (fs : List ResolveFault) → fault_comes_before f e ≡ b → Found e fs → Found f fs → Found e (f ∷ fs)
take true e f fs h old new = take_new e f fs h new
take false e f fs h old new = take_old e f fs h old

find : (e : ResolveFault) (fs : List ResolveFault) → Found e fs
find e [] = record {
  fault = e;
  found = refl;
  is_one = Contains-push [] e;
  before = before_itself e;
  first = All-nil (λ g. fault_comes_before g e ≡ false);
}
find e (f ∷ fs) = take (fault_comes_before f e) e f fs refl (find e fs) (find f fs)

is_first : (e : ResolveFault) (fs : List ResolveFault) (r : Found e fs) → IsFirstFault r.fault (e ∷ fs)
is_first e fs r = record { is_one = r.is_one; first = All-cons (λ g. fault_comes_before g r.fault ≡ false) e fs r.before r.first }

-- where something is found it is the first
pub found_first : (fs : List ResolveFault) (e : ResolveFault) → earliest None fs ≡ Some e → IsFirstFault e fs
unfolding earlier
found_first [] e h = cc (h)
found_first (f ∷ fs) e h =
    let r = find f fs in
    let same : r.fault ≡ e = cc (sym r.found ∙ h) in
    subst (λ g. IsFirstFault g (f ∷ fs)) same (is_first f fs r)

-- where nothing is found there is none
pub found_none : (fs : List ResolveFault) → earliest None fs ≡ None → fs ≡ []
unfolding earlier
found_none [] h = refl
found_none (f ∷ fs) h = let r = find f fs in cc (sym r.found ∙ h)
