-- A name that is found by halves.
use Rattle.std.proofs.Common.{◌≡◌, inl, inr, ◌+◌, ◌<◌, ℕ, zero, suc, refl, sym, ◌∙◌, ap, arith, Bool, true, false, ◌&&◌, ◌||◌, List, [], ◌∷◌, length, map, Result, Ok, Err}
use Rattle.std.specs.Prelude.{slice_index_or, is_ok}
use Rattle.std.specs.Ordering.{nat_cmp, is_lt, is_eq, ordering_reverse}
use Rattle.std.specs.Cmp.Lexicographic.{slice_cmp}
use Rattle.std.specs.declared.cmp.Ordering.{Ordering}
use Rattle.std.specs.declared.cmp.Ordering.TheVariants.{Less, Equal, Greater}
use Rattle.std.specs.Str.{bytes_eq}
use Rattle.std.specs.List.Sorted.{IsSortedBy, IsBinarySearchResult, IsSearchInRange}
use Rattle.std.proofs.lemmas.List.Sorted.{searchable_from_sorted}
use Rattle.std.proofs.lemmas.Bool.{false≢true, cases_lt, or_from}
use Rattle.std.proofs.lemmas.Cmp.{nat_list_cmp_total}
use Rattle.std.proofs.lemmas.Map.Text.{is_eq-slice_cmp}
use Rattle.sg_names.specs.ItemList.{rises}
use Rattle.sync_meaning.specs.inner.Arguments.{AreSorted}
use Rattle.sync_meaning.specs.Builtins.{is_one_of}

first : (a b : Bool) → (a && b) ≡ true → a ≡ true
first true b h = refl
first false b h = h

second : (a b : Bool) → (a && b) ≡ true → b ≡ true
second true b h = h
second false b h = absurd (false≢true h)

not_back : (a b : List ℕ) → is_lt (slice_cmp nat_cmp a b) ≡ true → is_lt (slice_cmp nat_cmp b a) ≡ false
not_back a b less = ap is_lt (nat_list_cmp_total.antisymm b a) ∙ by (slice_cmp nat_cmp a b) less
  where
    by : (o : Ordering) → is_lt o ≡ true → is_lt (ordering_reverse o) ≡ false
    by Less is = refl
    by Equal is = refl
    by Greater is = absurd (false≢true is)

sorted_by : {X : Type 0} (f : X → List ℕ) (xs : List X) → AreSorted (map f xs) → IsSortedBy (λ x y. is_lt (slice_cmp nat_cmp (f x) (f y))) xs
sorted_by {X} f [] h k d low high = absurd (omega (arith, high))
sorted_by {X} f (x ∷ []) h k d low high = absurd (omega (arith, high))
sorted_by {X} f (x ∷ y ∷ ys) h zero d low high = not_back (f x) (f y) (first (is_lt (slice_cmp nat_cmp (f x) (f y))) (rises (slice_cmp nat_cmp) (map f (y ∷ ys))) h)
sorted_by {X} f (x ∷ y ∷ ys) h (suc k) d low high =
    let same : suc k + 1 ≡ suc (k + 1) = omega arith in
    ap (λ (m : ℕ). is_lt (slice_cmp nat_cmp (f (slice_index_or (x ∷ y ∷ ys) m d)) (f (slice_index_or (y ∷ ys) k d)))) same
    ∙ sorted_by f (y ∷ ys) (second (is_lt (slice_cmp nat_cmp (f x) (f y))) (rises (slice_cmp nat_cmp) (map f (y ∷ ys))) h) k d (omega arith) (omega (arith, high))

named : (a b : List ℕ) (o : Ordering) → slice_cmp nat_cmp b a ≡ o → bytes_eq a b ≡ is_eq o
named a b o is = sym (is_eq-slice_cmp a b) ∙ ap is_eq (nat_list_cmp_total.antisymm a b) ∙ turned (slice_cmp nat_cmp b a) ∙ ap is_eq is
  where
    turned : (o : Ordering) → is_eq (ordering_reverse o) ≡ is_eq o
    turned Less = refl
    turned Equal = refl
    turned Greater = refl

or_true : (b : Bool) → (b || true) ≡ true
or_true true = refl
or_true false = refl

in_here : {X : Type 0} (f : X → List ℕ) (xs : List X) (c : List ℕ) (i : ℕ) (d : X) → i < length xs → bytes_eq c (f (slice_index_or xs i d)) ≡ true → is_one_of (map f xs) c ≡ true
in_here {X} f [] c i d within is = absurd (omega (arith, within))
in_here {X} f (x ∷ xs) c zero d within is = ap (λ (b : Bool). b || is_one_of (map f xs) c) is
in_here {X} f (x ∷ xs) c (suc i) d within is = ap (λ (b : Bool). bytes_eq c (f x) || b) (in_here f xs c i d (omega (arith, within)) is) ∙ or_true (bytes_eq c (f x))

in_none : {X : Type 0} (f : X → List ℕ) (xs : List X) (c : List ℕ) → ((k : ℕ) (d : X) → k < length xs → bytes_eq c (f (slice_index_or xs k d)) ≡ false) → is_one_of (map f xs) c ≡ false
in_none {X} f [] c not = refl
in_none {X} f (x ∷ xs) c not = or_from (bytes_eq c (f x)) (is_one_of (map f xs) c) (not 0 x (omega arith)) (in_none f xs c (λ k d within. not (suc k) d (omega (arith, within))))

pub found_by_halves : {X : Type 0} (f : X → List ℕ) (xs : List X) (c : List ℕ) (r : Result ℕ ℕ) → IsSearchInRange r (length xs) → IsBinarySearchResult (λ y. slice_cmp nat_cmp (f y) c) xs r → AreSorted (map f xs) → is_ok r ≡ is_one_of (map f xs) c
found_by_halves {X} f [] c (Ok i) within found sorted = absurd (omega (arith, within))
found_by_halves {X} f (x ∷ xs) c (Ok i) within found sorted = sym (in_here f (x ∷ xs) c i x within (named c _ Equal (found x)))
found_by_halves {X} f xs c (Err i) within found sorted =
    let parted = found (searchable_from_sorted nat_list_cmp_total f xs c (sorted_by f xs sorted)) in
    sym (in_none f xs c (λ k d below. elim (cases_lt k i) [
      | inl under ↦ named c _ Less (parted.0 k d (omega arith) under)
      | inr over ↦ named c _ Greater (parted.1 k d over below)
    ]))
