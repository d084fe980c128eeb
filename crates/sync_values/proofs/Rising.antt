-- Names that rise, and what is found by halves under one.
use Rattle.std.proofs.Common.{◌≡◌, inl, inr, ◌+◌, ◌-◌, ◌<◌, ℕ, zero, suc, refl, sym, ◌∙◌, ap, arith, Bool, true, false, ◌&&◌, if◌then◌else◌, List, [], ◌∷◌, ◌++◌, length, Ok, Err, Option, Some, None, IsTrue}
use Rattle.std.specs.Prelude.{slice_index_or, slice_get}
use Rattle.std.specs.Ordering.{nat_cmp, is_lt, is_eq, ordering_reverse}
use Rattle.std.specs.Cmp.Lexicographic.{slice_cmp}
use Rattle.std.specs.declared.cmp.Ordering.{Ordering}
use Rattle.std.specs.declared.cmp.Ordering.TheVariants.{Less, Equal, Greater}
use Rattle.std.specs.Str.{bytes_eq}
use Rattle.std.specs.List.Sorted.{IsSortedBy, IsBinarySearchResult}
use Rattle.std.proofs.lemmas.List.Sorted.{searchable_from_sorted}
use Rattle.std.proofs.lemmas.Bool.{false≢true, cases_lt}
use Rattle.std.proofs.lemmas.Cmp.{nat_list_cmp_total}
use Rattle.std.proofs.lemmas.Map.Text.{is_eq-slice_cmp}
use Rattle.sync_values.specs.Rising.{names_rise, comes_behind}
use Rattle.sync_values.specs.Values.{last_from, last_named}

-- ---- one more

last_only : (b : Bool) → (b && true) ≡ b
last_only true = refl
last_only false = refl

both_of_three : (a b c : Bool) → ((a && b) && c) ≡ (a && (b && c))
both_of_three true b c = refl
both_of_three false b c = refl

-- names still rise where one comes behind the last
pub one_more : {A : Type 0} (ms : List (List ℕ × A)) (m : List ℕ × A) → (names_rise ms && comes_behind (slice_get ms (length ms - 1)) m.0) ≡ names_rise (ms ++ m ∷ [])
one_more [] m = refl
one_more (x ∷ []) m = sym (last_only (is_lt (slice_cmp nat_cmp x.0 m.0)))
one_more (x ∷ y ∷ ms) m =
    let same : length (x ∷ y ∷ ms) - 1 ≡ suc (length (y ∷ ms) - 1) = omega arith in
    ap (λ (n : ℕ). names_rise (x ∷ y ∷ ms) && comes_behind (slice_get (x ∷ y ∷ ms) n) m.0) same
    ∙ both_of_three (is_lt (slice_cmp nat_cmp x.0 y.0)) (names_rise (y ∷ ms)) (comes_behind (slice_get (y ∷ ms) (length (y ∷ ms) - 1)) m.0)
    ∙ ap (λ (b : Bool). is_lt (slice_cmp nat_cmp x.0 y.0) && b) (one_more (y ∷ ms) m)

-- ---- by halves

first : (a b : Bool) → IsTrue (a && b) → IsTrue a
first true b h = refl
first false b h = h

second : (a b : Bool) → IsTrue (a && b) → IsTrue b
second true b h = h
second false b h = absurd (false≢true h)

less : (o : Ordering) → IsTrue (is_lt o) → o ≡ Less
less Less is = refl
less Equal is = absurd (false≢true is)
less Greater is = absurd (false≢true is)

-- behind the first all names come
below : {A : Type 0} (x : List ℕ × A) (ms : List (List ℕ × A)) → IsTrue (names_rise (x ∷ ms)) → (k : ℕ) (d : List ℕ × A) → k < length ms → slice_cmp nat_cmp x.0 (slice_index_or ms k d).0 ≡ Less
below x [] h k d within = absurd (omega (arith, within))
below x (y ∷ ms) h zero d within = less _ (first (is_lt (slice_cmp nat_cmp x.0 y.0)) (names_rise (y ∷ ms)) h)
below x (y ∷ ms) h (suc k) d within =
    let here : slice_cmp nat_cmp x.0 y.0 ≡ Less = less _ (first (is_lt (slice_cmp nat_cmp x.0 y.0)) (names_rise (y ∷ ms)) h) in
    nat_list_cmp_total.trans x.0 y.0 _ here (below y ms (second (is_lt (slice_cmp nat_cmp x.0 y.0)) (names_rise (y ∷ ms)) h) k d (omega (arith, within)))

not_back : (a b : List ℕ) → slice_cmp nat_cmp a b ≡ Less → is_lt (slice_cmp nat_cmp b a) ≡ false
not_back a b is = ap is_lt (nat_list_cmp_total.antisymm b a) ∙ ap (λ (o : Ordering). is_lt (ordering_reverse o)) is

sorted : {A : Type 0} (ms : List (List ℕ × A)) → IsTrue (names_rise ms) → IsSortedBy (λ x y. is_lt (slice_cmp nat_cmp x.0 y.0)) ms
sorted [] h k d low high = absurd (omega (arith, high))
sorted (x ∷ ms) h zero d low high = not_back x.0 _ (below x ms h 0 d (omega (arith, high)))
sorted (x ∷ []) h (suc k) d low high = absurd (omega (arith, high))
sorted (x ∷ y ∷ ms) h (suc k) d low high =
    let same : suc k + 1 ≡ suc (k + 1) = omega arith in
    ap (λ (n : ℕ). is_lt (slice_cmp nat_cmp (slice_index_or (x ∷ y ∷ ms) n d).0 (slice_index_or (y ∷ ms) k d).0)) same
    ∙ sorted (y ∷ ms) (second (is_lt (slice_cmp nat_cmp x.0 y.0)) (names_rise (y ∷ ms)) h) k d (omega arith) (omega (arith, high))

-- a name is not that of what comes before or behind it
other : (a b : List ℕ) (o : Ordering) → slice_cmp nat_cmp b a ≡ o → bytes_eq a b ≡ is_eq (ordering_reverse o)
other a b o is = sym (is_eq-slice_cmp a b) ∙ ap is_eq (nat_list_cmp_total.antisymm a b) ∙ ap (λ (p : Ordering). is_eq (ordering_reverse p)) is

nowhere : {A : Type 0} (name : List ℕ) (found : Option A) (ms : List (List ℕ × A)) → ((k : ℕ) (d : List ℕ × A) → k < length ms → bytes_eq name (slice_index_or ms k d).0 ≡ false) → last_from name found ms ≡ found
nowhere name found [] not = refl
nowhere {A} name found (m ∷ ms) not =
    ap (λ (b : Bool). last_from name (if b then Some m.1 else found) ms) (not 0 m (omega arith))
    ∙ nowhere name found ms (λ k d within. not (suc k) d (omega (arith, within)))

there : {A : Type 0} (name : List ℕ) (found : Option A) (ms : List (List ℕ × A)) (i : ℕ) (d : List ℕ × A) → IsTrue (names_rise ms) → i < length ms → slice_cmp nat_cmp (slice_index_or ms i d).0 name ≡ Equal → last_from name found ms ≡ Some (slice_index_or ms i d).1
there name found [] i d h within is = absurd (omega (arith, within))
there {A} name found (m ∷ ms) zero d h within is =
    ap (λ (b : Bool). last_from name (if b then Some m.1 else found) ms) (other name m.0 Equal is)
    ∙ nowhere name (Some m.1) ms (λ k d within. sym (is_eq-slice_cmp name _) ∙ ap is_eq (sym (nat_list_cmp_total.congr m.0 name _ is) ∙ below m ms h k d within))
there {A} name found (m ∷ []) (suc i) d h within is = absurd (omega (arith, within))
there {A} name found (m ∷ n ∷ ms) (suc i) d h within is =
    there name (if bytes_eq name m.0 then Some m.1 else found) (n ∷ ms) i d (second (is_lt (slice_cmp nat_cmp m.0 n.0)) (names_rise (n ∷ ms)) h) (omega (arith, within)) is

-- what is found stands there
pub found_there : {A : Type 0} (name : List ℕ) (ms : List (List ℕ × A)) (i : ℕ) (d : List ℕ × A) → IsTrue (names_rise ms) → i < length ms → IsBinarySearchResult (λ m. slice_cmp nat_cmp m.0 name) ms (Ok i) → last_named name ms ≡ Some (slice_index_or ms i d).1
unfolding last_named
found_there name ms i d h within found = there name None ms i d h within (found d)

-- else it stands nowhere
pub found_nowhere : {A : Type 0} (name : List ℕ) (ms : List (List ℕ × A)) (i : ℕ) → IsTrue (names_rise ms) → IsBinarySearchResult (λ m. slice_cmp nat_cmp m.0 name) ms (Err i) → last_named name ms ≡ None
unfolding last_named
found_nowhere name ms i h found =
    let parted = found (searchable_from_sorted nat_list_cmp_total (λ m. m.0) ms name (sorted ms h)) in
    nowhere name None ms (λ k d within. elim (cases_lt k i) [
      | inl under ↦ other name _ Less (parted.0 k d (omega arith) under)
      | inr over ↦ other name _ Greater (parted.1 k d over within)
    ])
