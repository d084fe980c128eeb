-- whether numbers are among others
use Rattle.std.proofs.Common.{◌≡◌, ◌≢◌, ◌<◌, ◌≤◌, ◌⊎◌, inl, inr, ℕ, suc, refl, sym, ◌∙◌, ap, arith, Bool, true, false, ◌&&◌, ◌||◌, not, cond, List, [], ◌∷◌, ◌++◌, length, nat_eq, eqb, Result, Ok, Err}
use Rattle.std.specs.Prelude.{filter, slice_index_or, is_err, MatchResult}
use Rattle.std.specs.List.{dedup, dedup_from}
use Rattle.std.specs.List.Sorted.{IsBinarySearchResult, IsPermutation, IsSorted, IsStrictlyIncreasing}
use Rattle.std.specs.Ordering.{nat_cmp}
use Rattle.std.proofs.lemmas.Bool.{eq-eqb, cases_lt, eqb-true, false≢true, ne_eqb, or_from}
use Rattle.std.proofs.lemmas.List.Folds.{list_any-append, list_any_at}
use Rattle.std.proofs.lemmas.List.Kept.{AllPairs-from_increasing}
use Rattle.std.proofs.lemmas.List.Sorted.{IsNonDecreasingBy-from_sort, list_any-IsPermutation, searched}
use Rattle.channel_cache.specs.Stands.{has}

pub has_append : (xs ys : List ℕ) (n : ℕ) → has (xs ++ ys) n ≡ (has xs n || has ys n)
has_append xs ys n = list_any-append (nat_eq n) xs ys

and_false : (b : Bool) → (b && false) ≡ false
and_false true = refl
and_false false = refl

or_false : (b : Bool) → (b || false) ≡ b
or_false true = refl
or_false false = refl

pub has_filter : (p : ℕ → Bool) (xs : List ℕ) (n : ℕ) → has (filter p xs) n ≡ (has xs n && p n)
has_filter p [] n = refl
has_filter p (x ∷ xs) n = by (p x) (nat_eq n x) refl refl (has_filter p xs n)
  where
    by : (b e : Bool) → p x ≡ b → nat_eq n x ≡ e → has (filter p xs) n ≡ (has xs n && p n) → has (cond b (x ∷ filter p xs) (filter p xs)) n ≡ ((e || has xs n) && p n)
    by true true is same rest = ap (λ (a : Bool). a || has (filter p xs) n) same ∙ sym (ap p (eqb-true n x same) ∙ is)
    by true false is same rest = ap (λ (a : Bool). a || has (filter p xs) n) same ∙ rest
    by false true is same rest =
        let none : p n ≡ false = ap p (eqb-true n x same) ∙ is in
        rest ∙ ap (λ (a : Bool). has xs n && a) none ∙ and_false (has xs n) ∙ sym none
    by false false is same rest = rest

pub has_moved : (xs ys : List ℕ) (n : ℕ) → IsPermutation xs ys → has ys n ≡ has xs n
has_moved xs ys n moved = sym (list_any-IsPermutation (nat_eq n) xs ys moved)

has_from : (k : ℕ) (xs : List ℕ) (n : ℕ) → has (dedup_from eqb k xs) n ≡ (nat_eq n k || has xs n)
has_from k [] n = refl
has_from k (x ∷ xs) n = by (eqb x k) refl (has_from k xs n) (has_from x xs n)
  where
    twice : (a d : Bool) → (a || d) ≡ (a || (a || d))
    twice true d = refl
    twice false d = refl

    by : (b : Bool) → eqb x k ≡ b → has (dedup_from eqb k xs) n ≡ (nat_eq n k || has xs n) → has (dedup_from eqb x xs) n ≡ (nat_eq n x || has xs n)
        → has (cond b (dedup_from eqb k xs) (k ∷ dedup_from eqb x xs)) n ≡ (nat_eq n k || (nat_eq n x || has xs n))
    by true is same next = same ∙ twice (nat_eq n k) (has xs n) ∙ ap (λ (y : ℕ). nat_eq n k || (nat_eq n y || has xs n)) (sym (eqb-true x k is))
    by false is same next = ap (λ (b : Bool). nat_eq n k || b) next

pub has_dedup : (xs : List ℕ) (n : ℕ) → has (dedup eqb xs) n ≡ has xs n
has_dedup [] n = refl
has_dedup (x ∷ xs) n = has_from x xs n

-- a number that is found by halves
has_none : (xs : List ℕ) (x : ℕ) → ((k : ℕ) → k < length xs → slice_index_or xs k 0 ≢ x) → has xs x ≡ false
has_none [] x other = refl
has_none (y ∷ ys) x other = or_from (nat_eq x y) (has ys x) (ne_eqb x y (λ same. other 0 (omega arith) (sym same))) (has_none ys x (λ k within. other (suc k) (omega (arith, within))))

pub lacks_by : (xs : List ℕ) (x : ℕ) (r : Result ℕ ℕ) → IsBinarySearchResult (λ y. nat_cmp y x) xs r → IsSorted nat_cmp xs → is_err r ≡ not (has xs x)
lacks_by xs x r found sorted = by r (searched xs x r found (λ i j le within. IsNonDecreasingBy-from_sort (λ (n : ℕ). n) xs sorted i j 0 le within))
  where
    by : (r : Result ℕ ℕ) → MatchResult r (λ i. (i < length xs) × (slice_index_or xs i 0 ≡ x))
        (λ i. (i ≤ length xs) × ((k : ℕ) → k < i → slice_index_or xs k 0 < x) × ((k : ℕ) → i ≤ k → k < length xs → x < slice_index_or xs k 0)) → is_err r ≡ not (has xs x)
    by (Ok i) at = sym (ap not (list_any_at (nat_eq x) xs i 0 at.0 (eq-eqb x (slice_index_or xs i 0) (sym at.1))))
    by (Err i) at = sym (ap not (has_none xs x (λ k within same. apart k within same (order k))))
      where
        order : (k : ℕ) → (k < i) ⊎ (i ≤ k)
        order k = cases_lt k i

        apart : (k : ℕ) → k < length xs → slice_index_or xs k 0 ≡ x → (k < i) ⊎ (i ≤ k) → ⊥
        apart k within same (inl under) = omega (arith, same, at.1 k under)
        apart k within same (inr over) = omega (arith, same, at.2 k over within)

-- what a list holds that others left, and others entered since
abbrev pub held : List ℕ → List ℕ → List ℕ → ℕ → Bool
held list left entered n = has (filter (λ seq. not (has left seq)) list ++ entered) n

pub held_by : (list left entered : List ℕ) (n : ℕ) → held list left entered n ≡ ((has list n && not (has left n)) || has entered n)
held_by list left entered n =
    has_append (filter (λ seq. not (has left seq)) list) entered n ∙ ap (λ (b : Bool). b || has entered n) (has_filter (λ seq. not (has left seq)) list n)

-- one that none left, and none entered since
pub held_alone : (list left entered : List ℕ) (n : ℕ) → left ≡ [] → entered ≡ [] → held list left entered n ≡ has list n
held_alone list left entered n none nothing =
    held_by list left entered n
    ∙ ap (λ (xs : List ℕ). (has list n && not (has xs n)) || has entered n) none
    ∙ ap (λ (xs : List ℕ). (has list n && true) || has xs n) nothing
    ∙ plain (has list n)
  where
    plain : (b : Bool) → ((b && true) || false) ≡ b
    plain true = refl
    plain false = refl

-- one more left, where nothing entered since
pub left_one : (list left more entered : List ℕ) (seq n : ℕ) → entered ≡ [] → more ≡ left ++ seq ∷ [] → held list more entered n ≡ (held list left entered n && not (nat_eq n seq))
left_one list left more entered seq n nothing is =
    held_by list more entered n
    ∙ ap (λ (xs : List ℕ). (has list n && not (has xs n)) || has entered n) is
    ∙ ap (λ (xs : List ℕ). (has list n && not (has (left ++ seq ∷ []) n)) || has xs n) nothing
    ∙ ap (λ (b : Bool). (has list n && not b) || false) (has_append left (seq ∷ []) n)
    ∙ both (has list n) (has left n) (nat_eq n seq)
    ∙ ap (λ (xs : List ℕ). ((has list n && not (has left n)) || has xs n) && not (nat_eq n seq)) (sym nothing)
    ∙ ap (λ (b : Bool). b && not (nat_eq n seq)) (sym (held_by list left entered n))
  where
    both : (a b c : Bool) → ((a && not (b || (c || false))) || false) ≡ (((a && not b) || false) && not c)
    both true true c = refl
    both true false true = refl
    both true false false = refl
    both false b c = refl

-- numbers that rise
abbrev pub Below : ℕ → List ℕ → Type 0
Below x ys = (n : ℕ) → has ys n ≡ true → x < n

abbrev pub Rises : List ℕ → Type 0
Rises [] = Unit {0}
Rises (x ∷ xs) = Below x xs × Rises xs

below : (x : ℕ) (ys : List ℕ) → ((j : ℕ) → j < length ys → x < slice_index_or ys j 0) → Below x ys
below x [] all n h = absurd (false≢true h)
below x (y ∷ ys) all n h = by (nat_eq n y) refl h (λ k. below x ys (λ j within. all (suc j) (omega (arith, within))) n k)
  where
    by : (b : Bool) → nat_eq n y ≡ b → (b || has ys n) ≡ true → (has ys n ≡ true → x < n) → x < n
    by true same h rest = omega (arith, all 0 (omega arith), eqb-true n y same)
    by false same h rest = rest h

rises_pairs : (xs : List ℕ) → ((i j : ℕ) → i < j → j < length xs → slice_index_or xs i 0 < slice_index_or xs j 0) → Rises xs
rises_pairs [] all = tt
rises_pairs (x ∷ xs) all = (
  below x xs (λ j within. all 0 (suc j) (omega arith) (omega (arith, within))),
  rises_pairs xs (λ i j lower within. all (suc i) (suc j) (omega (arith, lower)) (omega (arith, within))),
)

pub rises_of : (xs : List ℕ) → IsStrictlyIncreasing xs → Rises xs
rises_of xs h = rises_pairs xs (λ i j lower within. AllPairs-from_increasing xs h i j 0 lower within)

pub rises_more : (xs : List ℕ) (k : ℕ) → Rises xs → ((n : ℕ) → has xs n ≡ true → n < k) → Rises (xs ++ k ∷ [])
rises_more [] k rises above = (λ n h. absurd (false≢true h), tt)
rises_more (x ∷ xs) k rises above = (
  λ n h. by n (has xs n) refl (sym (has_append xs (k ∷ []) n) ∙ h),
  rises_more xs k rises.1 (λ n h. above n (later n h)),
)
  where
    later : (n : ℕ) → has xs n ≡ true → (nat_eq n x || has xs n) ≡ true
    later n h = ap (λ (b : Bool). nat_eq n x || b) h ∙ any (nat_eq n x)
      where
        any : (b : Bool) → (b || true) ≡ true
        any true = refl
        any false = refl

    first : x < k
    first = above x (ap (λ (b : Bool). b || has xs x) (eq-eqb x x refl))

    by : (n : ℕ) (b : Bool) → has xs n ≡ b → (has xs n || (nat_eq n k || false)) ≡ true → x < n
    by n true is h = rises.0 n is
    by n false is h = own (nat_eq n k) refl (sym (ap (λ (b : Bool). b || (nat_eq n k || false)) is) ∙ h)
      where
        own : (e : Bool) → nat_eq n k ≡ e → (e || false) ≡ true → x < n
        own true same h = omega (arith, first, eqb-true n k same)
        own false same h = absurd (false≢true h)

least : (y : ℕ) (ys : List ℕ) → Below y ys → (n : ℕ) → has (y ∷ ys) n ≡ true → y ≤ n
least y ys lower n h = by (nat_eq n y) refl h
  where
    by : (b : Bool) → nat_eq n y ≡ b → (b || has ys n) ≡ true → y ≤ n
    by true same h = omega (arith, eqb-true n y same)
    by false same h = omega (arith, lower n h)

is_first : (x : ℕ) (xs : List ℕ) → has (x ∷ xs) x ≡ true
is_first x xs = ap (λ (b : Bool). b || has xs x) (eq-eqb x x refl)

not_later : (x : ℕ) (xs : List ℕ) → Below x xs → has xs x ≡ false
not_later x xs lower = by (has xs x) refl
  where
    by : (b : Bool) → has xs x ≡ b → b ≡ false
    by true is = absurd (omega (arith, lower x is))
    by false is = refl

-- two lists of numbers that rise and have the same are one
pub same_list : (xs ys : List ℕ) → Rises xs → Rises ys → ((n : ℕ) → has xs n ≡ has ys n) → xs ≡ ys
same_list [] [] rx ry h = refl
same_list [] (y ∷ ys) rx ry h = absurd (false≢true (h y ∙ is_first y ys))
same_list (x ∷ xs) [] rx ry h = absurd (false≢true (sym (h x) ∙ is_first x xs))
same_list (x ∷ xs) (y ∷ ys) rx ry h =
    let one : y ≤ x = least y ys ry.0 x (sym (h x) ∙ is_first x xs) in
    let other : x ≤ y = least x xs rx.0 y (h y ∙ is_first y ys) in
    let head : x ≡ y = omega (arith, one, other) in
    ap (λ (z : ℕ). z ∷ xs) head ∙ ap (λ (l : List ℕ). y ∷ l) (same_list xs ys rx.1 ry.1 (λ n. by head n (nat_eq n x) refl (h n)))
  where
    by : x ≡ y → (n : ℕ) (b : Bool) → nat_eq n x ≡ b → (nat_eq n x || has xs n) ≡ (nat_eq n y || has ys n) → has xs n ≡ has ys n
    by head n true is same =
        let at : n ≡ x = eqb-true n x is in
        ap (has xs) at ∙ not_later x xs rx.0 ∙ sym (ap (has ys) (at ∙ head) ∙ not_later y ys ry.0)
    by head n false is same =
        ap (λ (b : Bool). b || has xs n) (sym is) ∙ same ∙ ap (λ (z : ℕ). nat_eq n z || has ys n) (sym head) ∙ ap (λ (b : Bool). b || has ys n) is
