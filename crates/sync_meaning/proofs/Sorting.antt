-- Names put in their order, each once.
use Rattle.std.proofs.Common.{◌≡◌, ◌+◌, ℕ, suc, refl, sym, ◌∙◌, ap, subst, arith, Bool, true, false, ◌&&◌, ◌||◌, List, [], ◌∷◌, cond, map}
use Rattle.std.specs.Prelude.{slice_index_or}
use Rattle.std.specs.Ordering.{nat_cmp, is_lt, is_eq, ordering_reverse, eq_by_cmp}
use Rattle.std.specs.Cmp.Lexicographic.{slice_cmp, bytes_decides}
use Rattle.std.specs.declared.cmp.Ordering.{Ordering}
use Rattle.std.specs.declared.cmp.Ordering.TheVariants.{Less, Equal, Greater}
use Rattle.std.specs.Str.{bytes_eq}
use Rattle.std.specs.List.{list_any, dedup, dedup_from}
use Rattle.std.specs.List.Sorted.{IsPermutation, IsSortedBy}
use Rattle.std.proofs.lemmas.List.Sorted.{list_any-IsPermutation, IsPermutation-map}
use Rattle.std.proofs.lemmas.Bool.{true≢false}
use Rattle.std.proofs.lemmas.Cmp.{nat_list_cmp_total}
use Rattle.std.proofs.lemmas.Map.Text.{is_eq-slice_cmp}
use Rattle.sg_names.specs.ItemList.{rises}
use Rattle.sync_meaning.specs.inner.Arguments.{AreSame, AreSorted}
use Rattle.sync_meaning.specs.Builtins.{is_one_of}

-- a name that ties is the same
tied : (a b : List ℕ) → is_eq (slice_cmp nat_cmp a b) ≡ true → a ≡ b
tied a b is = (bytes_decides a b).0 (sym (is_eq-slice_cmp a b) ∙ is)

flip : (a b : List ℕ) → slice_cmp nat_cmp a b ≡ Greater → slice_cmp nat_cmp b a ≡ Less
flip a b is = nat_list_cmp_total.antisymm b a ∙ ap reversed is
  where
    reversed : Ordering → Ordering
    reversed o = ordering_reverse o

-- whether two names tie
abbrev tie : List ℕ → List ℕ → Bool
tie = eq_by_cmp (slice_cmp nat_cmp)

abbrev pub tie_by : {X : Type 0} (f : X → List ℕ) → X → X → Bool
tie_by f x y = is_eq (slice_cmp nat_cmp (f x) (f y))

-- the names of what is left once each that ties with the last one kept is dropped
from_named : {X : Type 0} (f : X → List ℕ) (k : X) (xs : List X) → map f (dedup_from (tie_by f) k xs) ≡ dedup_from tie (f k) (map f xs)
from_named {X} f k [] = refl
from_named {X} f k (x ∷ xs) = by (tie_by f x k) (from_named f k xs) (from_named f x xs)
  where
    by : (b : Bool) → map f (dedup_from (tie_by f) k xs) ≡ dedup_from tie (f k) (map f xs) → map f (dedup_from (tie_by f) x xs) ≡ dedup_from tie (f x) (map f xs)
        → map f (cond b (dedup_from (tie_by f) k xs) (k ∷ dedup_from (tie_by f) x xs)) ≡ cond b (dedup_from tie (f k) (map f xs)) (f k ∷ dedup_from tie (f x) (map f xs))
    by true same next = same
    by false same next = ap (λ (l : List (List ℕ)). f k ∷ l) next

dedup_named : {X : Type 0} (f : X → List ℕ) (xs : List X) → map f (dedup (tie_by f) xs) ≡ dedup tie (map f xs)
dedup_named {X} f [] = refl
dedup_named {X} f (x ∷ xs) = from_named f x xs

in_from : (k : List ℕ) (xs : List (List ℕ)) (n : List ℕ) → is_one_of (dedup_from tie k xs) n ≡ (bytes_eq n k || is_one_of xs n)
in_from k [] n = refl
in_from k (x ∷ xs) n = by (tie x k) refl (in_from k xs n) (in_from x xs n)
  where
    twice : (a d : Bool) → (a || d) ≡ (a || (a || d))
    twice true d = refl
    twice false d = refl

    by : (b : Bool) → tie x k ≡ b → is_one_of (dedup_from tie k xs) n ≡ (bytes_eq n k || is_one_of xs n) → is_one_of (dedup_from tie x xs) n ≡ (bytes_eq n x || is_one_of xs n)
        → is_one_of (cond b (dedup_from tie k xs) (k ∷ dedup_from tie x xs)) n ≡ (bytes_eq n k || (bytes_eq n x || is_one_of xs n))
    by true is same next = same ∙ twice (bytes_eq n k) (is_one_of xs n) ∙ ap (λ (y : List ℕ). bytes_eq n k || (bytes_eq n y || is_one_of xs n)) (sym (tied x k is))
    by false is same next = ap (λ (b : Bool). bytes_eq n k || b) next

in_dedup : (xs : List (List ℕ)) (n : List ℕ) → is_one_of (dedup tie xs) n ≡ is_one_of xs n
in_dedup [] n = refl
in_dedup (x ∷ xs) n = in_from x xs n

-- no name is less than the one before it
abbrev DoNotFall : List (List ℕ) → Type 0
DoNotFall [] = Unit {0}
DoNotFall (x ∷ []) = Unit {0}
DoNotFall (x ∷ y ∷ ys) = (is_lt (slice_cmp nat_cmp y x) ≡ false) × DoNotFall (y ∷ ys)

next : {X : Type 0} (f : X → List ℕ) (x : X) (xs : List X) (k : ℕ) (d : X) → is_lt (slice_cmp nat_cmp (f (slice_index_or (x ∷ xs) (suc k + 1) d)) (f (slice_index_or xs k d))) ≡ false
    → is_lt (slice_cmp nat_cmp (f (slice_index_or xs (k + 1) d)) (f (slice_index_or xs k d))) ≡ false
next f x xs k d h =
    let same : suc (k + 1) ≡ suc k + 1 = omega arith in
    ap (λ (m : ℕ). is_lt (slice_cmp nat_cmp (f (slice_index_or (x ∷ xs) m d)) (f (slice_index_or xs k d)))) same ∙ h

do_not_fall : {X : Type 0} (f : X → List ℕ) (xs : List X) → IsSortedBy (λ x y. is_lt (slice_cmp nat_cmp (f x) (f y))) xs → DoNotFall (map f xs)
do_not_fall {X} f [] h = tt
do_not_fall {X} f (x ∷ []) h = tt
do_not_fall {X} f (x ∷ y ∷ ys) h = (h 0 x (omega arith) (omega arith), do_not_fall f (y ∷ ys) (λ k d low high. next f x (y ∷ ys) k d (h (suc k) d (omega arith) (omega (arith, high)))))

rises_head : (k x : List ℕ) (xs : List (List ℕ)) → rises (slice_cmp nat_cmp) (k ∷ dedup_from tie x xs) ≡ (is_lt (slice_cmp nat_cmp k x) && rises (slice_cmp nat_cmp) (dedup_from tie x xs))
rises_head k x [] = refl
rises_head k x (y ∷ ys) = by (tie y x) (rises_head k x ys)
  where
    by : (b : Bool) → rises (slice_cmp nat_cmp) (k ∷ dedup_from tie x ys) ≡ (is_lt (slice_cmp nat_cmp k x) && rises (slice_cmp nat_cmp) (dedup_from tie x ys))
        → rises (slice_cmp nat_cmp) (k ∷ cond b (dedup_from tie x ys) (x ∷ dedup_from tie y ys)) ≡ (is_lt (slice_cmp nat_cmp k x) && rises (slice_cmp nat_cmp) (cond b (dedup_from tie x ys) (x ∷ dedup_from tie y ys)))
    by true again = again
    by false again = refl

sorted_from : (k : List ℕ) (xs : List (List ℕ)) → DoNotFall (k ∷ xs) → AreSorted (dedup_from tie k xs)
sorted_from k [] h = refl
sorted_from k (x ∷ xs) h = by (tie x k) refl (sorted_from k xs) (sorted_from x xs)
  where
    above : (o : Ordering) → is_lt o ≡ false → is_eq o ≡ false → o ≡ Greater
    above Less lt eq = absurd (true≢false lt)
    above Equal lt eq = absurd (true≢false eq)
    above Greater lt eq = refl

    by : (b : Bool) → tie x k ≡ b → (DoNotFall (k ∷ xs) → AreSorted (dedup_from tie k xs)) → (DoNotFall (x ∷ xs) → AreSorted (dedup_from tie x xs))
        → AreSorted (cond b (dedup_from tie k xs) (k ∷ dedup_from tie x xs))
    by true is same next = same (subst (λ (y : List ℕ). DoNotFall (y ∷ xs)) (tied x k is) h.1)
    by false is same next =
        rises_head k x xs
        ∙ ap (λ (o : Ordering). is_lt o && rises (slice_cmp nat_cmp) (dedup_from tie x xs)) (flip x k (above (slice_cmp nat_cmp x k) h.0 is))
        ∙ next h.1

sorted_dedup : (xs : List (List ℕ)) → DoNotFall xs → AreSorted (dedup tie xs)
sorted_dedup [] h = refl
sorted_dedup (x ∷ xs) h = sorted_from x xs h

-- what is sorted and keeps one of those that tie has each name, and has them in their order
pub same_kept : {X : Type 0} (f : X → List ℕ) (xs ys zs : List X) → IsPermutation xs ys → zs ≡ dedup (tie_by f) ys → AreSame (map f xs) (map f zs)
same_kept f xs ys zs moved is = λ n.
    list_any-IsPermutation (bytes_eq n) (map f xs) (map f ys) (IsPermutation-map f xs ys moved)
    ∙ sym (in_dedup (map f ys) n)
    ∙ sym (ap (λ (l : List (List ℕ)). is_one_of l n) (ap (map f) is ∙ dedup_named f ys))

pub sorted_kept : {X : Type 0} (f : X → List ℕ) (ys zs : List X) → IsSortedBy (λ x y. is_lt (slice_cmp nat_cmp (f x) (f y))) ys → zs ≡ dedup (tie_by f) ys → AreSorted (map f zs)
sorted_kept f ys zs sorted is = subst (λ (l : List (List ℕ)). AreSorted l) (sym (ap (map f) is ∙ dedup_named f ys)) (sorted_dedup (map f ys) (do_not_fall f ys sorted))
