-- The lowest of stamps, as stamps come and go.
use Rattle.std.proofs.Common.{◌≡◌, ℕ, ◌+◌, ◌<◌, ◌≤◌, cond, eqb, List, [], ◌∷◌, length, Some, None, Bool, refl, sym, ap, ◌∙◌, arith, false, ◌⊎◌, inl, inr}
use Rattle.std.specs.Prelude.{Option, Result, Ok, Err, IsOk, OnOk, IfSome, IfNone, IsPermutation, slice_index_or}
use Rattle.std.specs.List.{AllByRecursion}
use Rattle.std.specs.Ordering.{nat_cmp, is_lt}
use Rattle.std.specs.BinaryHeap.{IsHeap, IsUpperBound, PopsGreatest}
use Rattle.std.proofs.lemmas.List.Sums.{sum_by-cons}
use Rattle.std.proofs.lemmas.List.Sorted.{sum_by_pushed, sum_by_popped}
use Rattle.std.proofs.lemmas.Map.Keys.{ge_from_not_lt}
use Rattle.std.proofs.lemmas.Bool.{eq-eqb, ne_eqb, cases_lt}
use Rattle.std.specs.declared.cmp.Reverse.{Reverse}
use Rattle.std.specs.declared.cmp.Ordering.{Ordering}
use Rattle.blip_mux.specs.inner.Stamps.{times, IsLowest}

abbrev pub falls : Reverse ℕ → Reverse ℕ → Ordering
falls x y = nat_cmp y.0 x.0

abbrev pub is_it : ℕ → Reverse ℕ → ℕ
is_it q x = cond (eqb x.0 q) 1 0

times_cons : (q : ℕ) (x : Reverse ℕ) (xs : List (Reverse ℕ)) → times q (x ∷ xs) ≡ is_it q x + times q xs
times_cons q x xs = sum_by-cons (is_it q) x xs

it_once : (x : Reverse ℕ) → is_it x.0 x ≡ 1
it_once x = ap (λ (b : Bool). cond b 1 0) (eq-eqb x.0 x.0 refl)

none_below : (stamp : ℕ) (xs : List (Reverse ℕ)) → AllByRecursion (λ y. is_lt (nat_cmp y.0 stamp) ≡ false) xs → (q : ℕ) → q < stamp → times q xs ≡ 0
none_below stamp [] all q below = refl
none_below stamp (x ∷ xs) all q below =
    let h = ge_from_not_lt x.0 stamp all.0 in
    let rest = none_below stamp xs all.1 q below in
    let no : is_it q x ≡ 0 = ap (λ (b : Bool). cond b 1 0) (ne_eqb x.0 q (λ e. absurd (omega arith))) in
    let first = times_cons q x xs in
    omega arith

-- what heads a heap is the lowest
pub heads : (x : Reverse ℕ) (xs : List (Reverse ℕ)) → x ≡ slice_index_or xs 0 x → 0 < length xs → IsUpperBound falls x xs → IsLowest x.0 xs
heads x [] at some all = absurd (omega arith)
heads x (y ∷ ys) at some all =
    let same : x ≡ y = at in
    let first = times_cons x.0 y ys in
    let one : is_it x.0 y ≡ 1 = ap (is_it x.0) (sym same) ∙ it_once x in
    (omega arith, none_below x.0 (y ∷ ys) all)

pub ok_gives : {A E P : Type 0} (r : Result A E) → IsOk r → OnOk r P → P
ok_gives (Ok x) is p = p
ok_gives (Err e) is p = absurd cc

pub pushed : (stamp : ℕ) (x : Reverse ℕ) (old new : List (Reverse ℕ)) → IsPermutation (x ∷ old) new → x.0 ≡ stamp → (q : ℕ) → times q new ≡ cond (eqb stamp q) 1 0 + times q old
pushed stamp x old new p e q = sum_by_pushed (is_it q) x old new p ∙ ap (λ n. cond (eqb n q) 1 0 + times q old) e

only_lowest : (a b : ℕ) (xs : List (Reverse ℕ)) → IsLowest a xs → IsLowest b xs → a ≡ b
only_lowest a b xs la lb = go (cases_lt a b) (cases_lt b a) where
  go : (a < b) ⊎ (b ≤ a) → (b < a) ⊎ (a ≤ b) → a ≡ b
  go (inl below) other = let none = lb.1 a below in let some = la.0 in absurd (omega arith)
  go (inr least) (inl below) = let none = la.1 b below in let some = lb.0 in absurd (omega arith)
  go (inr least) (inr also) = omega arith

pub popped : (stamp : ℕ) (r : Option (Reverse ℕ)) (heap_len : ℕ) (old new : List (Reverse ℕ)) → IsLowest stamp old → IsHeap falls old
    → IfSome r (λ x. IsPermutation old (x ∷ new)) → IfSome r (λ x. PopsGreatest falls old x new) → IfNone r (heap_len ≡ 0) → heap_len ≡ length old
    → (q : ℕ) → times q new + cond (eqb stamp q) 1 0 ≡ times q old
popped stamp (Some x) heap_len old new low heap perm pops none long q =
    let gone = sum_by_popped (is_it q) x old new perm in
    let here = sum_by_popped (is_it x.0) x old new perm in
    let once = it_once x in
    let its : IsLowest x.0 old = (omega arith, none_below x.0 old (pops heap).1) in
    let same = only_lowest x.0 stamp old its low in
    ap (λ n. times q new + cond (eqb n q) 1 0) (sym same) ∙ gone
popped stamp None heap_len [] new low heap perm pops none long q = let some = low.0 in absurd (omega arith)
popped stamp None heap_len (x ∷ xs) new low heap perm pops none long q = absurd (omega arith)
