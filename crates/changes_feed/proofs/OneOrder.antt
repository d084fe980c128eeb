-- names that rise are determined by which they are
use Rattle.std.proofs.Common.{◌≡◌, ◌∙◌, ℕ, Bool, true, false, ◌||◌, List, [], ◌∷◌, refl, sym, ap, subst}
use Rattle.std.proofs.lemmas.Bool.{and_parts, or_left, false≢true, false_from_ne_true}
use Rattle.std.proofs.lemmas.Cmp.{nat_list_cmp_total}
use Rattle.std.proofs.lemmas.Slice.Eq.{bytes_eq-Decides}
use Rattle.std.specs.declared.cmp.Ordering.{Ordering}
use Rattle.std.specs.declared.cmp.Ordering.TheVariants.{Less, Equal, Greater}
use Rattle.std.specs.Ordering.{nat_cmp, is_lt, ordering_reverse}
use Rattle.std.specs.Cmp.Lexicographic.{slice_cmp}
use Rattle.std.specs.Str.{bytes_eq}
use Rattle.sg_names.specs.ItemList.{rises}
use Rattle.sg_history.specs.History.{among}
use Rattle.sg_history.specs.declared.entries.Entry.{Entry}
use Rattle.changes_feed.specs.Switches.{AreSwitches}

less : (o : Ordering) → is_lt o ≡ true → o ≡ Less
less Less h = refl
less Equal h = absurd (false≢true h)
less Greater h = absurd (false≢true h)

pub itself : (x : List ℕ) → bytes_eq x x ≡ true
itself x = (bytes_eq-Decides x x).1 refl

pub same_name : (x y : List ℕ) → bytes_eq x y ≡ true → x ≡ y
same_name x y h = (bytes_eq-Decides x y).0 h

-- no name comes before itself
not_before_itself : (x : List ℕ) → slice_cmp nat_cmp x x ≡ Less → ⊥
not_before_itself x h =
    false≢true (sym (ap (λ (o : Ordering). is_lt (ordering_reverse o)) h) ∙ sym (ap is_lt (nat_list_cmp_total.antisymm x x)) ∙ ap is_lt h)

apart : (x y : List ℕ) → slice_cmp nat_cmp x y ≡ Less → bytes_eq y x ≡ false
apart x y h =
    let B : List ℕ → Type 0 = λ z. slice_cmp nat_cmp x z ≡ Less in
    false_from_ne_true (bytes_eq y x) (λ e. not_before_itself x (subst B (same_name y x e) h))

-- a name comes before each of these
abbrev AllAfter : List ℕ → List (List ℕ) → Type 0
AllAfter x [] = Unit {0}
AllAfter x (y ∷ ys) = (slice_cmp nat_cmp x y ≡ Less) × AllAfter x ys

sooner : (x y : List ℕ) (ys : List (List ℕ)) → slice_cmp nat_cmp x y ≡ Less → AllAfter y ys → AllAfter x ys
sooner x y [] h all = tt
sooner x y (z ∷ zs) h all = (nat_list_cmp_total.trans x y z h all.0, sooner x y zs h all.1)

all_after : (x : List ℕ) (xs : List (List ℕ)) → rises (slice_cmp nat_cmp) (x ∷ xs) ≡ true → AllAfter x xs
all_after x [] h = tt
all_after x (y ∷ ys) h =
    let parts = and_parts (is_lt (slice_cmp nat_cmp x y)) (rises (slice_cmp nat_cmp) (y ∷ ys)) h in
    let first : slice_cmp nat_cmp x y ≡ Less = less (slice_cmp nat_cmp x y) parts.0 in
    (first, sooner x y ys first (all_after y ys parts.1))

tail_rises : (x : List ℕ) (xs : List (List ℕ)) → rises (slice_cmp nat_cmp) (x ∷ xs) ≡ true → rises (slice_cmp nat_cmp) xs ≡ true
tail_rises x [] h = refl
tail_rises x (y ∷ ys) h = (and_parts (is_lt (slice_cmp nat_cmp x y)) (rises (slice_cmp nat_cmp) (y ∷ ys)) h).1

not_among : (x : List ℕ) (xs : List (List ℕ)) → AllAfter x xs → among xs x ≡ false
not_among x [] all = refl
not_among x (y ∷ ys) all = ap (λ (b : Bool). b || among ys x) (apart x y all.0) ∙ not_among x ys all.1

found_after : (x : List ℕ) (xs : List (List ℕ)) (n : List ℕ) → AllAfter x xs → among xs n ≡ true → slice_cmp nat_cmp x n ≡ Less
found_after x [] n all h = absurd (false≢true h)
found_after x (y ∷ ys) n all h = go (λ found. found_after x ys n all.1 found) (bytes_eq y n) refl h
  where
    go : (among ys n ≡ true → slice_cmp nat_cmp x n ≡ Less) → (b : Bool) → bytes_eq y n ≡ b → (b || among ys n) ≡ true → slice_cmp nat_cmp x n ≡ Less
    go later true is found = subst (λ (z : List ℕ). slice_cmp nat_cmp x z ≡ Less) (same_name y n is) all.0
    go later false is found = later found

-- the first of the one list is the first of the other, or comes after it
first_is : (x y : List ℕ) (ys : List (List ℕ)) → AllAfter y ys → among (y ∷ ys) x ≡ true → bytes_eq y x ≡ false → slice_cmp nat_cmp y x ≡ Less
first_is x y ys all found other = found_after y ys x all (sym (ap (λ (b : Bool). b || among ys x) other) ∙ found)

same_first : (x y : List ℕ) (xs ys : List (List ℕ)) → AllAfter x xs → AllAfter y ys → among (y ∷ ys) x ≡ true → among (x ∷ xs) y ≡ true → x ≡ y
same_first x y xs ys after_x after_y there back = go (bytes_eq x y) refl (bytes_eq y x) refl
  where
    go : (b : Bool) → bytes_eq x y ≡ b → (d : Bool) → bytes_eq y x ≡ d → x ≡ y
    go true is d other = same_name x y is
    go false is true other = sym (same_name y x other)
    go false is false other =
        absurd (not_before_itself x (nat_list_cmp_total.trans x y x (first_is y x xs after_x back is) (first_is x y ys after_y there other)))

same_rest : (x n : List ℕ) (xs ys : List (List ℕ)) → AllAfter x xs → AllAfter x ys → among (x ∷ xs) n ≡ among (x ∷ ys) n → among xs n ≡ among ys n
same_rest x n xs ys after_x after_y same = go (bytes_eq x n) refl same
  where
    at_first : (zs : List (List ℕ)) → AllAfter x zs → bytes_eq x n ≡ true → among zs n ≡ false
    at_first zs after is = subst (λ (m : List ℕ). among zs m ≡ false) (same_name x n is) (not_among x zs after)

    go : (b : Bool) → bytes_eq x n ≡ b → (b || among xs n) ≡ (b || among ys n) → among xs n ≡ among ys n
    go true is h = at_first xs after_x is ∙ sym (at_first ys after_y is)
    go false is h = h

first_there : (x : List ℕ) (xs : List (List ℕ)) → among (x ∷ xs) x ≡ true
first_there x xs = or_left (bytes_eq x x) (among xs x) (itself x)

pub one_order : (xs ys : List (List ℕ)) → rises (slice_cmp nat_cmp) xs ≡ true → rises (slice_cmp nat_cmp) ys ≡ true → ((n : List ℕ) → among xs n ≡ among ys n) → xs ≡ ys
one_order [] [] first second same = refl
one_order [] (y ∷ ys) first second same = absurd (false≢true (same y ∙ first_there y ys))
one_order (x ∷ xs) [] first second same = absurd (false≢true (sym (same x) ∙ first_there x xs))
one_order (x ∷ xs) (y ∷ ys) first second same =
    let after_x : AllAfter x xs = all_after x xs first in
    let after_y : AllAfter y ys = all_after y ys second in
    let head : x ≡ y = same_first x y xs ys after_x after_y (sym (same x) ∙ first_there x xs) (same y ∙ first_there y ys) in
    let A : List ℕ → Type 0 = λ z. AllAfter z ys in
    let N : List ℕ → Type 0 = λ z. (n : List ℕ) → among (x ∷ xs) n ≡ among (z ∷ ys) n in
    let rest : xs ≡ ys = one_order xs ys (tail_rises x xs first) (tail_rises y ys second) (λ n. same_rest x n xs ys after_x (subst A (sym head) after_y) (subst N (sym head) same n)) in
    ap (λ (z : List ℕ). z ∷ xs) head ∙ ap (λ (zs : List (List ℕ)). y ∷ zs) rest

same_bool : (a b : Bool) → (a ≡ true → b ≡ true) → (b ≡ true → a ≡ true) → a ≡ b
same_bool true b there back = sym (there refl)
same_bool false true there back = back refl
same_bool false false there back = refl

-- the channels that were gained or lost in a segment are one list
pub one_switches : (a b : List (List ℕ)) (entries : List Entry) (user : List ℕ) (start front : ℕ) → AreSwitches a entries user start front → AreSwitches b entries user start front → a ≡ b
one_switches a b entries user start front first second =
    one_order a b first.in_order second.in_order
    (λ n. same_bool (among a n) (among b n) (λ h. (second.are n).1 ((first.are n).0 h)) (λ h. (first.are n).1 ((second.are n).0 h)))
