-- An item put at its place in a list.
use Rattle.std.proofs.Common.{◌≡◌, ℕ, zero, suc, ◌+◌, ◌≤◌, ◌<◌, Bool, true, false, ◌&&◌, List, [], ◌∷◌, length, Result, Ok, Err, Ordering, Less, Equal, Greater, refl, sym, ap, ◌∙◌, arith}
use Rattle.std.specs.Prelude.{insert, slice_index_or}
use Rattle.std.specs.Cmp.{IsTotalOrder}
use Rattle.std.specs.List.Sorted.{IsSortedBy, IsBinarySearchResult, IsSearchInRange}
use Rattle.std.specs.Ordering.{match_ordering, ordering_reverse, is_lt}
use Rattle.std.proofs.lemmas.List.Sorted.{searchable_from_sorted}
use Rattle.std.proofs.lemmas.Bool.{false≢true}
use Rattle.sg_names.specs.ItemList.{rises}
use Rattle.sync_meaning.specs.Builtins.{put}

first : (a b : Bool) → (a && b) ≡ true → a ≡ true
first true b h = refl
first false b h = h

second : (a b : Bool) → (a && b) ≡ true → b ≡ true
second true b h = h
second false b h = absurd (false≢true h)

both : (a b : Bool) → a ≡ true → b ≡ true → (a && b) ≡ true
both true true x y = refl
both true false x y = y
both false b x y = x

less : (o : Ordering) → is_lt o ≡ true → o ≡ Less
less Less h = refl
less Equal h = absurd (false≢true h)
less Greater h = absurd (false≢true h)

not_less : (o : Ordering) → o ≡ Greater → is_lt o ≡ false
not_less o e = ap (λ (o : Ordering). is_lt o) e

turned : (o q : Ordering) → o ≡ ordering_reverse q → q ≡ Less → o ≡ Greater
turned o q e f = e ∙ ap (λ (o : Ordering). ordering_reverse o) f

turned_back : (o q : Ordering) → o ≡ ordering_reverse q → q ≡ Greater → o ≡ Less
turned_back o q e f = e ∙ ap (λ (o : Ordering). ordering_reverse o) f

turned_equal : (o q : Ordering) → o ≡ ordering_reverse q → q ≡ Equal → o ≡ Equal
turned_equal o q e f = e ∙ ap (λ (o : Ordering). ordering_reverse o) f

equal_back : (o : Ordering) → o ≡ ordering_reverse o → o ≡ Equal
equal_back Less e = absurd cc
equal_back Equal e = refl
equal_back Greater e = absurd cc

longer : {X : Type 0} (o : Ordering) (x z : X) (zs ws : List X) → length zs ≤ length ws → length (z ∷ zs) ≤ length (match_ordering o (x ∷ z ∷ zs) (z ∷ zs) (z ∷ ws))
longer Less x z zs ws h = omega arith
longer Equal x z zs ws h = omega arith
longer Greater x z zs ws h = omega (arith, h)

module _ {X : Type 0} (order : X → X → Ordering) where
  before : (x z : X) (zs : List X) → order x z ≡ Less → put order x (z ∷ zs) ≡ x ∷ z ∷ zs
  before x z zs e = rw e refl

  there : (x z : X) (zs : List X) → order x z ≡ Equal → put order x (z ∷ zs) ≡ z ∷ zs
  there x z zs e = rw e refl

  behind : (x z : X) (zs : List X) → order x z ≡ Greater → put order x (z ∷ zs) ≡ z ∷ put order x zs
  behind x z zs e = rw e refl

  -- a list never gets shorter
  pub put_grows : (x : X) (zs : List X) → length zs ≤ length (put order x zs)
  put_grows x [] = omega arith
  put_grows x (z ∷ zs) = longer (order x z) x z zs (put order x zs) (put_grows x zs)

  module _ (total : IsTotalOrder order) where
    itself : (x : X) → order x x ≡ Equal
    itself x = equal_back (order x x) (total.antisymm x x)

    greater : (x y : X) → order x y ≡ Less → order y x ≡ Greater
    greater x y e = turned (order y x) (order x y) (total.antisymm y x) e

    smaller : (x y : X) → order x y ≡ Greater → order y x ≡ Less
    smaller x y e = turned_back (order y x) (order x y) (total.antisymm y x) e

    equal : (x y : X) → order x y ≡ Equal → order y x ≡ Equal
    equal x y e = turned_equal (order y x) (order x y) (total.antisymm y x) e

    once_by : (o : Ordering) (x z : X) (zs : List X) → order x z ≡ o → put order x (put order x zs) ≡ put order x zs → put order x (put order x (z ∷ zs)) ≡ put order x (z ∷ zs)
    once_by Less x z zs e h = ap (λ l. put order x l) (before x z zs e) ∙ there x x (z ∷ zs) (itself x) ∙ sym (before x z zs e)
    once_by Equal x z zs e h = ap (λ l. put order x l) (there x z zs e)
    once_by Greater x z zs e h = ap (λ l. put order x l) (behind x z zs e) ∙ behind x z (put order x zs) e ∙ ap (λ l. z ∷ l) h ∙ sym (behind x z zs e)

    -- what is put twice is there once
    pub put_once : (x : X) (zs : List X) → put order x (put order x zs) ≡ put order x zs
    put_once x [] = there x x [] (itself x)
    put_once x (z ∷ zs) = once_by (order x z) x z zs refl (put_once x zs)

    -- two at the front
    front : (o : Ordering) (x y : X) (l : List X) → order x y ≡ o → (order x y ≡ Equal → x ≡ y) → put order x l ≡ x ∷ l → put order y l ≡ y ∷ l
        → put order x (y ∷ l) ≡ put order y (x ∷ l)
    front Less x y l e exact hx hy = before x y l e ∙ ap (λ r. x ∷ r) (sym hy) ∙ sym (behind y x l (greater x y e))
    front Equal x y l e exact hx hy = there x y l e ∙ ap (λ w. w ∷ l) (sym (exact e)) ∙ sym (there y x l (equal x y e))
    front Greater x y l e exact hx hy = behind x y l e ∙ ap (λ r. y ∷ r) hx ∙ sym (before y x l (smaller x y e))

    -- one that comes before an item, and one that comes behind the first
    less_first : (x y z : X) (zs ws : List X) → order x z ≡ Less → order y x ≡ Greater → put order y (z ∷ zs) ≡ z ∷ ws
        → put order x (put order y (z ∷ zs)) ≡ put order y (put order x (z ∷ zs))
    less_first x y z zs ws e g h =
        ap (λ l. put order x l) h ∙ before x z ws e ∙ ap (λ l. x ∷ l) (sym h) ∙ sym (behind y x (z ∷ zs) g) ∙ sym (ap (λ l. put order y l) (before x z zs e))

    above_equal : (x y z : X) → order x z ≡ Less → order y z ≡ Equal → order y x ≡ Greater
    above_equal x y z e f = total.congr y z x f ∙ greater x z e

    above_greater : (x y z : X) → order x z ≡ Less → order y z ≡ Greater → order y x ≡ Greater
    above_greater x y z e f = greater x y (total.trans x z y e (smaller y z f))

    commutes_by : (a b : Ordering) (x y z : X) (zs : List X) → order x z ≡ a → order y z ≡ b → (order x y ≡ Equal → x ≡ y)
        → put order x (put order y zs) ≡ put order y (put order x zs) → put order x (put order y (z ∷ zs)) ≡ put order y (put order x (z ∷ zs))
    commutes_by Less Less x y z zs e f exact h =
        ap (λ l. put order x l) (before y z zs f)
        ∙ front (order x y) x y (z ∷ zs) refl exact (before x z zs e) (before y z zs f)
        ∙ sym (ap (λ l. put order y l) (before x z zs e))
    commutes_by Less Equal x y z zs e f exact h = less_first x y z zs zs e (above_equal x y z e f) (there y z zs f)
    commutes_by Less Greater x y z zs e f exact h = less_first x y z zs (put order y zs) e (above_greater x y z e f) (behind y z zs f)
    commutes_by Equal Less x y z zs e f exact h = sym (less_first y x z zs zs f (above_equal y x z f e) (there x z zs e))
    commutes_by Equal Equal x y z zs e f exact h = ap (λ l. put order x l) (there y z zs f) ∙ there x z zs e ∙ sym (ap (λ l. put order y l) (there x z zs e) ∙ there y z zs f)
    commutes_by Equal Greater x y z zs e f exact h =
        ap (λ l. put order x l) (behind y z zs f) ∙ there x z (put order y zs) e ∙ sym (ap (λ l. put order y l) (there x z zs e) ∙ behind y z zs f)
    commutes_by Greater Less x y z zs e f exact h = sym (less_first y x z zs (put order x zs) f (above_greater y x z f e) (behind x z zs e))
    commutes_by Greater Equal x y z zs e f exact h =
        ap (λ l. put order x l) (there y z zs f) ∙ behind x z zs e ∙ sym (ap (λ l. put order y l) (behind x z zs e) ∙ there y z (put order x zs) f)
    commutes_by Greater Greater x y z zs e f exact h =
        ap (λ l. put order x l) (behind y z zs f) ∙ behind x z (put order y zs) e ∙ ap (λ l. z ∷ l) h
        ∙ sym (ap (λ l. put order y l) (behind x z zs e) ∙ behind y z (put order x zs) f)

    -- two are put in either order, where those that tie are the same
    pub put_commutes : (x y : X) (zs : List X) → (order x y ≡ Equal → x ≡ y) → put order x (put order y zs) ≡ put order y (put order x zs)
    put_commutes x y [] exact = front (order x y) x y [] refl exact refl refl
    put_commutes x y (z ∷ zs) exact = commutes_by (order x z) (order y z) x y z zs refl refl exact (put_commutes x y zs exact)

    -- ---- a list that rises goes on to

    rises_by : (o : Ordering) (y x z : X) (zs rest : List X) → order x z ≡ o → order y x ≡ Less → rises order (y ∷ z ∷ zs) ≡ true → (order x z ≡ Greater → rises order (z ∷ rest) ≡ true)
        → rises order (y ∷ match_ordering o (x ∷ z ∷ zs) (z ∷ zs) (z ∷ rest)) ≡ true
    rises_by Less y x z zs rest e f h hrest = rw (f, e) (second (is_lt (order y z)) (rises order (z ∷ zs)) h)
    rises_by Equal y x z zs rest e f h hrest = h
    rises_by Greater y x z zs rest e f h hrest =
        both (is_lt (order y z)) (rises order (z ∷ rest)) (first (is_lt (order y z)) (rises order (z ∷ zs)) h) (hrest e)

    rises_first : (o : Ordering) (x y : X) (ys rest : List X) → order x y ≡ o → rises order (y ∷ ys) ≡ true → (order x y ≡ Greater → rises order (y ∷ rest) ≡ true)
        → rises order (match_ordering o (x ∷ y ∷ ys) (y ∷ ys) (y ∷ rest)) ≡ true
    rises_first Less x y ys rest e h hrest = rw e h
    rises_first Equal x y ys rest e h hrest = h
    rises_first Greater x y ys rest e h hrest = hrest e

    -- behind an item that comes before it
    put_behind : (y x : X) (ys : List X) → order y x ≡ Less → rises order (y ∷ ys) ≡ true → rises order (y ∷ put order x ys) ≡ true
    put_behind y x [] f h = rw f refl
    put_behind y x (z ∷ zs) f h =
        rises_by (order x z) y x z zs (put order x zs) refl f h (λ e. put_behind z x zs (smaller x z e) (second (is_lt (order y z)) (rises order (z ∷ zs)) h))

    pub put_rises : (x : X) (ys : List X) → rises order ys ≡ true → rises order (put order x ys) ≡ true
    put_rises x [] h = refl
    put_rises x (y ∷ ys) h = rises_first (order x y) x y ys (put order x ys) refl h (λ e. put_behind y x ys (smaller x y e) h)

    -- ---- found by halves

    head_below : (y : X) (ys : List X) (i : ℕ) (d : X) → rises order (y ∷ ys) ≡ true → i < length ys → order y (slice_index_or ys i d) ≡ Less
    head_below y [] i d h within = absurd (omega (arith, within))
    head_below y (z ∷ zs) zero d h within = less (order y z) (first (is_lt (order y z)) (rises order (z ∷ zs)) h)
    head_below y (z ∷ zs) (suc i) d h within =
        total.trans y z (slice_index_or zs i d) (less (order y z) (first (is_lt (order y z)) (rises order (z ∷ zs)) h))
        (head_below z zs i d (second (is_lt (order y z)) (rises order (z ∷ zs)) h) (omega (arith, within)))

    tail_rises : (y : X) (ys : List X) → rises order (y ∷ ys) ≡ true → rises order ys ≡ true
    tail_rises y [] h = refl
    tail_rises y (z ∷ zs) h = second (is_lt (order y z)) (rises order (z ∷ zs)) h

    found_there : (x : X) (ys : List X) (i : ℕ) → i < length ys → ((d : X) → order (slice_index_or ys i d) x ≡ Equal) → rises order ys ≡ true → put order x ys ≡ ys
    found_there x [] i within h up = absurd (omega (arith, within))
    found_there x (y ∷ ys) zero within h up = there x y ys (equal y x (h y))
    found_there x (y ∷ ys) (suc i) within h up =
        behind x y ys (sym (total.congr (slice_index_or ys i y) x y (h y)) ∙ greater y (slice_index_or ys i y) (head_below y ys i y up (omega (arith, within))))
        ∙ ap (λ l. y ∷ l) (found_there x ys i (omega (arith, within)) h (tail_rises y ys up))

    not_there : (x : X) (ys : List X) (i : ℕ) → i ≤ length ys → ((k : ℕ) (d : X) → 0 ≤ k → k < i → order (slice_index_or ys k d) x ≡ Less)
        → ((k : ℕ) (d : X) → i ≤ k → k < length ys → order (slice_index_or ys k d) x ≡ Greater) → put order x ys ≡ insert ys i x
    not_there x [] zero within low high = refl
    not_there x [] (suc i) within low high = absurd (omega (arith, within))
    not_there x (y ∷ ys) zero within low high = before x y ys (smaller y x (high 0 y (omega arith) (omega arith)))
    not_there x (y ∷ ys) (suc i) within low high =
        behind x y ys (greater y x (low 0 y (omega arith) (omega arith)))
        ∙ ap (λ l. y ∷ l) (not_there x ys i (omega (arith, within)) (λ k d a b. low (suc k) d (omega arith) (omega (arith, b))) (λ k d a b. high (suc k) d (omega (arith, a)) (omega (arith, b))))

    sorted : (ys : List X) → rises order ys ≡ true → IsSortedBy (λ a b. is_lt (order a b)) ys
    sorted [] h k d low high = absurd (omega (arith, high))
    sorted (x ∷ []) h k d low high = absurd (omega (arith, high))
    sorted (x ∷ y ∷ ys) h zero d low high = not_less (order y x) (greater x y (less (order x y) (first (is_lt (order x y)) (rises order (y ∷ ys)) h)))
    sorted (x ∷ y ∷ ys) h (suc k) d low high =
        let same : suc k + 1 ≡ suc (k + 1) = omega arith in
        ap (λ (m : ℕ). is_lt (order (slice_index_or (x ∷ y ∷ ys) m d) (slice_index_or (y ∷ ys) k d))) same
        ∙ sorted (y ∷ ys) (second (is_lt (order x y)) (rises order (y ∷ ys)) h) k d (omega arith) (omega (arith, high))

    -- what a search by halves finds
    pub put_found : (x : X) (ys : List X) (i : ℕ) → IsSearchInRange (Ok i) (length ys) → IsBinarySearchResult (λ y. order y x) ys (Ok i) → rises order ys ≡ true → put order x ys ≡ ys
    put_found x ys i within is up = found_there x ys i within is up

    -- the place that it finds
    pub put_place : (x : X) (ys : List X) (i : ℕ) → IsSearchInRange (Err i) (length ys) → IsBinarySearchResult (λ y. order y x) ys (Err i) → rises order ys ≡ true → put order x ys ≡ insert ys i x
    put_place x ys i within is up =
        let parted = is (searchable_from_sorted total (λ y. y) ys x (sorted ys up)) in
        not_there x ys i within parted.0 parted.1
