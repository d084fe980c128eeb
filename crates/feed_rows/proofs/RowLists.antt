-- lists of rows: what they have, and their order
use Rattle.std.proofs.Common.{◌≡◌, ℕ, refl, sym, ◌∙◌, ap, subst, inl, inr, ◌⊎◌, ⊎_elim, Bool, true, false, cond, List, [], ◌∷◌, take, filter, Option, Some, None, zero, suc}
use Rattle.std.proofs.lemmas.Bool.{false≢true}
use Rattle.std.specs.List.{filter_map, cons_option}
use Rattle.std.specs.declared.cmp.Ordering.{Ordering}
use Rattle.std.specs.declared.cmp.Ordering.TheVariants.{Less, Equal, Greater}
use Rattle.std.specs.Ordering.{ordering_reverse}
use Rattle.sg_names.specs.declared.key.Key.{Key}
use Rattle.sg_names.specs.Key.{key_cmp}
use Rattle.sg_history.specs.declared.row.Row.{Row}
use Rattle.sg_history.specs.Feed.{place_row, insert_row, in_key_order}
use Rattle.sg_history.specs.Device.{last_key}
use Rattle.feed_rows.specs.Laws.{HasRow, IsBelow, Precedes, Rising}
use Rattle.feed_rows.proofs.Keys.{key_total, below_trans}

-- a list has this
abbrev pub Has : {X : Type 0} → List X → X → Type 0
Has [] x = ⊥
Has (y ∷ ys) x = (y ≡ x) ⊎ Has ys x

-- rows of one key are one row
abbrev pub Apart : List Row → Type 0
Apart rows = (a b : Row) → HasRow rows a → HasRow rows b → key_cmp a.key b.key ≡ Equal → a ≡ b

-- what `filter` keeps
one_has : (p : Row → Bool) (x : Row) (xs kept : List Row) (r : Row) (b : Bool) → p x ≡ b → p r ≡ true → (HasRow xs r → HasRow kept r) → (x ≡ r) ⊎ HasRow xs r → HasRow (cond b (x ∷ kept) kept) r
one_has p x xs kept r true f e rest (inl same) = inl same
one_has p x xs kept r true f e rest (inr there) = inr (rest there)
one_has p x xs kept r false f e rest (inl same) = absurd (false≢true (sym f ∙ ap p same ∙ e))
one_has p x xs kept r false f e rest (inr there) = rest there

pub filter_has : (p : Row → Bool) (rows : List Row) (r : Row) → HasRow rows r → p r ≡ true → HasRow (filter p rows) r
filter_has p [] r h e = h
filter_has p (x ∷ xs) r h e = one_has p x xs (filter p xs) r (p x) refl e (λ there. filter_has p xs r there e) h

one_had : (p : Row → Bool) (x : Row) (xs kept : List Row) (r : Row) (b : Bool) → p x ≡ b → (HasRow kept r → HasRow xs r × (p r ≡ true)) → HasRow (cond b (x ∷ kept) kept) r → ((x ≡ r) ⊎ HasRow xs r) × (p r ≡ true)
one_had p x xs kept r true f rest (inl same) = (inl same, ap p (sym same) ∙ f)
one_had p x xs kept r true f rest (inr there) = (inr (rest there).0, (rest there).1)
one_had p x xs kept r false f rest there = (inr (rest there).0, (rest there).1)

pub filter_had : (p : Row → Bool) (rows : List Row) (r : Row) → HasRow (filter p rows) r → HasRow rows r × (p r ≡ true)
filter_had p [] r h = absurd h
filter_had p (x ∷ xs) r h = one_had p x xs (filter p xs) r (p x) refl (filter_had p xs r) h

-- what `filter_map` gives
each_has : (f : List ℕ → Option Row) (d : List ℕ) (ds : List (List ℕ)) (given : List Row) (doc : List ℕ) (r : Row) (o : Option Row) → f d ≡ o → f doc ≡ Some r → (Has ds doc → HasRow given r) → (d ≡ doc) ⊎ Has ds doc → HasRow (cons_option o given) r
each_has f d ds given doc r None g e rest (inl same) = absurd (let h = ap f same in cc)
each_has f d ds given doc r None g e rest (inr there) = rest there
each_has f d ds given doc r (Some s) g e rest (inl same) = inl (let h = ap f same in cc)
each_has f d ds given doc r (Some s) g e rest (inr there) = inr (rest there)

pub filter_map_has : (f : List ℕ → Option Row) (docs : List (List ℕ)) (doc : List ℕ) (r : Row) → Has docs doc → f doc ≡ Some r → HasRow (filter_map f docs) r
filter_map_has f [] doc r h e = absurd h
filter_map_has f (d ∷ ds) doc r h e = each_has f d ds (filter_map f ds) doc r (f d) refl e (λ there. filter_map_has f ds doc r there e) h

each_had : (f : List ℕ → Option Row) (d : List ℕ) (given : List Row) (r : Row) (o : Option Row) → f d ≡ o → (HasRow given r → (doc : List ℕ) × (f doc ≡ Some r)) → HasRow (cons_option o given) r → (doc : List ℕ) × (f doc ≡ Some r)
each_had f d given r None g rest there = rest there
each_had f d given r (Some s) g rest (inl same) = (d, g ∙ ap (λ (y : Row). Some y) same)
each_had f d given r (Some s) g rest (inr there) = rest there

pub filter_map_had : (f : List ℕ → Option Row) (docs : List (List ℕ)) (r : Row) → HasRow (filter_map f docs) r → (doc : List ℕ) × (f doc ≡ Some r)
filter_map_had f [] r h = absurd h
filter_map_had f (d ∷ ds) r h = each_had f d (filter_map f ds) r (f d) refl (filter_map_had f ds r) h

-- what an insertion keeps and adds
place_had : (o : Ordering) (row first : Row) (others after : List Row) (r : Row) → (HasRow after r → (row ≡ r) ⊎ HasRow others r) → HasRow (place_row o row first others after) r → (row ≡ r) ⊎ ((first ≡ r) ⊎ HasRow others r)
place_had Less row first others after r rest h = h
place_had Equal row first others after r rest h = inr h
place_had Greater row first others after r rest (inl same) = inr (inl same)
place_had Greater row first others after r rest (inr there) = ⊎_elim (λ e. inl e) (λ t. inr (inr t)) (rest there)

pub insert_had : (row : Row) (rows : List Row) (r : Row) → HasRow (insert_row row rows) r → (row ≡ r) ⊎ HasRow rows r
insert_had row [] r h = h
insert_had row (first ∷ others) r h = place_had (key_cmp row.key first.key) row first others (insert_row row others) r (insert_had row others r) h

place_keeps : (o : Ordering) (row first : Row) (others after : List Row) (r : Row) → (HasRow others r → HasRow after r) → (first ≡ r) ⊎ HasRow others r → HasRow (place_row o row first others after) r
place_keeps Less row first others after r rest h = inr h
place_keeps Equal row first others after r rest h = h
place_keeps Greater row first others after r rest (inl same) = inl same
place_keeps Greater row first others after r rest (inr there) = inr (rest there)

pub insert_keeps : (row : Row) (rows : List Row) (r : Row) → HasRow rows r → HasRow (insert_row row rows) r
insert_keeps row [] r h = absurd h
insert_keeps row (first ∷ others) r h = place_keeps (key_cmp row.key first.key) row first others (insert_row row others) r (insert_keeps row others r) h

place_adds : (o : Ordering) (row first : Row) (others after : List Row) → key_cmp row.key first.key ≡ o → (key_cmp row.key first.key ≡ Equal → row ≡ first) → HasRow after row → HasRow (place_row o row first others after) row
place_adds Less row first others after e same rest = inl refl
place_adds Equal row first others after e same rest = inl (sym (same e))
place_adds Greater row first others after e same rest = inr rest

pub insert_adds : (row : Row) (rows : List Row) → ((r : Row) → HasRow rows r → key_cmp row.key r.key ≡ Equal → row ≡ r) → HasRow (insert_row row rows) row
insert_adds row [] same = inl refl
insert_adds row (first ∷ others) same =
    place_adds (key_cmp row.key first.key) row first others (insert_row row others) refl (same first (inl refl)) (insert_adds row others (λ r h. same r (inr h)))

pub ordered_had : (rows : List Row) (r : Row) → HasRow (in_key_order rows) r → HasRow rows r
ordered_had [] r h = h
ordered_had (x ∷ xs) r h = ⊎_elim (λ e. inl e) (λ t. inr (ordered_had xs r t)) (insert_had x (in_key_order xs) r h)

pub ordered_has : (rows : List Row) (r : Row) → Apart rows → HasRow rows r → HasRow (in_key_order rows) r
ordered_has [] r apart h = h
ordered_has (x ∷ xs) r apart (inl same) =
    let P : Row → Type 0 = λ y. HasRow (in_key_order (x ∷ xs)) y in
    subst P same (insert_adds x (in_key_order xs) (λ s h e. apart x s (inl refl) (inr (ordered_had xs s h)) e))
ordered_has (x ∷ xs) r apart (inr there) =
    insert_keeps x (in_key_order xs) r (ordered_has xs r (λ a b h k e. apart a b (inr h) (inr k) e) there)

-- rows in order rise
place_precedes : (o : Ordering) (low row first : Row) (others after : List Row) → IsBelow low.key row.key → IsBelow low.key first.key → Precedes low (place_row o row first others after)
place_precedes Less low row first others after h k = h
place_precedes Equal low row first others after h k = k
place_precedes Greater low row first others after h k = k

insert_precedes : (low row : Row) (rows : List Row) → IsBelow low.key row.key → Precedes low rows → Precedes low (insert_row row rows)
insert_precedes low row [] h k = h
insert_precedes low row (first ∷ others) h k = place_precedes (key_cmp row.key first.key) low row first others (insert_row row others) h k

pub above_is_below : (a b : Key) → key_cmp a b ≡ Greater → IsBelow b a
above_is_below a b h = key_total.antisymm b a ∙ ap ordering_reverse h

place_rises : (o : Ordering) (row first : Row) (others after : List Row) → key_cmp row.key first.key ≡ o → Precedes first others → Rising others → (IsBelow first.key row.key → Precedes first after) → Rising after → Rising (place_row o row first others after)
place_rises Less row first others after e p r q s = (e, (p, r))
place_rises Equal row first others after e p r q s = (p, r)
place_rises Greater row first others after e p r q s = (q (above_is_below row.key first.key e), s)

insert_rises : (row : Row) (rows : List Row) → Rising rows → Rising (insert_row row rows)
insert_rises row [] r = (tt, tt)
insert_rises row (first ∷ others) r =
    place_rises (key_cmp row.key first.key) row first others (insert_row row others) refl r.0 r.1 (λ b. insert_precedes first row others b r.0) (insert_rises row others r.1)

pub ordered_rises : (rows : List Row) → Rising (in_key_order rows)
ordered_rises [] = tt
ordered_rises (x ∷ xs) = insert_rises x (in_key_order xs) (ordered_rises xs)

-- the first of rising keys is below the others
pub first_below : (first : Row) (rows : List Row) (r : Row) → Precedes first rows → Rising rows → HasRow rows r → IsBelow first.key r.key
first_below first [] r p s h = absurd h
first_below first (x ∷ xs) r p s (inl same) = let P : Row → Type 0 = λ y. IsBelow first.key y.key in subst P same p
first_below first (x ∷ xs) r p s (inr there) = below_trans first.key x.key r.key p (first_below x xs r s.0 s.1 there)

-- a row of rising ones is among the first few, or above the last of these
pub taken_or_above : (n : ℕ) (rows : List Row) (since : Key) (r : Row) → Rising rows → ((s : Row) → HasRow rows s → IsBelow since s.key) → HasRow rows r → HasRow (take n rows) r ⊎ IsBelow (last_key since (take n rows)) r.key
taken_or_above n [] since r s above h = absurd h
taken_or_above zero (x ∷ xs) since r s above h = inr (above r h)
taken_or_above (suc n) (x ∷ xs) since r s above (inl same) = inl (inl same)
taken_or_above (suc n) (x ∷ xs) since r s above (inr there) =
    ⊎_elim (λ t. inl (inr t)) (λ b. inr b) (taken_or_above n xs x.key r s.1 (λ y h. first_below x xs y s.0 s.1 h) there)

pub taken_had : (n : ℕ) (rows : List Row) (r : Row) → HasRow (take n rows) r → HasRow rows r
taken_had zero rows r h = absurd h
taken_had (suc n) [] r h = absurd h
taken_had (suc n) (x ∷ xs) r (inl same) = inl same
taken_had (suc n) (x ∷ xs) r (inr there) = inr (taken_had n xs r there)

-- the last key is the old one, where there are no rows, or that of one of the rows
pub last_key_of : (since : Key) (rows : List Row) → ((rows ≡ []) × (last_key since rows ≡ since)) ⊎ ((r : Row) × HasRow rows r × (last_key since rows ≡ r.key))
last_key_of since [] = inl (refl, refl)
last_key_of since (x ∷ xs) =
    inr (elim (last_key_of x.key xs) [ inl e ↦ (x, inl refl, e.1) | inr h ↦ (h.0, inr h.1, h.2) ])

pub no_rows : (rows : List Row) → ((r : Row) → HasRow rows r → ⊥) → rows ≡ []
no_rows [] h = refl
no_rows (x ∷ xs) h = absurd (h x (inl refl))
