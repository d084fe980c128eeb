-- the rows of the pass are the feed
use Rattle.std.proofs.Common.{◌≡◌, ℕ, refl, sym, ◌∙◌, ap, subst, inl, inr, ◌⊎◌, ⊎_elim, Bool, true, false, if◌then◌else◌, IsTrue, List, [], ◌∷◌, map, filter, reverse, Option, Some, None}
use Rattle.std.specs.Ordering.{match_ordering, nat_cmp, ordering_then}
use Rattle.std.specs.declared.cmp.Ordering.{Ordering}
use Rattle.std.specs.declared.cmp.Ordering.TheVariants.{Less, Equal, Greater}
use Rattle.std.specs.BTreeMap.{insert_entry}
use Rattle.std.proofs.lemmas.Bool.{false≢true, or_cases, or_left, or_right}
use Rattle.std.proofs.lemmas.Option.{none-some, same_Some}
use Rattle.std.proofs.lemmas.List.{map-id}
use Rattle.std.proofs.lemmas.Simd.{map-map}
use Rattle.std.proofs.lemmas.List.Sorted.{IsPermutation-reverse, list_any-IsPermutation}
use Rattle.std.proofs.lemmas.Slice.Eq.{bytes_eq-Decides}
use Rattle.std.specs.Str.{bytes_eq}
use Rattle.sg_names.specs.declared.key.Key.{Key}
use Rattle.sg_names.specs.Key.{key_cmp}
use Rattle.sg_history.specs.declared.entries.Entry.{Entry}
use Rattle.sg_history.specs.declared.row.Row.{Row}
use Rattle.sg_history.specs.declared.row.Options.{Options}
use Rattle.sg_history.specs.History.{among, documents}
use Rattle.sg_history.specs.Feed.{feed, keeps, row_of, rows_of}
use Rattle.feed_rows.specs.Laws.{HasRow, IsAskedFor, IsBelow, Precedes, Rising}
use Rattle.feed_rows.specs.Known.{written_names}
use Rattle.feed_rows.specs.inner.Ordered.{put_over, insert_over, insert_asked, asked_rows, under_key}
use Rattle.feed_rows.proofs.Keys.{same_from_tie, not_below_itself, below_trans}
use Rattle.feed_rows.proofs.RowLists.{Has, above_is_below, first_below, ordered_rises}
use Rattle.feed_rows.proofs.AnyFeed.{feed_had, feed_has}
use Rattle.feed_rows.proofs.ShownRows.{feed_facts}
use Rattle.feed_rows.proofs.Names.{any_distinct, same_texts}

-- a map of rows under their keys takes a row as the list does
one_inserted : (o : Ordering) (row first : Row) (others after : List Row) → key_cmp row.key first.key ≡ o → match_ordering o (under_key row ∷ under_key first ∷ map under_key others) (((first.key.by, first.key.seq), row) ∷ map under_key others) (under_key first ∷ map under_key after) ≡ map under_key (put_over o row first others after)
one_inserted Less row first others after h = refl
one_inserted Equal row first others after h =
    ap (λ (k : Key). ((k.by, k.seq), row) ∷ map under_key others) (sym (same_from_tie row.key first.key h))
one_inserted Greater row first others after h = refl

pub inserted : (row : Row) (rows : List Row) → insert_entry (λ x y. ordering_then (nat_cmp x.0 y.0) (nat_cmp x.1 y.1)) (map under_key rows) (row.key.by, row.key.seq) row ≡ map under_key (insert_over row rows)
inserted row [] = refl
inserted row (first ∷ others) =
    ap (λ (es : List ((ℕ × ℕ) × Row)). match_ordering (key_cmp row.key first.key) (under_key row ∷ under_key first ∷ map under_key others) (((first.key.by, first.key.seq), row) ∷ map under_key others) (under_key first ∷ es)) (inserted row others)
    ∙ one_inserted (key_cmp row.key first.key) row first others (insert_over row others) refl

-- the rows under their keys
pub values_under : (rows : List Row) → map (λ (e : (ℕ × ℕ) × Row). e.1) (map under_key rows) ≡ rows
values_under rows = map-map (λ (e : (ℕ × ℕ) × Row). e.1) under_key rows ∙ map-id rows

-- rows that are put in rise
over_precedes : (o : Ordering) (low row first : Row) (others after : List Row) → IsBelow low.key row.key → IsBelow low.key first.key → Precedes low (put_over o row first others after)
over_precedes Less low row first others after h k = h
over_precedes Equal low row first others after h k = h
over_precedes Greater low row first others after h k = k

put_precedes : (low row : Row) (rows : List Row) → IsBelow low.key row.key → Precedes low rows → Precedes low (insert_over row rows)
put_precedes low row [] h k = h
put_precedes low row (first ∷ others) h k = over_precedes (key_cmp row.key first.key) low row first others (insert_over row others) h k

same_precedes : (row first : Row) (others : List Row) → row.key ≡ first.key → Precedes first others → Precedes row others
same_precedes row first [] e p = tt
same_precedes row first (next ∷ others) e p = let P : Key → Type 0 = λ k. IsBelow k next.key in subst P (sym e) p

over_rises : (o : Ordering) (row first : Row) (others after : List Row) → key_cmp row.key first.key ≡ o → Precedes first others → Rising others → (IsBelow first.key row.key → Precedes first after) → Rising after → Rising (put_over o row first others after)
over_rises Less row first others after e p r q s = (e, (p, r))
over_rises Equal row first others after e p r q s = (same_precedes row first others (same_from_tie row.key first.key e) p, r)
over_rises Greater row first others after e p r q s = (q (above_is_below row.key first.key e), s)

put_rises : (row : Row) (rows : List Row) → Rising rows → Rising (insert_over row rows)
put_rises row [] r = (tt, tt)
put_rises row (first ∷ others) r =
    over_rises (key_cmp row.key first.key) row first others (insert_over row others) refl r.0 r.1 (λ b. put_precedes first row others b r.0) (put_rises row others r.1)

asked_rises : (options : Options) (since : Key) (o : Option Row) (rows : List Row) → Rising rows → Rising (insert_asked options since o rows)
asked_rises options since None rows r = r
asked_rises options since (Some row) rows r = go (keeps options since row)
  where
    go : (b : Bool) → Rising (if b then insert_over row rows else rows)
    go true = put_rises row rows r
    go false = r

rows_rise : (options : Options) (since : Key) (rows : List (Option Row)) → Rising (asked_rows options since rows)
rows_rise options since [] = tt
rows_rise options since (k ∷ ks) = asked_rises options since k (asked_rows options since ks) (rows_rise options since ks)

-- what an insertion has, where rows of one key are one
over_had : (o : Ordering) (row first : Row) (others after : List Row) (r : Row) → (HasRow after r → (row ≡ r) ⊎ HasRow others r) → HasRow (put_over o row first others after) r → (row ≡ r) ⊎ ((first ≡ r) ⊎ HasRow others r)
over_had Less row first others after r rest h = h
over_had Equal row first others after r rest (inl same) = inl same
over_had Equal row first others after r rest (inr there) = inr (inr there)
over_had Greater row first others after r rest (inl same) = inr (inl same)
over_had Greater row first others after r rest (inr there) = ⊎_elim (λ e. inl e) (λ t. inr (inr t)) (rest there)

put_had : (row : Row) (rows : List Row) (r : Row) → HasRow (insert_over row rows) r → (row ≡ r) ⊎ HasRow rows r
put_had row [] r h = h
put_had row (first ∷ others) r h = over_had (key_cmp row.key first.key) row first others (insert_over row others) r (put_had row others r) h

over_adds : (o : Ordering) (row first : Row) (others after : List Row) → HasRow after row → HasRow (put_over o row first others after) row
over_adds Less row first others after rest = inl refl
over_adds Equal row first others after rest = inl refl
over_adds Greater row first others after rest = inr rest

put_adds : (row : Row) (rows : List Row) → HasRow (insert_over row rows) row
put_adds row [] = inl refl
put_adds row (first ∷ others) = over_adds (key_cmp row.key first.key) row first others (insert_over row others) (put_adds row others)

over_keeps : (o : Ordering) (row first : Row) (others after : List Row) (r : Row) → (o ≡ Equal → row ≡ first) → (HasRow others r → HasRow after r) → (first ≡ r) ⊎ HasRow others r → HasRow (put_over o row first others after) r
over_keeps Less row first others after r tie rest h = inr h
over_keeps Equal row first others after r tie rest (inl same) = inl (tie refl ∙ same)
over_keeps Equal row first others after r tie rest (inr there) = inr there
over_keeps Greater row first others after r tie rest (inl same) = inl same
over_keeps Greater row first others after r tie rest (inr there) = inr (rest there)

put_keeps : (row : Row) (rows : List Row) (r : Row) → ((s : Row) → HasRow rows s → key_cmp row.key s.key ≡ Equal → row ≡ s) → HasRow rows r → HasRow (insert_over row rows) r
put_keeps row [] r tie h = absurd h
put_keeps row (first ∷ others) r tie h =
    over_keeps (key_cmp row.key first.key) row first others (insert_over row others) r (tie first (inl refl)) (put_keeps row others r (λ s t. tie s (inr t))) h

-- two lists of rising rows that have the same rows are one
rising_same : (xs ys : List Row) → Rising xs → Rising ys → ((r : Row) → HasRow xs r → HasRow ys r) → ((r : Row) → HasRow ys r → HasRow xs r) → xs ≡ ys
rising_same [] [] u v f g = refl
rising_same [] (y ∷ ys) u v f g = absurd (g y (inl refl))
rising_same (x ∷ xs) [] u v f g = absurd (f x (inl refl))
rising_same (x ∷ xs) (y ∷ ys) u v f g =
    let same : x ≡ y = first_same (f x (inl refl)) (g y (inl refl)) in
    ap (λ r. r ∷ xs) same ∙ ap (λ rs. y ∷ rs) (rising_same xs ys u.1 v.1 (λ r h. below_rest x y xs ys u same r (f r (inr h)) h) (λ r h. below_rest y x ys xs v (sym same) r (g r (inr h)) h))
  where
    first_same : HasRow (y ∷ ys) x → HasRow (x ∷ xs) y → x ≡ y
    first_same (inl e) h = sym e
    first_same (inr t) (inl e) = e
    first_same (inr t) (inr s) = absurd (not_below_itself x.key (below_trans x.key y.key x.key (first_below x xs y u.0 u.1 s) (first_below y ys x v.0 v.1 t)))

    below_rest : (a b : Row) (rest bs : List Row) → Rising (a ∷ rest) → a ≡ b → (r : Row) → HasRow (b ∷ bs) r → HasRow rest r → HasRow bs r
    below_rest a b rest bs w e r (inr t) h = t
    below_rest a b rest bs w e r (inl q) h =
        let below = first_below a rest r w.0 w.1 h in
        let P : Row → Type 0 = λ x. IsBelow a.key x.key in
        absurd (not_below_itself a.key (subst P (sym (e ∙ q)) below))

module _ (es : List Entry) (user : List ℕ) (since : Key) (options : Options) where
  had_one : (o : Option Row) (rows : List Row) (r : Row) → HasRow (insert_asked options since o rows) r → ((o ≡ Some r) × IsTrue (keeps options since r)) ⊎ HasRow rows r
  had_one None rows r h = inr h
  had_one (Some row) rows r h = go (keeps options since row) refl h
    where
      go : (b : Bool) → keeps options since row ≡ b → HasRow (if b then insert_over row rows else rows) r → ((Some row ≡ Some r) × IsTrue (keeps options since r)) ⊎ HasRow rows r
      go true e k = ⊎_elim (λ same. inl (ap (λ (x : Row). Some x) same, sym (ap (keeps options since) same) ∙ e)) (λ t. inr t) (put_had row rows r k)
      go false e k = inr k

  had : (docs : List (List ℕ)) (r : Row) → HasRow (asked_rows options since (map (row_of es user options.filter) docs)) r → (doc : List ℕ) × (row_of es user options.filter doc ≡ Some r) × IsTrue (keeps options since r)
  had [] r h = absurd h
  had (d ∷ ds) r h =
      ⊎_elim (λ x. (d, x.0, x.1)) (had ds r) (had_one (row_of es user options.filter d) (asked_rows options since (map (row_of es user options.filter) ds)) r h)

  -- rows of one key are one
  one_row : (a b : List ℕ) (r s : Row) → row_of es user options.filter a ≡ Some r → row_of es user options.filter b ≡ Some s → key_cmp r.key s.key ≡ Equal → r ≡ s
  one_row a b r s h k e =
      let d = (feed_facts user options.filter).apart es a b r s h k (same_from_tie r.key s.key e) in
      same_Some r s (sym h ∙ ap (row_of es user options.filter) d ∙ k)

  has_one : (d : List ℕ) (o : Option Row) (ds : List (List ℕ)) (r : Row) → row_of es user options.filter d ≡ o → HasRow (asked_rows options since (map (row_of es user options.filter) ds)) r → HasRow (insert_asked options since o (asked_rows options since (map (row_of es user options.filter) ds))) r
  has_one d None ds r e h = h
  has_one d (Some row) ds r e h = go (keeps options since row)
    where
      go : (b : Bool) → HasRow (if b then insert_over row (asked_rows options since (map (row_of es user options.filter) ds)) else asked_rows options since (map (row_of es user options.filter) ds)) r
      go true = put_keeps row _ r (λ s t tie. let x = had ds s t in one_row d x.0 row s e x.1 tie) h
      go false = h

  has_first : (o : Option Row) (rows : List Row) (r : Row) → o ≡ Some r → IsTrue (keeps options since r) → HasRow (insert_asked options since o rows) r
  has_first None rows r e k = absurd (none-some _ e)
  has_first (Some row) rows r e k =
      let same : row ≡ r = same_Some row r e in
      go (keeps options since row) (ap (keeps options since) same ∙ k) same
    where
      go : (b : Bool) → b ≡ true → row ≡ r → HasRow (if b then insert_over row rows else rows) r
      go true p q = let P : Row → Type 0 = λ x. HasRow (insert_over row rows) x in subst P q (put_adds row rows)
      go false p q = absurd (false≢true p)

  has : (docs : List (List ℕ)) (doc : List ℕ) (r : Row) → among docs doc ≡ true → row_of es user options.filter doc ≡ Some r → IsTrue (keeps options since r) → HasRow (asked_rows options since (map (row_of es user options.filter) docs)) r
  has [] doc r h e k = absurd (false≢true h)
  has (d ∷ ds) doc r h e k =
      ⊎_elim
      (λ b. has_first (row_of es user options.filter d) _ r (ap (row_of es user options.filter) (same_texts d doc b) ∙ e) k)
      (λ t. has_one d (row_of es user options.filter d) ds r refl (has ds doc r t e k))
      (or_cases (bytes_eq d doc) (among ds doc) h)

  -- of documents among which each is of which a row is asked for
  pub is_feed : (docs : List (List ℕ)) → ((doc : List ℕ) (r : Row) → row_of es user options.filter doc ≡ Some r → IsTrue (keeps options since r) → among docs doc ≡ true) → asked_rows options since (map (row_of es user options.filter) (reverse docs)) ≡ feed es user since options
  is_feed docs all =
      rising_same _ _ (rows_rise options since (map (row_of es user options.filter) (reverse docs))) (ordered_rises (filter (λ row. keeps options since row) (rows_of es user options.filter (documents es))))
      (λ r h. feed_has _ _ (feed_facts user options.filter) es since options r (had (reverse docs) r h))
      (λ r h. let x = feed_had _ _ (feed_facts user options.filter) es since options r h in has (reverse docs) x.0 r (listed x.0 (all x.0 r x.1 x.2)) x.1 x.2)
    where
      listed : (doc : List ℕ) → among docs doc ≡ true → among (reverse docs) doc ≡ true
      listed doc h = sym (list_any-IsPermutation (λ t. bytes_eq t doc) docs (reverse docs) (IsPermutation-reverse docs)) ∙ h

  -- rising rows that are exactly those asked for
  pub only_feed : (rows : List Row) → Rising rows → ((r : Row) → HasRow rows r → IsAskedFor es user since options r) → ((r : Row) → IsAskedFor es user since options r → HasRow rows r) → rows ≡ feed es user since options
  only_feed rows rises had_by has_by =
      rising_same _ _ rises (ordered_rises (filter (λ row. keeps options since row) (rows_of es user options.filter (documents es))))
      (λ r h. feed_has _ _ (feed_facts user options.filter) es since options r (had_by r h))
      (λ r h. has_by r (feed_had _ _ (feed_facts user options.filter) es since options r h))

-- a document with a row was written
has_among : (docs : List (List ℕ)) (doc : List ℕ) → Has docs doc → among docs doc ≡ true
has_among [] doc h = absurd h
has_among (d ∷ ds) doc (inl e) = or_left (bytes_eq d doc) (among ds doc) ((bytes_eq-Decides d doc).1 e)
has_among (d ∷ ds) doc (inr t) = or_right (bytes_eq d doc) (among ds doc) (has_among ds doc t)

pub all_written : (es : List Entry) (user : List ℕ) (filter : Option (List (List ℕ))) (doc : List ℕ) (r : Row) → row_of es user filter doc ≡ Some r → among (written_names es) doc ≡ true
all_written es user filter doc r h =
    any_distinct (λ t. bytes_eq t doc) (documents es) ∙ has_among (documents es) doc ((feed_facts user filter).written es doc r h)

-- a row that is not asked for is not put in
pub not_asked : (options : Options) (since : Key) (row : Row) (before : List Row) → keeps options since row ≡ false → insert_asked options since (Some row) before ≡ before
not_asked options since row before out = ap (λ (b : Bool). if b then insert_over row before else before) out
