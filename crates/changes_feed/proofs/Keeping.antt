-- what a segment knows amid an entry
use Rattle.std.proofs.Common.{◌≡◌, ◌≢◌, ◌⊎◌, inl, inr, ◌<◌, ◌≤◌, ◌+◌, ◌-◌, ℕ, zero, suc, refl, sym, ◌∙◌, ap, subst, arith, Bool, true, false, ◌||◌, if◌then◌else◌, List, [], ◌∷◌, ◌++◌, length, map, Option, Some, None, nat_eq}
use Rattle.std.proofs.Math.Path.{fun_ext}
use Rattle.std.specs.Prelude.{slice_get, slice_set}
use Rattle.std.specs.Borrow.{Bor}
use Rattle.std.specs.BTreeMap.{BTreeMap, get}
use Rattle.std.specs.Ordering.{nat_cmp}
use Rattle.std.specs.Str.{bytes_eq}
use Rattle.std.specs.Cmp.Lexicographic.{bytes_decides}
use Rattle.std.proofs.lemmas.Bool.{cases_lt, false≢true, true≢false}
use Rattle.std.proofs.lemmas.Option.{none-some, same_Some}
use Rattle.sg_history.specs.declared.entries.Entry.{Entry}
use Rattle.sg_history.specs.Current.{current}
use Rattle.sg_history.specs.History.{among, past}
use Rattle.log_index.specs.declared.documents.Document as places
use Rattle.log_index.specs.Places.{document_at, first_seq}
use Rattle.log_index.proofs.Firsts.{first_at, first_of, somewhere}
use Rattle.channel_cache.proofs.Changing.{mapped_append}
use Rattle.feed_rows.specs.declared.document.Document.{Document}
use Rattle.feed_rows.specs.declared.document.Latest.{Latest}
use Rattle.feed_rows.specs.declared.shown.Viewer.{Viewer}
use Rattle.feed_rows.specs.Known.{Known, from_on, known_from, known_in, renews, row_before, since_renewed, there}
use Rattle.feed_rows.specs.KnownDocuments.{names_in}
use Rattle.feed_rows.specs.Latest.{current_in, since_in, winner_in}
use Rattle.feed_rows.specs.PassAt.{IsRenewed, IsViewer}
use Rattle.changes_feed.specs.declared.segment.Segment.{Segment}
use Rattle.changes_feed.specs.inner.Amid.{HasMore, PartAt, Renews, known_amid, with_one}
use Rattle.changes_feed.specs.inner.Segment.{ArePlaced, SegmentAt, renewed_last}
use Rattle.changes_feed.proofs.Placing.{is_among, last_there, left_there, not_placed, one_place, placed_is, placed_more, placed_one, set_one, stands_among}
use Rattle.changes_feed.proofs.Viewing.{IsNext, next, renewed_before}

-- what the laws say of a document that is not renewed
abbrev pub Same : Type 0
Same = (from : ℕ) (e : Entry) (es : List Entry) (user : List ℕ) (filter : Option (List (List ℕ))) (doc : List ℕ) → renews e es doc ≡ false → known_from from (e ∷ es) user filter doc ≡ known_from from es user filter doc

abbrev pub Early : Type 0
Early = (from : ℕ) (es : List Entry) (user : List ℕ) (filter : Option (List (List ℕ))) (doc : List ℕ) → length (since_renewed es doc) < from → from_on from (row_before es user filter doc) ≡ None

-- ---- lists of names

pub more_among : (names : List (List ℕ)) (x doc : List ℕ) → among names doc ≡ true → among (names ++ x ∷ []) doc ≡ true
more_among names x doc is =
    let one = stands_among names doc is in
    is_among (names ++ x ∷ []) doc one.0 (left_there names x doc one.0 one.1)

-- the names of what is known of documents
names_known : (documents : List Document) → map (λ (k : Known). k.name) (map known_in documents) ≡ names_in documents
names_known [] = refl
names_known (d ∷ documents) = ap (λ (l : List (List ℕ)). d.name.now ∷ l) (names_known documents)

own_names : (f : List ℕ → Known) → ((n : List ℕ) → (f n).name ≡ n) → (names : List (List ℕ)) → map (λ (k : Known). k.name) (map f names) ≡ names
own_names f own [] = refl
own_names f own (n ∷ names) = ap (λ (x : List ℕ). x ∷ map (λ (k : Known). k.name) (map f names)) (own n) ∙ ap (λ (l : List (List ℕ)). n ∷ l) (own_names f own names)

known_there : (f : List ℕ → Known) (names : List (List ℕ)) (p : ℕ) (doc : List ℕ) → slice_get names p ≡ Some doc → there p (map f names) ≡ f doc
known_there f [] p doc is = absurd (none-some doc is)
known_there f (n ∷ names) zero doc is = ap f (same_Some n doc is)
known_there f (n ∷ names) (suc p) doc is = known_there f names p doc is

-- what stands among names stands within the documents
pub within_names : (documents : List Document) (p : ℕ) (doc : List ℕ) → slice_get (names_in documents) p ≡ Some doc → p < length documents
within_names [] p doc is = absurd (none-some doc is)
within_names (d ∷ documents) zero doc is = omega arith
within_names (d ∷ documents) (suc p) doc is = omega (arith, within_names documents p doc is)

-- nothing is known before the first entry
pub empty_known : (viewer : Viewer) (start : ℕ) (entries : List Entry) → 0 < start → (segment : Segment) → segment.documents.items ≡ [] → ((seq : ℕ) → get nat_cmp segment.places seq ≡ None) → SegmentAt viewer start entries (start - 1) segment
empty_known viewer start entries pos segment none free = record {
  known = ap (map known_in) none ∙ sym (ap (λ (l : List Document). map (known_from start (past entries (start - 1)) viewer.user.now viewer.filter.now) (names_in l)) none);
  placed = record {
    there = λ p name at. absurd (none-some name (sym (ap (λ (l : List Document). slice_get (names_in l) p) none) ∙ at));
    only = λ seq p at. absurd (none-some p (sym (free seq) ∙ at));
  };
  all = λ doc j low high renewed. absurd (omega (arith, low, high, pos));
}

-- ---- a document that is added

-- the documents of a segment with one more, which stands behind the others
module _ (entries : List Entry) (at : ℕ) (old new : Segment) (document : Document) (doc : List ℕ) (named : document.name.now ≡ doc)
    (documents : new.documents.items ≡ old.documents.items ++ document ∷ []) where
  pub added_names : names_in new.documents.items ≡ names_in old.documents.items ++ doc ∷ []
  added_names =
      ap names_in documents
      ∙ mapped_append (λ (d : Document). d.name.now) old.documents.items (document ∷ [])
      ∙ ap (λ (n : List ℕ). names_in old.documents.items ++ n ∷ []) named

  pub added_known : (f : List ℕ → Known) → map known_in old.documents.items ≡ map f (names_in old.documents.items) → known_in document ≡ f doc
      → map known_in new.documents.items ≡ map f (names_in new.documents.items)
  added_known f known own =
      ap (map known_in) documents
      ∙ mapped_append known_in old.documents.items (document ∷ [])
      ∙ ap (λ (l : List Known). l ++ known_in document ∷ []) known
      ∙ ap (λ (k : Known). map f (names_in old.documents.items) ++ k ∷ []) own
      ∙ sym (mapped_append f (names_in old.documents.items) (doc ∷ []))
      ∙ ap (map f) (sym added_names)

  pub added_more : HasMore (names_in old.documents.items) (names_in new.documents.items)
  added_more name is = ap (λ (l : List (List ℕ)). among l name) added_names ∙ more_among (names_in old.documents.items) doc name is

  pub added_there : (place : ℕ) → place ≡ length old.documents.items → slice_get (names_in new.documents.items) place ≡ Some doc
  added_there place is =
      ap (slice_get (names_in new.documents.items)) (is ∙ count old.documents.items)
      ∙ ap (λ (l : List (List ℕ)). slice_get l (length (names_in old.documents.items))) added_names
      ∙ last_there (names_in old.documents.items) doc
    where
      count : (l : List Document) → length l ≡ length (names_in l)
      count [] = refl
      count (d ∷ l) = ap suc (count l)

  pub added_placed : (es : List Entry) (first : ℕ) → ArePlaced es (names_in old.documents.items) old.places → first ≡ first_seq es doc → 0 < first → get nat_cmp old.places first ≡ None
      → ((seq : ℕ) → get nat_cmp new.places seq ≡ (if nat_eq first seq then Some (length old.documents.items) else get nat_cmp old.places seq))
      → ArePlaced es (names_in new.documents.items) new.places
  added_placed es first are own pos free put =
      subst (λ (l : List (List ℕ)). ArePlaced es l new.places) (sym added_names)
      (placed_one es (names_in old.documents.items) old.places new.places doc first are own pos free
      (λ seq. put seq ∙ ap (λ (n : ℕ). if nat_eq first seq then Some n else get nat_cmp old.places seq) (count old.documents.items)))
    where
      count : (l : List Document) → length l ≡ length (names_in l)
      count [] = refl
      count (d ∷ l) = ap suc (count l)

-- a document that was not renewed from a place on, as it is
pub known_new : Early → (start : ℕ) (es : List Entry) (user : List ℕ) (filter : Option (List (List ℕ))) (doc : List ℕ) (name : Bor (List ℕ)) (latest : Option Latest) → name.now ≡ doc → current_in latest ≡ current es doc
    → since_in latest ≡ length (since_renewed es doc) → length (since_renewed es doc) < start → known_in (record { name = name; latest = latest; change = None }) ≡ known_from start es user filter doc
known_new early start es user filter doc name latest named now since low =
    let none : None ≡ from_on start (row_before es user filter doc) = sym (early start es user filter doc low) in
    λ i. record { name = named i; current = now i; since = since i; row = none i }

-- where a document stands that has a place in a log
pub first_is : (es : List Entry) (doc : List ℕ) (d : places.Document) → Some d ≡ document_at es doc → d.first ≡ first_seq es doc
first_is es doc d is = ap first_of is ∙ first_at es doc

pub first_low : (es : List Entry) (doc : List ℕ) (d : places.Document) → Some d ≡ document_at es doc → 0 < d.first
first_low es doc d is = omega (arith, first_is es doc d is, somewhere es doc d (sym is))

-- ---- amid an entry

module _ (viewer : Viewer) (start : ℕ) (entries : List Entry) (at : ℕ) (pos : 0 < at) (high : at ≤ length entries) where
  abbrev one : IsNext entries at
  one = next entries at pos high

  -- nothing is taken yet
  pub begun : (segment : Segment) → SegmentAt viewer start entries (at - 1) segment → PartAt viewer start entries at (λ name. false) segment
  begun segment is = record {
    known = is.known;
    placed = subst (λ (es : List Entry). ArePlaced es (names_in segment.documents.items) segment.places) (sym one.all) (placed_more one.entry (past entries (at - 1)) (names_in segment.documents.items) segment.places is.placed);
    all = λ doc j low below renewed. is.all doc j low (omega (arith, below)) renewed;
    taken = λ doc never. absurd (false≢true never);
  }

  -- all that is renewed is taken
  pub ended : Same → (done : List ℕ → Bool) (segment : Segment) → PartAt viewer start entries at done segment → ((name : List ℕ) → done name ≡ false → renewed_last (past entries at) name ≡ false) → SegmentAt viewer start entries at segment
  ended same done segment is rest = record {
    known = is.known ∙ ap (λ (f : List ℕ → Known). map f (names_in segment.documents.items)) (fun_ext (λ name. each name (done name) refl));
    placed = is.placed;
    all = λ doc j low le renewed. by doc j low renewed (cases_lt j at) le;
  }
    where
      each : (name : List ℕ) (b : Bool) → done name ≡ b → known_amid done start entries at viewer name ≡ known_from start (past entries at) viewer.user.now viewer.filter.now name
      each name true h = ap (λ (b : Bool). if b then known_from start (past entries at) viewer.user.now viewer.filter.now name else known_from start (past entries (at - 1)) viewer.user.now viewer.filter.now name) h
      each name false h =
          ap (λ (b : Bool). if b then known_from start (past entries at) viewer.user.now viewer.filter.now name else known_from start (past entries (at - 1)) viewer.user.now viewer.filter.now name) h
          ∙ sym (same start one.entry (past entries (at - 1)) viewer.user.now viewer.filter.now name (ap (λ (es : List Entry). renewed_last es name) (sym one.all) ∙ rest name h))
          ∙ ap (λ (es : List Entry). known_from start es viewer.user.now viewer.filter.now name) (sym one.all)

      here : (doc : List ℕ) (b : Bool) → done doc ≡ b → renewed_last (past entries at) doc ≡ true → among (names_in segment.documents.items) doc ≡ true
      here doc true h renewed = is.taken doc h
      here doc false h renewed = absurd (true≢false (sym renewed ∙ rest doc h))

      by : (doc : List ℕ) (j : ℕ) → start ≤ j → renewed_last (past entries j) doc ≡ true → (j < at) ⊎ (at ≤ j) → j ≤ at → among (names_in segment.documents.items) doc ≡ true
      by doc j low renewed (inl below) le = is.all doc j low below renewed
      by doc j low renewed (inr above) le =
          let same : j ≡ at = omega (arith, above, le) in
          here doc (done doc) refl (ap (λ (n : ℕ). renewed_last (past entries n) doc) (sym same) ∙ renewed)

  -- the same by another test that gives the same
  pub part_same : (done next : List ℕ → Bool) (segment : Segment) → ((name : List ℕ) → done name ≡ next name) → PartAt viewer start entries at done segment → PartAt viewer start entries at next segment
  part_same done next segment same is = subst (λ (d : List ℕ → Bool). PartAt viewer start entries at d segment) (fun_ext same) is

  module _ (done : List ℕ → Bool) (doc : List ℕ) (free : done doc ≡ false) where
    as_before : known_amid done start entries at viewer doc ≡ known_from start (past entries (at - 1)) viewer.user.now viewer.filter.now doc
    as_before = ap (λ (b : Bool). if b then known_from start (past entries at) viewer.user.now viewer.filter.now doc else known_from start (past entries (at - 1)) viewer.user.now viewer.filter.now doc) free

    -- a document that is there
    pub found : (before : Option places.Document) (after : places.Document) (segment : Segment) (place : ℕ) → Renews entries at doc before after → PartAt viewer start entries at done segment → get nat_cmp segment.places after.first ≡ Some place
        → slice_get (names_in segment.documents.items) place ≡ Some doc
    found before after segment place renews is at_place =
        placed_is (past entries at) (names_in segment.documents.items) segment.places doc place is.placed
        (ap (get nat_cmp segment.places) (sym (first_is (past entries at) doc after renews.stands)) ∙ at_place)

    -- a document that is new
    pub added : Early → 0 < start → (before : Option places.Document) (after : places.Document) (old new : Segment) (name : Bor (List ℕ)) (latest : Option Latest) → Renews entries at doc before after → name.now ≡ doc
        → current_in latest ≡ current (past entries (at - 1)) doc → since_in latest ≡ length (since_renewed (past entries (at - 1)) doc)
        → get nat_cmp old.places after.first ≡ None → new.documents.items ≡ old.documents.items ++ record { name = name; latest = latest; change = None } ∷ []
        → ((seq : ℕ) → get nat_cmp new.places seq ≡ (if nat_eq after.first seq then Some (length old.documents.items) else get nat_cmp old.places seq))
        → PartAt viewer start entries at done old → PartAt viewer start entries at done new
    added early low before after old new name latest renews named now since none documents put is =
        let document : Document = record { name = name; latest = latest; change = None } in
        let first : after.first ≡ first_seq (past entries at) doc = first_is (past entries at) doc after renews.stands in
        let not_there : among (names_in old.documents.items) doc ≡ false = not_placed (past entries at) (names_in old.documents.items) old.places doc is.placed (ap (get nat_cmp old.places) (sym first) ∙ none) in
        let earlier : length (since_renewed (past entries (at - 1)) doc) < start =
        renewed_before entries doc start (at - 1) low (omega (arith, high)) (λ j from upto. never old is not_there j from (omega (arith, pos, upto)) (renewed_last (past entries j) doc) refl) in
        let more : HasMore (names_in old.documents.items) (names_in new.documents.items) = added_more entries at old new document doc named documents in
        record {
          known = added_known entries at old new document doc named documents (known_amid done start entries at viewer) is.known
              (known_new early start (past entries (at - 1)) viewer.user.now viewer.filter.now doc name latest named now since earlier ∙ sym as_before);
          placed = added_placed entries at old new document doc named documents (past entries at) after.first is.placed first (first_low (past entries at) doc after renews.stands) none put;
          all = λ other j from below renewed. more other (is.all other j from below renewed);
          taken = λ other h. more other (is.taken other h);
        }
      where
        never : (segment : Segment) → PartAt viewer start entries at done segment → among (names_in segment.documents.items) doc ≡ false → (j : ℕ) → start ≤ j → j < at → (b : Bool) → renewed_last (past entries j) doc ≡ b → b ≡ false
        never segment is none j from below false h = refl
        never segment is none j from below true h = absurd (false≢true (sym none ∙ is.all doc j from below h))

    -- a document that is brought up
    module _ (old : Segment) (documents : List Document) (place : ℕ) (is : PartAt viewer start entries at done old) (here : slice_get (names_in old.documents.items) place ≡ Some doc) where
      pub there_before : there place (map known_in old.documents.items) ≡ known_from start (past entries (at - 1)) viewer.user.now viewer.filter.now doc
      there_before = ap (there place) is.known ∙ known_there (known_amid done start entries at viewer) (names_in old.documents.items) place doc here ∙ as_before

      module _ (brought : map known_in documents ≡ slice_set (map known_in old.documents.items) place (known_from start (past entries at) viewer.user.now viewer.filter.now doc)) where
        abbrev names : List (List ℕ)
        names = names_in old.documents.items

        abbrev before : List ℕ → Known
        before = known_amid done start entries at viewer

        abbrev after : List ℕ → Known
        after = known_amid (with_one doc done) start entries at viewer

        itself : bytes_eq doc doc ≡ true
        itself = (bytes_decides doc doc).1 refl

        or_right : (a b : Bool) → b ≡ true → (a || b) ≡ true
        or_right true b h = refl
        or_right false b h = h

        or_none : (a b : Bool) → b ≡ false → a ≡ (a || b)
        or_none true b h = refl
        or_none false b h = sym h

        own : after doc ≡ known_from start (past entries at) viewer.user.now viewer.filter.now doc
        own =
            ap (λ (b : Bool). if b then known_from start (past entries at) viewer.user.now viewer.filter.now doc else known_from start (past entries (at - 1)) viewer.user.now viewer.filter.now doc)
            (or_right (done doc) (bytes_eq doc doc) itself)

        apart : (q : ℕ) (n : List ℕ) → slice_get names q ≡ Some n → q ≢ place → (b : Bool) → bytes_eq n doc ≡ b → b ≡ false
        apart q n at_q not false h = refl
        apart q n at_q not true h =
            absurd (not (one_place (past entries at) names old.places is.placed q place doc (at_q ∙ ap (λ (x : List ℕ). Some x) ((bytes_decides n doc).0 h)) here))

        others : (q : ℕ) (n : List ℕ) → slice_get names q ≡ Some n → q ≢ place → before n ≡ after n
        others q n at_q not =
            ap (λ (b : Bool). if b then known_from start (past entries at) viewer.user.now viewer.filter.now n else known_from start (past entries (at - 1)) viewer.user.now viewer.filter.now n)
            (or_none (done n) (bytes_eq n doc) (apart q n at_q not (bytes_eq n doc) refl))

        all_known : map known_in documents ≡ map after names
        all_known =
            brought
            ∙ ap (λ (l : List Known). slice_set l place (known_from start (past entries at) viewer.user.now viewer.filter.now doc)) is.known
            ∙ ap (slice_set (map before names) place) (sym own)
            ∙ set_one before after names place doc here others

        named : (n : List ℕ) → (after n).name ≡ n
        named n = by (with_one doc done n)
          where
            by : (b : Bool) → (if b then known_from start (past entries at) viewer.user.now viewer.filter.now n else known_from start (past entries (at - 1)) viewer.user.now viewer.filter.now n).name ≡ n
            by true = refl
            by false = refl

        same_names : names ≡ names_in documents
        same_names = sym (own_names after named names) ∙ ap (map (λ (k : Known). k.name)) (sym all_known) ∙ names_known documents

        pub brought_up : (new : Segment) → new.documents.items ≡ documents → new.places ≡ old.places → PartAt viewer start entries at (with_one doc done) new
        brought_up new items are =
            let same : names ≡ names_in new.documents.items = same_names ∙ ap names_in (sym items) in
            record {
              known = ap (map known_in) items ∙ all_known ∙ ap (map after) same;
              placed = subst (λ (l : List (List ℕ)). ArePlaced (past entries at) l new.places) same (subst (λ (m : BTreeMap ℕ ℕ). ArePlaced (past entries at) names m) (sym are) is.placed);
              all = λ other j from below renewed. ap (λ (l : List (List ℕ)). among l other) (sym same) ∙ is.all other j from below renewed;
              taken = λ other h. ap (λ (l : List (List ℕ)). among l other) (sym same) ∙ one_taken other (done other) refl (bytes_eq other doc) refl h;
            }
          where
            one_taken : (other : List ℕ) (a : Bool) → done other ≡ a → (b : Bool) → bytes_eq other doc ≡ b → (done other || bytes_eq other doc) ≡ true → among names other ≡ true
            one_taken other true da b db h = is.taken other da
            one_taken other false da true db h = ap (among names) ((bytes_decides other doc).0 db) ∙ is_among names doc place here
            one_taken other false da false db h = absurd (false≢true (sym (ap (λ (x : Bool). x || bytes_eq other doc) da ∙ db) ∙ h))

    -- what the entry makes of it
    pub is_renewed : IsViewer viewer (past entries at) → (before : Option places.Document) (after : places.Document) (latest : Latest) → Renews entries at doc before after → Some (winner_in latest) ≡ current (past entries at) doc
        → latest.since ≡ length (since_renewed (past entries at) doc) → IsRenewed viewer one.entry (past entries (at - 1)) doc latest
    is_renewed viewer_is before after latest renews state since =
        let own : renewed_last (one.entry ∷ past entries (at - 1)) doc ≡ true = ap (λ (es : List Entry). renewed_last es doc) (sym one.all) ∙ renews.renewed in
        record {
          is_viewer = subst (λ (es : List Entry). IsViewer viewer es) one.all viewer_is;
          renewed = own;
          since = since ∙ ap (λ (es : List Entry). length (since_renewed es doc)) one.all ∙ ap (λ (b : Bool). length (if b then one.entry ∷ past entries (at - 1) else since_renewed (past entries (at - 1)) doc)) own ∙ whole;
          state = state ∙ ap (λ (es : List Entry). current es doc) one.all;
        }
      where
        whole : length (one.entry ∷ past entries (at - 1)) ≡ length (past entries (at - 1)) + 1
        whole = omega arith

    pub since_at : IsViewer viewer (past entries at) → (before : Option places.Document) (after : places.Document) (latest : Latest) → Renews entries at doc before after → Some (winner_in latest) ≡ current (past entries at) doc
        → latest.since ≡ length (since_renewed (past entries at) doc) → latest.since ≡ at
    since_at viewer_is before after latest renews state since =
        let r = is_renewed viewer_is before after latest renews state since in
        omega (arith, r.since, one.count, pos)
