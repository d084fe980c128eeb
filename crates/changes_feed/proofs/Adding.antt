-- documents that no entry of a segment renews
use Rattle.std.proofs.Common.{◌≡◌, ◌<◌, ◌≤◌, ◌+◌, ◌-◌, ℕ, zero, suc, refl, sym, ◌∙◌, ap, arith, Bool, true, false, ◌&&◌, ◌||◌, if◌then◌else◌, List, [], ◌∷◌, ◌++◌, length, take, get_or, Option, Some, None, nat_eq}
use Rattle.std.specs.Borrow.{Bor}
use Rattle.std.specs.BTreeMap.{get}
use Rattle.std.specs.Ordering.{nat_cmp}
use Rattle.std.proofs.lemmas.Bool.{eq-eqb, eqb-true, false≢true}
use Rattle.std.proofs.lemmas.Option.{none-some, same_Some}
use Rattle.sg_history.specs.declared.entries.Entry.{Entry}
use Rattle.sg_history.specs.declared.entries.Write.{Write}
use Rattle.sg_history.specs.Current.{Current, current}
use Rattle.sg_history.specs.History.{among, as_write, past}
use Rattle.log_index.specs.declared.documents.Document as places
use Rattle.log_index.specs.Marks.{write_of}
use Rattle.log_index.specs.Places.{after_at, document_at, first_seq}
use Rattle.log_index.specs.Representation.{last_kept}
use Rattle.log_index.proofs.Nexts.{IsLastWrite, Stands, last_writes_it, stands}
use Rattle.channel_cache.specs.inner.Counting.{is_listed_by}
use Rattle.channel_cache.specs.Listed.{is_in_one, is_listed, listed_in, sequences_of}
use Rattle.channel_cache.specs.Stands.{has}
use Rattle.channel_cache.proofs.Changing.{taken_more}
use Rattle.channel_cache.proofs.Having.{has_append}
use Rattle.channel_cache.proofs.Listing.{has_listed}
use Rattle.channel_cache.proofs.Past.{past_count, write_read}
use Rattle.channel_cache.proofs.Standing.{IsCurrent, IsDocument, is_current, is_document}
use Rattle.feed_rows.specs.declared.document.Document.{Document}
use Rattle.feed_rows.specs.declared.document.Latest.{Latest}
use Rattle.feed_rows.specs.declared.shown.Viewer.{Viewer}
use Rattle.feed_rows.specs.Known.{known_from, since_renewed}
use Rattle.feed_rows.specs.KnownDocuments.{names_in}
use Rattle.feed_rows.specs.Latest.{current_in}
use Rattle.changes_feed.specs.declared.segment.Segment.{Segment}
use Rattle.changes_feed.specs.inner.Amid.{HasLast, HasMore}
use Rattle.changes_feed.specs.inner.Segment.{SegmentAt, renewed_last}
use Rattle.changes_feed.proofs.Keeping.{Early, added_known, added_more, added_placed, first_is, first_low, known_new}
use Rattle.changes_feed.proofs.Placing.{is_among, not_placed, placed_is}
use Rattle.changes_feed.proofs.Taking.{write_renews}
use Rattle.changes_feed.proofs.Viewing.{IsNext, next, renewed_before}

both_parts : (a b : Bool) → (a && b) ≡ true → a ≡ true
both_parts true b h = refl
both_parts false b h = absurd (false≢true h)

-- what is listed is the last write of a document
pub last_listed : (es : List Entry) (channels : List (List ℕ)) (xs : List ℕ) → xs ≡ sequences_of (listed_in es channels) → (seq : ℕ) → has xs seq ≡ true → HasLast es seq
last_listed es channels xs are seq is = by (write_of es seq) (sym (has_listed es channels es seq) ∙ ap (λ (l : List ℕ). has l seq) (sym are) ∙ is)
  where
    of : (w : Write) (c : Current) → current es w.doc ≡ Some c → c.seq ≡ seq → HasLast es seq
    of w c now same =
        let one : IsCurrent es w.doc c = is_current es w.doc c now in
        let d : IsDocument es w.doc one.d = is_document es w.doc one.d one.d_is in
        let known : d.now ≡ c = same_Some d.now c (sym d.now_is ∙ now) in
        record {
          doc = w.doc;
          d = one.d;
          stands = one.d_is;
          last = sym d.now_seq ∙ ap (λ (x : Current). x.seq) known ∙ same;
        }

    now : (w : Write) (o : Option Current) → current es w.doc ≡ o → is_listed channels seq o ≡ true → HasLast es seq
    now w None none h = absurd (false≢true h)
    now w (Some c) some h = of w c some (eqb-true c.seq seq (both_parts (nat_eq c.seq seq) (is_in_one channels c) h))

    by : (o : Option Write) → is_listed_by es channels seq o ≡ true → HasLast es seq
    by None h = absurd (false≢true h)
    by (Some w) h = now w (current es w.doc) refl h

-- the document of a last write stands there behind it
pub behind_last : (es : List Entry) (seq : ℕ) (doc : List ℕ) (d : places.Document) → document_at es doc ≡ Some d → d.last ≡ seq → after_at es seq ≡ Some d
behind_last es seq doc d is same = ap (after_at es) (sym same) ∙ (stands es doc d is).behind

pub last_behind : (es : List Entry) (seq : ℕ) → HasLast es seq → (document : places.Document) → after_at es seq ≡ Some document → (doc : List ℕ) × (Some document ≡ document_at es doc)
last_behind es seq last document is = (last.doc, sym is ∙ behind_last es seq last.doc last.d last.stands last.last ∙ sym last.stands)

pub none_behind : {X : Type 0} (es : List Entry) (seq : ℕ) → HasLast es seq → after_at es seq ≡ None → X
none_behind es seq last none = absurd (none-some last.d (sym none ∙ behind_last es seq last.doc last.d last.stands last.last))

module _ (viewer : Viewer) (start : ℕ) (pos : 0 < start) (entries : List Entry) (front : ℕ) (high : front ≤ length entries) where
  -- a document that was written from the start on is there
  pub written_late : (segment : Segment) → SegmentAt viewer start entries front segment → (doc : List ℕ) (d : places.Document) → document_at (past entries front) doc ≡ Some d → start ≤ d.last → among (names_in segment.documents.items) doc ≡ true
  written_late segment is doc d here late =
      let es : List Entry = past entries front in
      let s : Stands es d = stands es doc d here in
      let up : d.last ≤ front = omega (arith, s.high, past_count entries front high) in
      let one : IsNext entries d.last = next entries d.last s.low (omega (arith, up, high)) in
      let last : IsLastWrite es doc d.last = last_writes_it es doc d.last (ap last_kept here) s.low in
      let writes : as_write one.entry ≡ Some last.write = sym (write_read entries front d.last one.entry one.there s.low up high) ∙ last.at in
      is.all doc d.last late up
      (ap (λ (es : List Entry). renewed_last es doc) one.all
      ∙ ap (λ (n : List ℕ). renewed_last (one.entry ∷ past entries (d.last - 1)) n) (sym last.doc_is)
      ∙ write_renews one.entry (past entries (d.last - 1)) last.write writes)

  -- a document that has a place is there
  pub placed_there : (segment : Segment) → SegmentAt viewer start entries front segment → (document : places.Document) (p : ℕ) → get nat_cmp segment.places document.first ≡ Some p
      → (doc : List ℕ) → Some document ≡ document_at (past entries front) doc → among (names_in segment.documents.items) doc ≡ true
  placed_there segment is document p at doc here =
      is_among (names_in segment.documents.items) doc p
      (placed_is (past entries front) (names_in segment.documents.items) segment.places doc p is.placed
      (ap (get nat_cmp segment.places) (sym (first_is (past entries front) doc document here)) ∙ at))

  -- a document that is new
  module _ (early : Early) (document : places.Document) (doc : List ℕ) (here : Some document ≡ document_at (past entries front) doc) (old new : Segment) (name : Bor (List ℕ)) (latest : Latest) (named : name.now ≡ doc)
      (now : current_in (Some latest) ≡ current (past entries front) doc) (since : latest.since ≡ length (since_renewed (past entries front) doc)) (free : get nat_cmp old.places document.first ≡ None)
      (documents : new.documents.items ≡ old.documents.items ++ record { name = name; latest = Some latest; change = None } ∷ [])
      (put : (seq : ℕ) → get nat_cmp new.places seq ≡ (if nat_eq document.first seq then Some (length old.documents.items) else get nat_cmp old.places seq)) where
    abbrev one : Document
    one = record { name = name; latest = Some latest; change = None }

    pub new_more : HasMore (names_in old.documents.items) (names_in new.documents.items)
    new_more = added_more entries front old new one doc named documents

    pub new_known : SegmentAt viewer start entries front old → SegmentAt viewer start entries front new
    new_known is =
        let es : List Entry = past entries front in
        let first : document.first ≡ first_seq es doc = first_is es doc document here in
        let not_there : among (names_in old.documents.items) doc ≡ false = not_placed es (names_in old.documents.items) old.places doc is.placed (ap (get nat_cmp old.places) (sym first) ∙ free) in
        let earlier : length (since_renewed es doc) < start = renewed_before entries doc start front pos high (λ j from upto. never is not_there j from upto (renewed_last (past entries j) doc) refl) in
        record {
          known = added_known entries front old new one doc named documents (known_from start es viewer.user.now viewer.filter.now) is.known
              (known_new early start es viewer.user.now viewer.filter.now doc name (Some latest) named now since earlier);
          placed = added_placed entries front old new one doc named documents es document.first is.placed first (first_low es doc document here) free put;
          all = λ other j from upto renewed. new_more other (is.all other j from upto renewed);
        }
      where
        never : SegmentAt viewer start entries front old → among (names_in old.documents.items) doc ≡ false → (j : ℕ) → start ≤ j → j ≤ front → (b : Bool) → renewed_last (past entries j) doc ≡ b → b ≡ false
        never is none j from upto false h = refl
        never is none j from upto true h = absurd (false≢true (sym none ∙ is.all doc j from upto h))

    -- it is there, and no other has its first write
    pub new_there : SegmentAt viewer start entries front new → (other : List ℕ) → Some document ≡ document_at (past entries front) other → among (names_in new.documents.items) other ≡ true
    new_there is other at =
        placed_there new is document (length old.documents.items)
        (put document.first ∙ ap (λ (b : Bool). if b then Some (length old.documents.items) else get nat_cmp old.places document.first) (same_first document.first)) other at
      where
        same_first : (n : ℕ) → nat_eq n n ≡ true
        same_first n = eq-eqb n n refl

-- one sequence more
pub has_next : (xs : List ℕ) (i n : ℕ) → i < length xs → has (take (i + 1) xs) n ≡ (has (take i xs) n || nat_eq n (get_or xs i 0))
has_next xs i n low =
    ap (λ (l : List ℕ). has l n) (sym (taken_more xs i (get_or xs i 0) low (same_there xs i low)))
    ∙ has_append (take i xs) (get_or xs i 0 ∷ []) n
    ∙ ap (λ (b : Bool). has (take i xs) n || b) (or_false (nat_eq n (get_or xs i 0)))
  where
    or_false : (b : Bool) → (b || false) ≡ b
    or_false true = refl
    or_false false = refl

    same_there : (xs : List ℕ) (i : ℕ) → i < length xs → get_or xs i 0 ≡ get_or xs i (get_or xs i 0)
    same_there [] i low = absurd (omega (arith, low))
    same_there (x ∷ xs) zero low = refl
    same_there (x ∷ xs) (suc i) low = same_there xs i (omega (arith, low))

-- a last write stands up to the front
pub seq_within : (entries : List Entry) (front : ℕ) → front ≤ length entries → (seq : ℕ) → HasLast (past entries front) seq → seq ≤ front
seq_within entries front high seq last =
    let s : Stands (past entries front) last.d = stands (past entries front) last.doc last.d last.stands in
    omega (arith, s.high, last.last, past_count entries front high)

-- what the first sequences and one more have
pub all_have : (P : Type 0) (xs : List ℕ) (i n : ℕ) → i < length xs → has (take (i + 1) xs) n ≡ true → (has (take i xs) n ≡ true → P) → (n ≡ get_or xs i 0 → P) → P
all_have P xs i n low is before own = by (has (take i xs) n) refl
  where
    by : (b : Bool) → has (take i xs) n ≡ b → P
    by true h = before h
    by false h =
        own (eqb-true n (get_or xs i 0) (sym (has_next xs i n low ∙ ap (λ (b : Bool). b || nat_eq n (get_or xs i 0)) h) ∙ is))

pub whole_have : (xs : List ℕ) (i n : ℕ) → length xs ≤ i → has xs n ≡ true → has (take i xs) n ≡ true
whole_have xs i n high is = ap (λ (l : List ℕ). has l n) (all xs i high) ∙ is
  where
    all : (xs : List ℕ) (i : ℕ) → length xs ≤ i → take i xs ≡ xs
    all [] zero high = refl
    all [] (suc i) high = refl
    all (x ∷ xs) zero high = absurd (omega (arith, high))
    all (x ∷ xs) (suc i) high = ap (λ (l : List ℕ). x ∷ l) (all xs i (omega (arith, high)))
