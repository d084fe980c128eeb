-- the documents of a segment, with those of the channels that were gained or lost in it, are all of which a row is asked for
use Rattle.std.proofs.Common.{◌≡◌, ◌⊎◌, inl, inr, ◌<◌, ◌≤◌, ◌+◌, ◌-◌, ℕ, zero, suc, refl, sym, ◌∙◌, ap, arith, Bool, true, false, ◌&&◌, ◌||◌, if◌then◌else◌, List, [], ◌∷◌, ◌++◌, length, max, Option, Some, None, nat_eq}
use Rattle.std.specs.Prelude.{IsTrue}
use Rattle.std.specs.Bool.{beq}
use Rattle.std.specs.List.{list_any}
use Rattle.std.specs.Str.{bytes_eq}
use Rattle.std.proofs.lemmas.Bool.{cases_lt, eq-eqb, false≢true, true≢false}
use Rattle.std.proofs.lemmas.List.Folds.{list_any-append}
use Rattle.std.proofs.lemmas.Option.{none-some, same_Some}
use Rattle.sg_names.specs.declared.key.Key.{Key}
use Rattle.sg_names.specs.RevId.{same_rev}
use Rattle.sg_names.specs.declared.rev_id.RevId.{RevId}
use Rattle.sg_history.specs.declared.entries.Entry.{Entry}
use Rattle.sg_history.specs.declared.entries.Write.{Write}
use Rattle.sg_history.specs.declared.row.Row.{Row}
use Rattle.sg_history.specs.declared.row.Options.{Options}
use Rattle.sg_history.specs.History.{among, as_write, of_document, past}
use Rattle.sg_history.specs.Current.{Current, Sequenced, current, current_after, last_write, sequenced_or}
use Rattle.sg_history.specs.Feed.{changed, keeps, row_at, row_of, row_with, writes}
use Rattle.sg_history.specs.Principals.{has_channel}
use Rattle.sg_history.specs.View.{Shown, every, is_shown, passes, same_view, view, view_of}
use Rattle.log_index.specs.declared.documents.Document.{Document}
use Rattle.log_index.specs.Places.{document_at, document_by}
use Rattle.channel_cache.specs.Listed.{is_in, is_in_one, is_listed, listed_by, listed_from, listed_in, sequences_of}
use Rattle.channel_cache.specs.Stands.{has}
use Rattle.channel_cache.specs.declared.found.DocSeq.{DocSeq}
use Rattle.feed_rows.specs.Known.{renews}
use Rattle.channel_cache.proofs.Past.{got, past_count, past_next}
use Rattle.changes_feed.specs.inner.Segment.{renewed_last}
use Rattle.changes_feed.specs.Switches.{AreSwitches, first_of}
use Rattle.changes_feed.proofs.KeyOrder.{Under, kept_above, under_from_below}
use Rattle.changes_feed.proofs.OneOrder.{itself, same_name}

-- ---- what differs

any_differ : (f g : List ℕ → Bool) (xs : List (List ℕ)) → ¬ (list_any f xs ≡ list_any g xs) → (x : List ℕ) × (among xs x ≡ true) × ¬ (f x ≡ g x)
any_differ f g [] differ = absurd (differ refl)
any_differ f g (x ∷ xs) differ = by (f x) (g x) refl refl differ (λ h. any_differ f g xs h)
  where
    more : (x : List ℕ) (n : List ℕ) → among xs n ≡ true → among (x ∷ xs) n ≡ true
    more x n is = or_right (bytes_eq x n) (among xs n) is
      where
        or_right : (a b : Bool) → b ≡ true → (a || b) ≡ true
        or_right true b h = refl
        or_right false b h = h

    here : ¬ (f x ≡ g x) → (n : List ℕ) × (among (x ∷ xs) n ≡ true) × ¬ (f n ≡ g n)
    here other = (x, ap (λ (b : Bool). b || among xs x) (itself x), other)

    there : (n : List ℕ) × (among xs n ≡ true) × ¬ (f n ≡ g n) → (n : List ℕ) × (among (x ∷ xs) n ≡ true) × ¬ (f n ≡ g n)
    there one = (one.0, more x one.0 one.1, one.2)

    by : (a b : Bool) → f x ≡ a → g x ≡ b → ¬ ((a || list_any f xs) ≡ (b || list_any g xs)) → (¬ (list_any f xs ≡ list_any g xs) → (n : List ℕ) × (among xs n ≡ true) × ¬ (f n ≡ g n))
        → (n : List ℕ) × (among (x ∷ xs) n ≡ true) × ¬ (f n ≡ g n)
    by true true one two differ rest = absurd (differ refl)
    by false false one two differ rest = there (rest differ)
    by true false one two differ rest = here (λ same. true≢false (sym one ∙ same ∙ two))
    by false true one two differ rest = here (λ same. false≢true (sym one ∙ same ∙ two))

among_one : (P : List ℕ → Bool) (xs : List (List ℕ)) (x : List ℕ) → among xs x ≡ true → P x ≡ true → list_any P xs ≡ true
among_one P [] x is holds = absurd (false≢true is)
among_one P (y ∷ ys) x is holds = by (bytes_eq y x) refl is (λ h. among_one P ys x h holds)
  where
    or_right : (a b : Bool) → b ≡ true → (a || b) ≡ true
    or_right true b h = refl
    or_right false b h = h

    by : (b : Bool) → bytes_eq y x ≡ b → (b || among ys x) ≡ true → (among ys x ≡ true → list_any P ys ≡ true) → (P y || list_any P ys) ≡ true
    by true same is rest = ap (λ (b : Bool). b || list_any P ys) (ap P (same_name y x same) ∙ holds)
    by false other is rest = or_right (P y) (list_any P ys) (rest is)

-- ---- documents in channels

seqs_append : (xs ys : List DocSeq) → sequences_of (xs ++ ys) ≡ sequences_of xs ++ sequences_of ys
seqs_append [] ys = refl
seqs_append (x ∷ xs) ys = ap (λ (l : List ℕ). x.seq ∷ l) (seqs_append xs ys)

-- the last write of a document that is in one of these channels is listed
module _ (es : List Entry) (channels : List (List ℕ)) (doc : List ℕ) (c : Current) (is : current es doc ≡ Some c) (in_one : is_in_one channels c ≡ true) where
  listed_there : (xs : List Entry) (last : Sequenced) → last_write xs doc ≡ Some last → c.seq ≡ last.seq → has (sequences_of (listed_from es channels xs)) last.seq ≡ true
  listed_there [] last at same = absurd (none-some last at)
  listed_there (e ∷ older) last at same =
      ap (λ (l : List ℕ). has l last.seq) (seqs_append (listed_from es channels older) (listed_by es channels (length older + 1) (as_write e)))
      ∙ list_any-append (nat_eq last.seq) (sequences_of (listed_from es channels older)) (sequences_of (listed_by es channels (length older + 1) (as_write e)))
      ∙ written (as_write e) refl at (λ h. listed_there older last h same)
    where
      or_right : (a b : Bool) → b ≡ true → (a || b) ≡ true
      or_right true b h = refl
      or_right false b h = h

      other : (o : Option Write) → (last_write older doc ≡ Some last → has (sequences_of (listed_from es channels older)) last.seq ≡ true) → last_write older doc ≡ Some last
          → (has (sequences_of (listed_from es channels older)) last.seq || has (sequences_of (listed_by es channels (length older + 1) o)) last.seq) ≡ true
      other o rest at = ap (λ (b : Bool). b || has (sequences_of (listed_by es channels (length older + 1) o)) last.seq) (rest at)

      of_it : (w : Write) (b : Bool) → bytes_eq w.doc doc ≡ b → sequenced_or (if b then Some w else None) (length older + 1) (last_write older doc) ≡ Some last
          → (last_write older doc ≡ Some last → has (sequences_of (listed_from es channels older)) last.seq ≡ true)
          → (has (sequences_of (listed_from es channels older)) last.seq || has (sequences_of (listed_by es channels (length older + 1) (Some w))) last.seq) ≡ true
      of_it w false not at rest = other (Some w) rest at
      of_it w true named at rest =
          let seq : length older + 1 ≡ last.seq = ap (λ (s : Sequenced). s.seq) (same_Some (record { seq = length older + 1; write = w }) last at) in
          let listed : is_listed channels (length older + 1) (current es w.doc) ≡ true =
          ap (λ (n : List ℕ). is_listed channels (length older + 1) (current es n)) (same_name w.doc doc named)
          ∙ ap (is_listed channels (length older + 1)) is
          ∙ ap (λ (b : Bool). b && is_in_one channels c) (eq-eqb c.seq (length older + 1) (same ∙ sym seq))
          ∙ in_one in
          or_right (has (sequences_of (listed_from es channels older)) last.seq) (has (sequences_of (listed_by es channels (length older + 1) (Some w))) last.seq)
          (ap (λ (b : Bool). has (sequences_of (if b then record { doc = w.doc; seq = length older + 1 } ∷ [] else [])) last.seq) listed
          ∙ ap (λ (b : Bool). b || false) (eq-eqb last.seq (length older + 1) (sym seq)))

      written : (o : Option Write) → as_write e ≡ o → sequenced_or (of_document o doc) (length older + 1) (last_write older doc) ≡ Some last
          → (last_write older doc ≡ Some last → has (sequences_of (listed_from es channels older)) last.seq ≡ true)
          → (has (sequences_of (listed_from es channels older)) last.seq || has (sequences_of (listed_by es channels (length older + 1) o)) last.seq) ≡ true
      written None entry at rest = other None rest at
      written (Some w) entry at rest = of_it w (bytes_eq w.doc doc) refl at rest

  -- where the document stands, and that its last write is listed
  record Stands : Type 0 where
    document : Document
    at : document_at es doc ≡ Some document
    listed : has (sequences_of (listed_in es channels)) document.last ≡ true

  stands : Stands
  stands = by (last_write es doc) refl is
    where
      by : (o : Option Sequenced) → last_write es doc ≡ o → current_after es doc o ≡ Some c → Stands
      by None none now = absurd (none-some c now)
      by (Some last) at now =
          let same : c.seq ≡ last.seq = ap (λ (c : Current). c.seq) (sym (same_Some _ c now)) in
          let there = ap (document_by es doc) at in
          record { document = _; at = there; listed = listed_there es last at same }

-- ---- the place of a row

rev_is_itself : (r : RevId) → same_rev r r ≡ true
rev_is_itself r = ap (λ (b : Bool). b && bytes_eq r.digest r.digest) (eq-eqb r.generation r.generation refl) ∙ itself r.digest

past_more : (entries : List Entry) (n : ℕ) → n < length entries → (e : Entry) × (past entries (suc n) ≡ e ∷ past entries n)
past_more entries n h = let one = got entries n h in (one.0, past_next entries n one.0 one.1)

same_itself : (v : Option Shown) → same_view v v ≡ true
same_itself None = refl
same_itself (Some s) =
    ap (λ (b : Bool). (b && same_rev s.rev s.rev) && beq s.deleted s.deleted) (eq-eqb s.seq s.seq refl)
    ∙ ap (λ (b : Bool). b && beq s.deleted s.deleted) (rev_is_itself s.rev)
    ∙ beq_itself s.deleted
  where
    beq_itself : (b : Bool) → beq b b ≡ true
    beq_itself true = refl
    beq_itself false = refl

-- the entry that a law is of
abbrev pub Unrenewed : Type 0
Unrenewed = (e : Entry) (es : List Entry) (doc : List ℕ) → renews e es doc ≡ false → current (e ∷ es) doc ≡ current es doc

-- a document that is not renewed by the entries from a place on
abbrev NotFrom : List Entry → List ℕ → ℕ → ℕ → Type 0
NotFrom entries doc start n = (j : ℕ) → start ≤ j → j ≤ n → renewed_last (past entries j) doc ≡ false

module _ (law : Unrenewed) (entries : List Entry) (user : List ℕ) (filter : Option (List (List ℕ))) (doc : List ℕ) where
  -- it is shown at one place, and not at another
  pub record Turned (start n : ℕ) : Type 0 where
    pub place : ℕ
    pub first : start ≤ place
    pub last : place ≤ n
    pub now : Current
    pub is : current (past entries n) doc ≡ Some now
    pub turns : ¬ (is_shown (past entries place) user filter now ≡ is_shown (past entries (place - 1)) user filter now)

  same_before : (start n : ℕ) (e : Entry) → past entries (suc n) ≡ e ∷ past entries n → start ≤ suc n → NotFrom entries doc start (suc n) → current (past entries (suc n)) doc ≡ current (past entries n) doc
  same_before start n e newest low not =
      ap (λ (es : List Entry). current es doc) newest
      ∙ law e (past entries n) doc (sym (ap (λ (es : List Entry). renewed_last es doc) newest) ∙ not (suc n) low (omega arith))

  turned : (b start n : ℕ) → start ≡ max b 1 → n ≤ length entries → (row : Row) → row_of (past entries n) user filter doc ≡ Some row → b ≤ row.key.by → NotFrom entries doc start n → Turned start n
  turned b start zero first high row is behind not = absurd (none-some row is)
  turned b start (suc n) first high row is behind not = by (same_view (view (e ∷ older) user filter doc) (view older user filter doc)) refl rowed (λ h. turned b start n first (omega (arith, high)) row h behind (λ j low le. not j low (omega (arith, le))))
    where
      more : (e : Entry) × (past entries (suc n) ≡ e ∷ past entries n)
      more = past_more entries n (omega (arith, high))

      e : Entry
      e = more.0

      older : List Entry
      older = past entries n

      rowed : row_of (e ∷ older) user filter doc ≡ Some row
      rowed = sym (ap (λ (es : List Entry). row_of es user filter doc) more.1) ∙ is

      count : length older ≡ n
      count = past_count entries n (omega (arith, high))

      later : Turned start n → Turned start (suc n)
      later t = record {
        place = t.place;
        first = t.first;
        last = omega (arith, t.last);
        now = t.now;
        is = same_before start n e more.1 (omega (arith, t.first, t.last)) not ∙ t.is;
        turns = t.turns;
      }

      here : (o : Option Current) → current (e ∷ older) doc ≡ o → same_view (view (e ∷ older) user filter doc) (view older user filter doc) ≡ false
          → row_with (length older + 1) (writes e doc) (view (e ∷ older) user filter doc) doc o ≡ Some row → Turned start (suc n)
      here None none other made = absurd (none-some row made)
      here (Some c) now other made =
          let by : length older + 1 ≡ row.key.by = ap (λ (r : Row). r.key.by) (same_Some _ row made) in
          let low : start ≤ suc n = omega (arith, first, behind, by, count) in
          let newest : current (past entries (suc n)) doc ≡ Some c = ap (λ (es : List Entry). current es doc) more.1 ∙ now in
          let was : current older doc ≡ Some c = sym (same_before start n e more.1 low not) ∙ newest in
          record {
            place = suc n;
            first = low;
            last = omega arith;
            now = c;
            is = newest;
            turns = λ same.
                let minus : suc n - 1 ≡ n = omega arith in
                let shown : is_shown (e ∷ older) user filter c ≡ is_shown older user filter c =
                sym (ap (λ (es : List Entry). is_shown es user filter c) more.1) ∙ same ∙ ap (λ (m : ℕ). is_shown (past entries m) user filter c) minus in
                let views : view (e ∷ older) user filter doc ≡ view older user filter doc =
                ap (view_of (e ∷ older) user filter) now
                ∙ ap (λ (b : Bool). if b then Some (record { seq = c.seq; rev = c.rev; deleted = c.deleted }) else None) shown
                ∙ sym (ap (view_of older user filter) was) in
                true≢false (sym (same_itself (view older user filter doc)) ∙ sym (ap (λ (v : Option Shown). same_view v (view older user filter doc)) views) ∙ other);
          }

      by : (b : Bool) → same_view (view (e ∷ older) user filter doc) (view older user filter doc) ≡ b
          → row_at (if b then changed older user filter doc else e ∷ older) user filter doc ≡ Some row
          → (row_of older user filter doc ≡ Some row → Turned start n) → Turned start (suc n)
      by true same is rest = later (rest is)
      by false other is rest = here (current (e ∷ older) doc) refl other is

  -- one that was renewed by no entry was never written
  unwritten : (n : ℕ) → n ≤ length entries → NotFrom entries doc 1 n → current (past entries n) doc ≡ None
  unwritten zero high not = refl
  unwritten (suc n) high not =
      let more = past_more entries n (omega (arith, high)) in
      same_before 1 n more.0 more.1 (omega arith) not ∙ unwritten n (omega (arith, high)) (λ j low le. not j low (omega (arith, le)))

-- where it is shown at one place and not at another, one of its channels is had at one and not at the other
shown_turns : (es other : List Entry) (user : List ℕ) (filter : Option (List (List ℕ))) (c : Current) → ¬ (is_shown es user filter c ≡ is_shown other user filter c)
    → (channel : List ℕ) × (is_in channel c ≡ true) × ¬ (has_channel es user channel ≡ has_channel other user channel)
shown_turns es other user filter c differ =
    any_differ (λ channel. has_channel es user channel) (λ channel. has_channel other user channel) (every ∷ c.effects.channels)
    (λ same. differ (ap (λ (b : Bool). b && passes filter (every ∷ c.effects.channels)) same))

-- a row that is asked for is of a place from that of the key on
from_key : (since : Key) (options : Options) (row : Row) → keeps options since row ≡ true → since.by ≤ row.key.by
from_key since options row kept = by (under_from_below since row.key (kept_above options since row kept))
  where
    by : Under since row.key → since.by ≤ row.key.by
    by (inl low) = omega (arith, low)
    by (inr same) = omega (arith, same.0)

-- each document of which a row is asked for is among names that have those that were renewed from the place of the key on, and those
-- that are in a channel that was gained or lost
module _ (law : Unrenewed) (entries : List Entry) (user : List ℕ) (since : Key) (options : Options) (front : ℕ) (high : front ≤ length entries) (channels names : List (List ℕ))
    (switches : AreSwitches channels entries user (first_of since) front)
    (all : (doc : List ℕ) (j : ℕ) → first_of since ≤ j → j ≤ front → renewed_last (past entries j) doc ≡ true → among names doc ≡ true)
    (has_all : (doc : List ℕ) (d : Document) → document_at (past entries front) doc ≡ Some d → has (sequences_of (listed_in (past entries front) channels)) d.last ≡ true → among names doc ≡ true) where
  found : (doc : List ℕ) → Turned law entries user options.filter doc (first_of since) front → 1 < first_of since → among names doc ≡ true
  found doc t more =
      let one = shown_turns (past entries t.place) (past entries (t.place - 1)) user options.filter t.now t.turns in
      let switched : among channels one.0 ≡ true = (switches.are one.0).1 (record { more = more; place = t.place; first = t.first; last = t.last; turns = one.2 }) in
      let s = stands (past entries front) channels doc t.now t.is (among_one (λ channel. is_in channel t.now) channels one.0 switched one.1) in
      has_all doc s.document s.at s.listed

  pub have_all : (doc : List ℕ) (row : Row) → row_of (past entries front) user options.filter doc ≡ Some row → IsTrue (keeps options since row) → among names doc ≡ true
  have_all doc row is kept = by (among names doc) refl
    where
      by : (b : Bool) → among names doc ≡ b → among names doc ≡ true
      by true there = there
      by false lacks =
          let not : NotFrom entries doc (first_of since) front = λ j low le. no (renewed_last (past entries j) doc) refl (all doc j low le) in
          let t = turned law entries user options.filter doc since.by (first_of since) front refl high row is (from_key since options row kept) not in
          either t not (cases_lt 1 (first_of since))
        where
          no : (x : Bool) {y : Bool} → y ≡ x → (y ≡ true → among names doc ≡ true) → y ≡ false
          no false is named = is
          no true is named = absurd (true≢false (sym (named is) ∙ lacks))

          either : Turned law entries user options.filter doc (first_of since) front → NotFrom entries doc (first_of since) front → (1 < first_of since) ⊎ (first_of since ≤ 1) → among names doc ≡ true
          either t not (inl more) = found doc t more
          either t not (inr begun) =
              absurd (none-some t.now (sym (unwritten law entries user options.filter doc front high (λ j low le. not j (omega (arith, begun, low)) le)) ∙ t.is))
