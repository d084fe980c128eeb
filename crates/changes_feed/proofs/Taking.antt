-- what an entry makes of a segment
use Rattle.std.proofs.Common.{◌≡◌, ◌≢◌, ◌<◌, ◌≤◌, ◌+◌, ◌-◌, ℕ, zero, suc, refl, sym, ◌∙◌, ap, arith, Bool, true, false, ◌||◌, if◌then◌else◌, List, [], ◌∷◌, length, Option, Some, None, get_or}
use Rattle.std.specs.Prelude.{is_some, nat_le, option_map, slice_get, Result, Ok, Err, IfOk, OnOk}
use Rattle.std.specs.Str.{bytes_eq}
use Rattle.std.specs.Cmp.Lexicographic.{bytes_decides}
use Rattle.std.proofs.lemmas.Bool.{eqb-true, eq-eqb, false≢true, leb-false, true≢false}
use Rattle.std.proofs.lemmas.Option.{none-some, same_Some}
use Rattle.sg_history.specs.declared.entries.Entry.{Entry}
use Rattle.sg_history.specs.declared.entries.Entry.TheVariants as entry
use Rattle.sg_history.specs.declared.entries.Mark.{Mark}
use Rattle.sg_history.specs.declared.entries.Write.{Write}
use Rattle.sg_history.specs.History.{SyncEntry, as_sync, as_write, of_document, past, write_to}
use Rattle.sg_history.specs.Current.{Current, Sequenced, current, mark_in}
use Rattle.log_index.specs.declared.documents.Document.{Document}
use Rattle.log_index.specs.declared.marks.Marked.{Marked}
use Rattle.log_index.specs.Marks.{entries_up_to, is_mark, marked_after, marked_up_to}
use Rattle.log_index.specs.Places.{after_at, before_at, document_at, document_before}
use Rattle.log_index.proofs.Nexts.{after_newest, before_newest, before_older}
use Rattle.channel_cache.specs.inner.Forward.{replaced_at, replaced_by}
use Rattle.channel_cache.specs.Stands.{IndexesTo}
use Rattle.channel_cache.proofs.Standing.{writes_after}
use Rattle.channel_cache.proofs.Past.{index_after, index_up_to}
use Rattle.feed_rows.specs.declared.shown.Viewer.{Viewer}
use Rattle.feed_rows.specs.Known.{marks_winner, renews}
use Rattle.changes_feed.specs.declared.segment.Segment.{Segment}
use Rattle.changes_feed.specs.inner.Amid.{PartAt, Renewing, Renews, taken, winner_place, with_one}
use Rattle.changes_feed.specs.inner.Segment.{renewed_last}
use Rattle.changes_feed.proofs.Marking.{all_last, is_place, marked_is, none_first, none_more, not_yet, nowhere, one_more, renews_is, stays, winner_there}
use Rattle.changes_feed.proofs.Viewing.{IsNext, next}

pub if_three : {A E : Type 0} (r : Result A E) (P Q : Type 0) (S R : A → Type 0) → ((x : A) → P → Q → S x → R x) → OnOk r P → OnOk r Q → IfOk r S → IfOk r R
if_three (Ok x) P Q S R f p q s = f x p q s
if_three (Err e) P Q S R f p q s = p

pub mark_got : (marks : List Mark) (i : ℕ) (mark : Mark) → i < length marks → mark ≡ get_or marks i mark → slice_get marks i ≡ Some mark
mark_got [] i mark low is = absurd (omega (arith, low))
mark_got (m ∷ marks) zero mark low is = ap (λ (x : Mark). Some x) (sym is)
mark_got (m ∷ marks) (suc i) mark low is = mark_got marks i mark (omega (arith, low)) is

-- ---- an entry that is a write

is_sync_none : (e : Entry) (w : Write) → as_write e ≡ Some w → as_sync e ≡ None
is_sync_none (entry.Write v) w is = refl
is_sync_none (entry.PutUser name channels roles) w is = refl
is_sync_none (entry.PutRole name channels) w is = refl
is_sync_none (entry.DropUser name) w is = refl
is_sync_none (entry.DropRole name) w is = refl
is_sync_none (entry.Sync text marks) w is = absurd (none-some w is)
is_sync_none entry.Unused w is = refl

unmarked : (e : Entry) (doc : List ℕ) (o : Option Current) → as_sync e ≡ None → marks_winner e doc o ≡ false
unmarked e doc None is = refl
unmarked e doc (Some c) is = ap (λ (s : Option SyncEntry). is_some (mark_in s doc c.rev)) is

-- an entry that neither writes a document nor replaces the sync function does not renew it
pub plain_renews : (e : Entry) (older : List Entry) (doc : List ℕ) → write_to e doc ≡ None → as_sync e ≡ None → renews e older doc ≡ false
plain_renews e older doc none is =
    ap (λ (o : Option Write). is_some o || marks_winner e doc (current older doc)) none ∙ unmarked e doc (current older doc) is

other_text : (a b : List ℕ) → bytes_eq b a ≡ false → (x : Bool) → bytes_eq a b ≡ x → x ≡ false
other_text a b not false is = refl
other_text a b not true is = absurd (false≢true (sym not ∙ (bytes_decides b a).1 (sym ((bytes_decides a b).0 is))))

pub write_renews : (e : Entry) (older : List Entry) (w : Write) → as_write e ≡ Some w → renews e older w.doc ≡ true
write_renews e older w is =
    ap (λ (o : Option Write). is_some (of_document o w.doc) || marks_winner e w.doc (current older w.doc)) is
    ∙ ap (λ (b : Bool). is_some (if b then Some w else None) || marks_winner e w.doc (current older w.doc)) ((bytes_decides w.doc w.doc).1 refl)

write_other : (e : Entry) (older : List Entry) (w : Write) → as_write e ≡ Some w → (name : List ℕ) → bytes_eq name w.doc ≡ false → renews e older name ≡ false
write_other e older w is name not =
    plain_renews e older name
    (ap (λ (o : Option Write). of_document o name) is ∙ ap (λ (b : Bool). if b then Some w else None) (other_text w.doc name not (bytes_eq w.doc name) refl))
    (is_sync_none e w is)

sync_plain : (e : Entry) (sync : SyncEntry) → as_sync e ≡ Some sync → as_write e ≡ None
sync_plain (entry.Write w) sync is = absurd (none-some sync is)
sync_plain (entry.PutUser name channels roles) sync is = refl
sync_plain (entry.PutRole name channels) sync is = refl
sync_plain (entry.DropUser name) sync is = refl
sync_plain (entry.DropRole name) sync is = refl
sync_plain (entry.Sync text marks) sync is = refl
sync_plain entry.Unused sync is = refl

-- a document stands behind its write
stands_written : (e : Entry) (older : List Entry) (w : Write) → as_write e ≡ Some w → document_at (e ∷ older) w.doc ≢ None
stands_written e older w is none =
    writes_after e older w is (after_newest e older (length older + 1) refl ∙ ap (document_before (e ∷ older)) is ∙ none)

before_up_to : (es : List Entry) (seq k : ℕ) → seq ≤ k → before_at (entries_up_to es k) seq ≡ before_at es seq
before_up_to [] seq k low = refl
before_up_to (e ∷ older) seq k low = by (nat_le (length older + 1) k) refl (before_up_to older seq k low)
  where
    by : (b : Bool) → nat_le (length older + 1) k ≡ b → before_at (entries_up_to older k) seq ≡ before_at older seq → before_at (if b then e ∷ older else entries_up_to older k) seq ≡ before_at (e ∷ older) seq
    by true is rest = refl
    by false is rest = rest ∙ sym (before_older e older seq (λ same. omega (arith, same, low, leb-false (length older + 1) k is)))

module _ (entries : List Entry) (at : ℕ) (pos : 0 < at) (high : at ≤ length entries) where
  abbrev one : IsNext entries at
  one = next entries at pos high

  abbrev older : List Entry
  older = past entries (at - 1)

  place : at ≡ length older + 1
  place = omega (arith, one.count, pos)

  -- what the write at a place renews
  pub record IsWritten (before : Option Document) (after : Document) : Type 0 where
    pub write : Write
    pub is : as_write one.entry ≡ Some write
    pub renews : Renews entries at write.doc before after

  pub written : (index : List Entry) (indexed : IndexesTo index entries at) (before : Option Document) (after : Document) → before ≡ before_at index at → after_at index at ≡ Some after → IsWritten before after
  written index indexed before after was is = by (as_write one.entry) refl
    where
      behind : after_at index at ≡ document_before (one.entry ∷ older) (as_write one.entry)
      behind =
          index_after index entries at indexed at (omega arith)
          ∙ ap (λ (es : List Entry). after_at es at) one.all
          ∙ after_newest one.entry older at place

      ahead : before_at index at ≡ document_before older (as_write one.entry)
      ahead =
          sym (before_up_to index at at (omega arith))
          ∙ ap (λ (es : List Entry). before_at es at) (index_up_to index entries at indexed ∙ one.all)
          ∙ before_newest one.entry older at place

      by : (o : Option Write) → as_write one.entry ≡ o → IsWritten before after
      by None none = absurd (none-some after (sym (ap (document_before (one.entry ∷ older)) none) ∙ sym behind ∙ is))
      by (Some w) some = record {
        write = w;
        is = some;
        renews = record {
          stands = sym is ∙ behind ∙ ap (document_before (one.entry ∷ older)) some ∙ ap (λ (es : List Entry). document_at es w.doc) (sym one.all);
          stood = was ∙ ahead ∙ ap (document_before older) some;
          renewed = ap (λ (es : List Entry). renewed_last es w.doc) one.all ∙ write_renews one.entry older w some;
        };
      }

  pub written_others : (before : Option Document) (after : Document) (w : IsWritten before after) → (name : List ℕ) → with_one w.write.doc (λ name. false) name ≡ false → renewed_last (past entries at) name ≡ false
  written_others before after w name not =
      ap (λ (es : List Entry). renewed_last es name) one.all ∙ write_other one.entry older w.write w.is name not

  -- an entry that is no write and no replacement renews nothing
  pub nothing_renewed : (e : Entry) → slice_get entries (at - 1) ≡ Some e → as_write e ≡ None → as_sync e ≡ None → (name : List ℕ) → renewed_last (past entries at) name ≡ false
  nothing_renewed e there plain none name =
      let same : one.entry ≡ e = same_Some one.entry e (sym one.there ∙ there) in
      ap (λ (es : List Entry). renewed_last es name) one.all
      ∙ ap (λ (x : Entry). renews x older name) same
      ∙ plain_renews e older name (ap (λ (o : Option Write). of_document o name) plain) none

  pub unwritten : (index : List Entry) (indexed : IndexesTo index entries at) (e : Entry) → slice_get entries (at - 1) ≡ Some e → after_at index at ≡ None → as_write e ≡ None
  unwritten index indexed e there none = by (as_write one.entry) refl
    where
      same : one.entry ≡ e
      same = same_Some one.entry e (sym one.there ∙ there)

      by : (o : Option Write) → as_write one.entry ≡ o → as_write e ≡ None
      by None is = ap as_write (sym same) ∙ is
      by (Some w) is =
          let high_at : after_at index at ≡ document_at (one.entry ∷ older) w.doc =
          index_after index entries at indexed at (omega arith)
          ∙ ap (λ (es : List Entry). after_at es at) one.all
          ∙ after_newest one.entry older at place
          ∙ ap (document_before (one.entry ∷ older)) is in
          absurd (stands_written one.entry older w is (sym high_at ∙ none))

  -- ---- a replaced sync function

  module _ (marks : List Mark) (is : option_map (λ (s : SyncEntry). s.marks) (replaced_at entries at) ≡ Some marks) where
    record IsReplaced : Type 0 where
      sync : SyncEntry
      replaces : as_sync one.entry ≡ Some sync
      same : sync.marks ≡ marks
      plain : as_write one.entry ≡ None

    replaced : IsReplaced
    replaced = by (as_sync one.entry) refl (ap (λ (o : Option Entry). option_map (λ (s : SyncEntry). s.marks) (replaced_by o)) (sym one.there) ∙ is)
      where
        by : (o : Option SyncEntry) → as_sync one.entry ≡ o → option_map (λ (s : SyncEntry). s.marks) o ≡ Some marks → IsReplaced
        by None none h = absurd (none-some marks h)
        by (Some sync) some h = record { sync = sync; replaces = some; same = same_Some sync.marks marks h; plain = sync_plain one.entry sync some }

    abbrev now : List ℕ → Option ℕ
    now doc = winner_place marks doc (current older doc)

    to_marks : (doc : List ℕ) → winner_place replaced.sync.marks doc (current older doc) ≡ now doc
    to_marks doc = ap (λ (l : List Mark). winner_place l doc (current older doc)) replaced.same

    renewed_is : (doc : List ℕ) → renewed_last (past entries at) doc ≡ is_some (now doc)
    renewed_is doc =
        ap (λ (es : List Entry). renewed_last es doc) one.all
        ∙ renews_is one.entry older replaced.sync replaced.replaces replaced.plain doc
        ∙ ap is_some (to_marks doc)

    pub none_taken : (doc : List ℕ) → false ≡ taken older marks 0 doc
    none_taken doc = none_first older marks doc

    pub all_taken : (number : ℕ) → length marks ≤ number → (doc : List ℕ) → taken older marks number doc ≡ false → renewed_last (past entries at) doc ≡ false
    all_taken number high_marks doc not = renewed_is doc ∙ all_last older marks doc number high_marks not

    module _ (number : ℕ) (mark : Mark) (here : slice_get marks number ≡ Some mark) where
      -- the mark of this number is of its own document alone
      only_own : (doc : List ℕ) → now doc ≡ Some number → doc ≡ mark.doc
      only_own doc place_is =
          let two = winner_there marks doc (current older doc) number place_is in
          sym two.2 ∙ ap (λ (m : Mark). m.doc) (same_Some two.0 mark (sym two.1 ∙ here))

      -- where it is not the place of its document's winner, it renews nothing
      pub skipped : now mark.doc ≢ Some number → (doc : List ℕ) → taken older marks number doc ≡ taken older marks (number + 1) doc
      skipped not = none_more older marks number (λ doc place_is. not (ap now (sym (only_own doc place_is)) ∙ place_is))

      pub no_document : document_at (past entries at) mark.doc ≡ None → now mark.doc ≢ Some number
      no_document none place_is =
          none-some number
          (sym (sym (to_marks mark.doc) ∙ nowhere one.entry older replaced.sync replaced.replaces replaced.plain mark.doc (ap (λ (es : List Entry). document_at es mark.doc) (sym one.all) ∙ none)) ∙ place_is)

      module _ (bound : (es : List Entry) (w : Sequenced) (m : Marked) → marked_after es w ≡ Some m → m.sync ≤ length es) (d : Document) (stands : Some d ≡ document_at (past entries at) mark.doc) where
        mark_is : is_mark (marked_up_to (past entries at) d.winning (length (past entries at))) at number ≡ is_place (now mark.doc) number
        mark_is =
            ap (λ (n : ℕ). is_mark (marked_up_to (past entries at) d.winning (length (past entries at))) n number) (sym one.whole)
            ∙ ap (λ (es : List Entry). is_mark (marked_up_to es d.winning (length es)) (length es) number) one.all
            ∙ marked_is one.entry older replaced.sync replaced.replaces replaced.plain bound mark.doc d number (ap (λ (es : List Entry). document_at es mark.doc) (sym one.all) ∙ sym stands)
            ∙ ap (λ (o : Option ℕ). is_place o number) (to_marks mark.doc)

        place_here : (o : Option ℕ) → is_place o number ≡ true → o ≡ Some number
        place_here None h = absurd (false≢true h)
        place_here (Some p) h = ap (λ (n : ℕ). Some n) (eqb-true p number h)

        place_not : (o : Option ℕ) → is_place o number ≡ false → o ≢ Some number
        place_not None h same = none-some number same
        place_not (Some p) h same = true≢false (sym (eq-eqb p number (same_Some p number same)) ∙ h)

        module _ (m : Option Marked) (marked : m ≡ marked_up_to (past entries at) d.winning (length (past entries at))) where
          as_place : is_mark m at number ≡ is_place (now mark.doc) number
          as_place = ap (λ (o : Option Marked). is_mark o at number) marked ∙ mark_is

          pub other_mark : is_mark m at number ≡ false → (doc : List ℕ) → taken older marks number doc ≡ taken older marks (number + 1) doc
          other_mark not = skipped (place_not (now mark.doc) (sym as_place ∙ not))

          module _ (yes : is_mark m at number ≡ true) where
            own : now mark.doc ≡ Some number
            own = place_here (now mark.doc) (sym as_place ∙ yes)

            pub next_taken : (doc : List ℕ) → with_one mark.doc (taken older marks number) doc ≡ taken older marks (number + 1) doc
            next_taken = one_more older marks number mark.doc own only_own

            pub renewing : (viewer : Viewer) (start : ℕ) (segment : Segment) → PartAt viewer start entries at (taken older marks number) segment → Renewing viewer start entries at (Some d) d segment mark.doc (taken older marks number)
            renewing viewer start segment part = record {
              renews = record {
                stands = stands;
                stood = stands ∙ ap (λ (es : List Entry). document_at es mark.doc) one.all ∙ stays one.entry older replaced.sync replaced.replaces replaced.plain mark.doc;
                renewed = renewed_is mark.doc ∙ ap is_some own;
              };
              free = not_yet older marks number mark.doc own;
              part = part;
            }
