-- tables that took the next entry
use Rattle.std.proofs.Common.{◌≡◌, ◌≢◌, ◌<◌, ◌≤◌, ◌+◌, ℕ, zero, suc, refl, sym, ◌∙◌, ap, arith, Bool, true, false, true≢false, ◌&&◌, if◌then◌else◌, List, ◌∷◌, length, Option, Some, None, nat_eq, unwrap_or}
use Rattle.std.specs.BTreeMap.{BTreeMap, get, get_by_text}
use Rattle.std.specs.Ordering.{nat_cmp}
use Rattle.std.specs.Str.{bytes_eq}
use Rattle.std.specs.Cmp.Lexicographic.{bytes_decides}
use Rattle.sg_names.specs.declared.rev_id.RevId.{RevId}
use Rattle.sg_names.specs.RevId.{same_rev}
use Rattle.sg_history.specs.declared.entries.Entry.{Entry}
use Rattle.sg_history.specs.declared.entries.Entry.TheVariants as entry
use Rattle.sg_history.specs.declared.entries.Mark.{Mark}
use Rattle.sg_history.specs.declared.entries.Write.{Write}
use Rattle.sg_history.specs.History.{SyncEntry, as_sync, as_write, of_document, write_to}
use Rattle.sg_history.specs.Current.{Sequenced, sequenced_or, with_rev_or, write_or, last_write, write_of_rev}
use Rattle.log_index.specs.declared.documents.Document.{Document}
use Rattle.log_index.specs.declared.tables.Tables.{Tables}
use Rattle.log_index.specs.Places.{earlier_or, first_seq, first_or, seq_alone, revision_seq, document_by, document_at}
use Rattle.log_index.specs.Marks.{write_of}
use Rattle.log_index.specs.Representation.{HasPlaces, IsFree, first_in, first_rev, firsts_of, kept_place, marks_in, place_at, repeat_at, seq_in, seq_or, seq_place, seq_with, winning_seq}
use Rattle.std.proofs.lemmas.Bool.{eq-eqb, eqb-false, eqb-true, ne_eqb}
use Rattle.std.proofs.lemmas.Option.{none-some, same_Some}
use Rattle.log_index.proofs.FirstRevisions.{Writes, at_newest, first_stays, is_same, last_writes, never_written, not_there}
use Rattle.log_index.proofs.KeptMarks.{kept_beyond, none_older}
use Rattle.log_index.proofs.Firsts.{within, nowhere, somewhere, first_of, first_at, no_revision, one_first, earlier_within}

-- where a document stands, by its first write, its revisions and its last write
abbrev pub placed : ℕ → (RevId → Option Sequenced) → Option Sequenced → Option Document
placed first revs None = None
placed first revs (Some last) = Some (record { first = first; last = last.seq; winning = (write_or (revs last.write.winner) last).seq })

pub is_placed : (es : List Entry) (doc : List ℕ) (last : Option Sequenced) → document_by es doc last ≡ placed (first_seq es doc) (λ rev. write_of_rev es doc rev) last
is_placed es doc None = refl
is_placed es doc (Some last) = refl

-- where a document stands after one entry more, by the write of it that this is
abbrev pub document_with : List Entry → List ℕ → Option Write → Option Document
document_with es doc o =
    placed (earlier_or o (length es + 1) (first_seq es doc)) (λ rev. with_rev_or o (length es + 1) rev (write_of_rev es doc rev)) (sequenced_or o (length es + 1) (last_write es doc))

pub document_more : (e : Entry) (es : List Entry) (doc : List ℕ) → document_at (e ∷ es) doc ≡ document_with es doc (write_to e doc)
document_more e es doc = is_placed (e ∷ es) doc (last_write (e ∷ es) doc)

-- the first write after one more
first_after : (es : List Entry) (doc : List ℕ) (w : Write) (document : Option Document) → document_at es doc ≡ document → first_or document (length es + 1) ≡ earlier_or (Some w) (length es + 1) (first_seq es doc)
first_after es doc w None is = sym (ap (λ (n : ℕ). earlier_or (Some w) (length es + 1) n) (nowhere es doc is))
first_after es doc w (Some document) is =
    let first : document.first ≡ first_seq es doc = sym (ap first_of is) ∙ first_at es doc in
    first ∙ sym (kept (first_seq es doc) (somewhere es doc document is))
  where
    kept : (n : ℕ) → 0 < n → earlier_or (Some w) (length es + 1) n ≡ n
    kept zero pos = absurd (omega (arith, pos))
    kept (suc n) pos = refl

-- what is kept of a document's revisions under its first write, or where that is to be
of_revision : (tables : Tables) (es : List Entry) (doc : List ℕ) (rev : RevId) (document : Option Document) → document_at es doc ≡ document → HasPlaces tables es → seq_in tables.revisions (first_or document (length es + 1)) rev ≡ revision_seq es doc rev
of_revision tables es doc rev None at is =
    is.unused (length es + 1) rev (omega arith) ∙ sym (ap (λ (w : Option Sequenced). seq_alone w) (no_revision es doc rev (nowhere es doc at)))
of_revision tables es doc rev (Some document) at is =
    let first : document.first ≡ first_seq es doc = sym (ap first_of at) ∙ first_at es doc in
    ap (λ (n : ℕ). seq_in tables.revisions n rev) first ∙ is.revisions doc rev (somewhere es doc document at)

chosen : (own : Bool) (found : Option Sequenced) (last : Sequenced) → (if own then last.seq else unwrap_or (seq_alone found) last.seq) ≡ (write_or (if own then Some last else found) last).seq
chosen true found last = refl
chosen false None last = refl
chosen false (Some found) last = refl

-- what is kept of a document and of revisions once a write was taken
pub record Took (old new : Tables) (w : Write) (seq : ℕ) : Type 0 where
  pub count : new.count ≡ seq
  pub documents : (name : List ℕ) → get_by_text new.documents name
      ≡ (if bytes_eq w.doc name
      then Some (record { first = first_or (get_by_text old.documents w.doc) seq; last = seq; winning = winning_seq old w (first_or (get_by_text old.documents w.doc) seq) seq })
      else get_by_text old.documents name)
  pub revisions : (other : ℕ) (rev : RevId) → seq_in new.revisions other rev
      ≡ (if nat_eq (first_or (get_by_text old.documents w.doc) seq) other && same_rev w.rev rev then Some seq else seq_in old.revisions other rev)
  pub repeats : (other : ℕ) → get nat_cmp new.repeats other
      ≡ repeat_at old.repeats (seq_in old.revisions (first_or (get_by_text old.documents w.doc) seq) w.rev) seq other
  pub marks : (first sync : ℕ) → place_at new.marks first sync ≡ place_at old.marks first sync

-- that from what the calls answered
pub took_write : (old new : Tables) (w : Write) (seq first winning : ℕ) (before : Option Document)
    → before ≡ get_by_text old.documents w.doc → first ≡ first_or before seq → winning ≡ winning_seq old w first seq
    → ((name : List ℕ) → get_by_text new.documents name ≡ (if bytes_eq w.doc name then Some (record { first = first; last = seq; winning = winning }) else get_by_text old.documents name))
    → ((other : ℕ) (rev : RevId) → seq_in new.revisions other rev ≡ (if nat_eq first other && same_rev w.rev rev then Some seq else seq_in old.revisions other rev))
    → ((other : ℕ) → get nat_cmp new.repeats other ≡ repeat_at old.repeats (seq_in old.revisions first w.rev) seq other)
    → ((f s : ℕ) → place_at new.marks f s ≡ place_at old.marks f s)
    → new.count ≡ seq → Took old new w seq
took_write old new w seq first winning before looked first_is winning_is documents revisions repeats marks count =
    let at : first ≡ first_or (get_by_text old.documents w.doc) seq = first_is ∙ ap (λ (d : Option Document). first_or d seq) looked in
    record {
      count = count;
      documents = λ name.
          documents name
          ∙ ap (λ (k : ℕ). if bytes_eq w.doc name then Some (record { first = first; last = seq; winning = k }) else get_by_text old.documents name) winning_is
          ∙ ap (λ (k : ℕ). if bytes_eq w.doc name then Some (record { first = k; last = seq; winning = winning_seq old w k seq }) else get_by_text old.documents name) at;
      revisions = λ other rev.
          revisions other rev ∙ ap (λ (k : ℕ). if nat_eq k other && same_rev w.rev rev then Some seq else seq_in old.revisions other rev) at;
      repeats = λ other. repeats other ∙ ap (λ (k : ℕ). repeat_at old.repeats (seq_in old.revisions k w.rev) seq other) at;
      marks = marks;
    }

module _ (old new : Tables) (es : List Entry) (e : Entry) (w : Write) (is : HasPlaces old es) (writes : e ≡ entry.Write w) (took : Took old new w (length es + 1)) where
  abbrev n : ℕ
  n = length es + 1

  abbrev first : ℕ
  first = first_or (get_by_text old.documents w.doc) n

  -- the write of a document that the entry is
  written : (doc : List ℕ) (b : Bool) → bytes_eq w.doc doc ≡ b → write_to e doc ≡ (if b then Some w else None)
  written doc b h = ap (λ (x : Entry). write_to x doc) writes ∙ ap (λ (x : Bool). if x then Some w else None) h

  first_is : (doc : List ℕ) → bytes_eq w.doc doc ≡ true → first ≡ earlier_or (Some w) n (first_seq es doc)
  first_is doc h =
      ap (λ (d : Option Document). first_or d n) (is.documents w.doc)
      ∙ first_after es w.doc w (document_at es w.doc) refl
      ∙ ap (λ (d : List ℕ). earlier_or (Some w) n (first_seq es d)) ((bytes_decides w.doc doc).0 h)

  old_revision : (doc : List ℕ) (rev : RevId) → bytes_eq w.doc doc ≡ true → seq_in old.revisions first rev ≡ revision_seq es doc rev
  old_revision doc rev h =
      ap (λ (d : Option Document). seq_in old.revisions (first_or d n) rev) (is.documents w.doc)
      ∙ of_revision old es w.doc rev (document_at es w.doc) refl is
      ∙ ap (λ (d : List ℕ). revision_seq es d rev) ((bytes_decides w.doc doc).0 h)

  winning_is : (doc : List ℕ) → bytes_eq w.doc doc ≡ true → winning_seq old w first n
      ≡ (write_or (with_rev_or (Some w) n w.winner (write_of_rev es doc w.winner)) (record { seq = n; write = w })).seq
  winning_is doc h =
      ap (λ (found : Option ℕ). if same_rev w.rev w.winner then n else unwrap_or found n) (old_revision doc w.winner h)
      ∙ chosen (same_rev w.rev w.winner) (write_of_rev es doc w.winner) (record { seq = n; write = w })

  document_is : (doc : List ℕ) → bytes_eq w.doc doc ≡ true
      → Some (record { first = first; last = n; winning = winning_seq old w first n }) ≡ document_with es doc (Some w)
  document_is doc h =
      ap (λ (k : ℕ). Some (record { first = k; last = n; winning = winning_seq old w first n })) (first_is doc h)
      ∙ ap (λ (k : ℕ). Some (record { first = earlier_or (Some w) n (first_seq es doc); last = n; winning = k })) (winning_is doc h)

  documents_are : (doc : List ℕ) (b : Bool) → bytes_eq w.doc doc ≡ b → get_by_text new.documents doc ≡ document_at (e ∷ es) doc
  documents_are doc true h =
      took.documents doc
      ∙ ap (λ (x : Bool). if x then Some (record { first = first; last = n; winning = winning_seq old w first n }) else get_by_text old.documents doc) h
      ∙ document_is doc h
      ∙ ap (λ (o : Option Write). document_with es doc o) (sym (written doc true h))
      ∙ sym (document_more e es doc)
  documents_are doc false h =
      took.documents doc
      ∙ ap (λ (x : Bool). if x then Some (record { first = first; last = n; winning = winning_seq old w first n }) else get_by_text old.documents doc) h
      ∙ is.documents doc
      ∙ is_placed es doc (last_write es doc)
      ∙ ap (λ (o : Option Write). document_with es doc o) (sym (written doc false h))
      ∙ sym (document_more e es doc)

  -- the first write of the written document is above all that are others'
  apart : (doc : List ℕ) (document : Option Document) → document_at es w.doc ≡ document → bytes_eq w.doc doc ≡ false → 0 < first_seq es doc → first_or document n ≢ first_seq es doc
  apart doc None at h pos same = absurd (omega (arith, within es doc, same))
  apart doc (Some document) at h pos same =
      let first : document.first ≡ first_seq es w.doc = sym (ap first_of at) ∙ first_at es w.doc in
      let one : w.doc ≡ doc = one_first es w.doc doc (somewhere es w.doc document at) (sym first ∙ same) in
      absurd (true≢false (sym ((bytes_decides w.doc doc).1 one) ∙ h))

  put_there : (k : ℕ) (rev : RevId) (b : Bool) → nat_eq first k ≡ b
      → seq_in new.revisions k rev ≡ (if b && same_rev w.rev rev then Some n else seq_in old.revisions k rev)
  put_there k rev b h = took.revisions k rev ∙ ap (λ (x : Bool). if x && same_rev w.rev rev then Some n else seq_in old.revisions k rev) h

  own_revision : (own : Bool) (found : Option Sequenced) → (if own then Some n else seq_alone found) ≡ seq_alone (if own then Some (record { seq = n; write = w }) else found)
  own_revision true found = refl
  own_revision false found = refl

  more_revision : (o : Option Write) (doc : List ℕ) (rev : RevId) → Option ℕ
  more_revision o doc rev = seq_alone (with_rev_or o n rev (write_of_rev es doc rev))

  revisions_are : (doc : List ℕ) (rev : RevId) (b : Bool) → bytes_eq w.doc doc ≡ b → 0 < first_seq (e ∷ es) doc
      → seq_in new.revisions (first_seq (e ∷ es) doc) rev ≡ revision_seq (e ∷ es) doc rev
  revisions_are doc rev true h pos =
      let there : first ≡ first_seq (e ∷ es) doc = first_is doc h ∙ ap (λ (o : Option Write). earlier_or o n (first_seq es doc)) (sym (written doc true h)) in
      ap (λ (k : ℕ). seq_in new.revisions k rev) (sym there)
      ∙ put_there first rev true (grind (arith))
      ∙ ap (λ (found : Option ℕ). if same_rev w.rev rev then Some n else found) (old_revision doc rev h)
      ∙ own_revision (same_rev w.rev rev) (write_of_rev es doc rev)
      ∙ ap (λ (o : Option Write). seq_alone (with_rev_or o n rev (write_of_rev es doc rev))) (sym (written doc true h))
  revisions_are doc rev false h pos =
      let stays : first_seq (e ∷ es) doc ≡ first_seq es doc = ap (λ (o : Option Write). earlier_or o n (first_seq es doc)) (written doc false h) in
      let before : 0 < first_seq es doc = omega (arith, pos, stays) in
      let other : first ≢ first_seq es doc = λ same. apart doc (document_at es w.doc) refl h before (ap (λ (d : Option Document). first_or d n) (sym (is.documents w.doc)) ∙ same) in
      ap (λ (k : ℕ). seq_in new.revisions k rev) stays
      ∙ put_there (first_seq es doc) rev false (grind (arith))
      ∙ is.revisions doc rev before
      ∙ ap (λ (o : Option Write). seq_alone (with_rev_or o n rev (write_of_rev es doc rev))) (sym (written doc false h))

  first_within : first ≤ n
  first_within = omega (arith, first_is w.doc ((bytes_decides w.doc w.doc).1 refl), earlier_within (Some w) n (first_seq es w.doc) (omega (arith, within es w.doc)))

  unused_are : (k : ℕ) (rev : RevId) → length (e ∷ es) < k → seq_in new.revisions k rev ≡ None
  unused_are k rev above =
      let other : first ≢ k = λ same. omega (arith, first_within, above, same) in
      put_there k rev false (grind (arith)) ∙ is.unused k rev (omega (arith, above))

  is_write : as_write e ≡ Some w
  is_write = ap as_write writes

  own_doc : write_to e w.doc ≡ Some w
  own_doc = written w.doc true ((bytes_decides w.doc w.doc).1 refl)

  -- the last write of this revision before
  before_is : seq_in old.revisions first w.rev ≡ revision_seq es w.doc w.rev
  before_is = old_revision w.doc w.rev ((bytes_decides w.doc w.doc).1 refl)

  repeat_is : (seq : ℕ) → get nat_cmp new.repeats seq ≡ repeat_at old.repeats (revision_seq es w.doc w.rev) n seq
  repeat_is seq = took.repeats seq ∙ ap (λ (o : Option ℕ). repeat_at old.repeats o n seq) before_is

  other_repeat : (seq : ℕ) → seq ≢ n → get nat_cmp new.repeats seq ≡ get nat_cmp old.repeats seq
  other_repeat seq apart = repeat_is seq ∙ kept (revision_seq es w.doc w.rev)
    where
      kept : (o : Option ℕ) → repeat_at old.repeats o n seq ≡ get nat_cmp old.repeats seq
      kept None = refl
      kept (Some b) = ap (λ (x : Bool). if x then Some (first_in old.repeats b) else get nat_cmp old.repeats seq) (ne_eqb n seq (λ same. apart (sym same)))

  -- the first write of this revision, by the last one before
  own_first : first_rev (e ∷ es) w.doc w.rev ≡ seq_or (first_rev es w.doc w.rev) (Some n)
  own_first =
      ap (λ (o : Option Write). seq_or (first_rev es w.doc w.rev) (seq_with o n w.rev)) own_doc
      ∙ ap (λ (x : Bool). seq_or (first_rev es w.doc w.rev) (if x then Some n else None)) (is_same w.rev)

  own_repeat : (o : Option Sequenced) → write_of_rev es w.doc w.rev ≡ o → Some (unwrap_or (repeat_at old.repeats (seq_alone o) n n) n) ≡ seq_or (first_rev es w.doc w.rev) (Some n)
  own_repeat None at =
      ap (λ (x : Option ℕ). Some (unwrap_or x n)) (is.unwritten n (not_there es n (omega arith)))
      ∙ sym (ap (λ (x : Option ℕ). seq_or x (Some n)) (never_written es w.doc w.rev at))
  own_repeat (Some s) at =
      let last : Writes es w.doc w.rev s.seq = last_writes es w.doc w.rev s at in
      let first_one : Some (first_in old.repeats s.seq) ≡ first_rev es w.doc w.rev =
      is.repeats s.seq last.write last.at
      ∙ ap (λ (d : List ℕ). first_rev es d last.write.rev) last.doc_is
      ∙ ap (λ (r : RevId). first_rev es w.doc r) last.rev_is in
      ap (λ (x : Bool). Some (unwrap_or (if x then Some (first_in old.repeats s.seq) else get nat_cmp old.repeats n) n)) (eq-eqb n n refl)
      ∙ ap (λ (x : Option ℕ). seq_or x (Some n)) first_one

  newest_first : (seq : ℕ) → seq ≡ n → Some (first_in new.repeats seq) ≡ first_rev (e ∷ es) w.doc w.rev
  newest_first seq same =
      ap (λ (k : ℕ). Some (first_in new.repeats k)) same
      ∙ ap (λ (x : Option ℕ). Some (unwrap_or x n)) (repeat_is n)
      ∙ own_repeat (write_of_rev es w.doc w.rev) refl
      ∙ sym own_first

  repeats_are : (seq : ℕ) (v : Write) → write_of (e ∷ es) seq ≡ Some v → Some (first_in new.repeats seq) ≡ first_rev (e ∷ es) v.doc v.rev
  repeats_are seq v at = by (nat_eq seq n) refl at
    where
      by : (b : Bool) → nat_eq seq n ≡ b → (if b then as_write e else write_of es seq) ≡ Some v → Some (first_in new.repeats seq) ≡ first_rev (e ∷ es) v.doc v.rev
      by true same at =
          newest_first seq (eqb-true seq n same) ∙ ap (λ (x : Write). first_rev (e ∷ es) x.doc x.rev) (same_Some w v (sym is_write ∙ at))
      by false same at =
          let apart : seq ≢ n = λ equal. eqb-false seq n same equal in
          ap (λ (x : Option ℕ). Some (unwrap_or x seq)) (other_repeat seq apart)
          ∙ sym (first_stays e es v.doc v.rev (first_in old.repeats seq) (sym (is.repeats seq v at)))

  unwritten_are : (seq : ℕ) → write_of (e ∷ es) seq ≡ None → get nat_cmp new.repeats seq ≡ None
  unwritten_are seq none =
      let apart : seq ≢ n = λ same. none-some w (sym none ∙ at_newest e es seq same ∙ is_write) in
      other_repeat seq apart ∙ is.unwritten seq (none_older e es seq none)

  marks_are : (f s : ℕ) → place_at new.marks f s ≡ kept_place (e ∷ es) f s
  marks_are f s = took.marks f s ∙ is.marks f s ∙ by (nat_eq s n) refl
    where
      no_marks : seq_place 0 (firsts_of es (marks_in (as_sync e))) f ≡ None
      no_marks = ap (λ (x : Entry). seq_place 0 (firsts_of es (marks_in (as_sync x))) f) writes

      by : (b : Bool) → nat_eq s n ≡ b → kept_place es f s ≡ (if b then seq_place 0 (firsts_of es (marks_in (as_sync e))) f else kept_place es f s)
      by true same = kept_beyond es f s (omega (arith, eqb-true s n same)) ∙ sym no_marks
      by false same = refl

  pub write_taken : HasPlaces new (e ∷ es)
  write_taken = record {
    count = took.count ∙ omega (arith);
    documents = λ doc. documents_are doc (bytes_eq w.doc doc) refl;
    revisions = λ doc rev pos. revisions_are doc rev (bytes_eq w.doc doc) refl pos;
    unused = unused_are;
    repeats = repeats_are;
    unwritten = unwritten_are;
    marks = marks_are;
  }

-- tables that took an entry that is no write, with the places of its marks
module _ (old : Tables) (es : List Entry) (e : Entry) (is : HasPlaces old es) (none : as_write e ≡ None) where
  abbrev next : ℕ
  next = length es + 1

  no_write : (doc : List ℕ) → write_to e doc ≡ None
  no_write doc = ap (λ (o : Option Write). of_document o doc) none

  stays : (doc : List ℕ) → first_seq (e ∷ es) doc ≡ first_seq es doc
  stays doc = ap (λ (o : Option Write). earlier_or o next (first_seq es doc)) (no_write doc)

  document_stays : (doc : List ℕ) → document_at es doc ≡ document_at (e ∷ es) doc
  document_stays doc =
      is_placed es doc (last_write es doc)
      ∙ ap (λ (o : Option Write). document_with es doc o) (sym (no_write doc))
      ∙ sym (document_more e es doc)

  revision_stays : (doc : List ℕ) (rev : RevId) → 0 < first_seq (e ∷ es) doc → seq_in old.revisions (first_seq (e ∷ es) doc) rev ≡ revision_seq (e ∷ es) doc rev
  revision_stays doc rev pos =
      ap (λ (k : ℕ). seq_in old.revisions k rev) (stays doc)
      ∙ is.revisions doc rev (omega (arith, pos, stays doc))
      ∙ ap (λ (o : Option Write). seq_alone (with_rev_or o next rev (write_of_rev es doc rev))) (sym (no_write doc))

  repeat_stays : (seq : ℕ) (w : Write) → write_of (e ∷ es) seq ≡ Some w → Some (first_in old.repeats seq) ≡ first_rev (e ∷ es) w.doc w.rev
  repeat_stays seq w at = by (nat_eq seq next) at
    where
      by : (b : Bool) → (if b then as_write e else write_of es seq) ≡ Some w → Some (first_in old.repeats seq) ≡ first_rev (e ∷ es) w.doc w.rev
      by true at = absurd (none-some w (sym none ∙ at))
      by false at = sym (first_stays e es w.doc w.rev (first_in old.repeats seq) (sym (is.repeats seq w at)))

  pub unwritten_taken : (count : ℕ) (marks : BTreeMap (ℕ × ℕ) ℕ) → count ≡ length es + 1
      → ((f s : ℕ) → place_at marks f s ≡ (if nat_eq count s then seq_place 0 (firsts_of es (marks_in (as_sync e))) f else place_at old.marks f s))
      → HasPlaces (record old { count = count; marks = marks }) (e ∷ es)
  unwritten_taken count marks at each = record {
    count = at ∙ omega arith;
    documents = λ doc. is.documents doc ∙ document_stays doc;
    revisions = revision_stays;
    unused = λ first rev above. is.unused first rev (omega (arith, above));
    repeats = repeat_stays;
    unwritten = λ seq h. is.unwritten seq (none_older e es seq h);
    marks = λ f s. each f s ∙ turned f s (nat_eq count s) (nat_eq s next) refl refl;
  }
    where
      turned : (f s : ℕ) (a b : Bool) → nat_eq count s ≡ a → nat_eq s next ≡ b
          → (if a then seq_place 0 (firsts_of es (marks_in (as_sync e))) f else place_at old.marks f s)
          ≡ (if b then seq_place 0 (firsts_of es (marks_in (as_sync e))) f else kept_place es f s)
      turned f s true true x y = refl
      turned f s false false x y = is.marks f s
      turned f s true false x y = absurd (eqb-false s next y (sym (eqb-true count s x) ∙ at))
      turned f s false true x y = absurd (eqb-false count s x (at ∙ sym (eqb-true s next y)))

  -- the same where there are no marks
  pub other_taken : (count : ℕ) → count ≡ length es + 1 → as_sync e ≡ None → HasPlaces (record old { count = count }) (e ∷ es)
  other_taken count at no_sync = unwritten_taken count old.marks at (λ f s. by f s (nat_eq count s) refl)
    where
      by : (f s : ℕ) (b : Bool) → nat_eq count s ≡ b → place_at old.marks f s ≡ (if b then seq_place 0 (firsts_of es (marks_in (as_sync e))) f else place_at old.marks f s)
      by f s true same =
          is.marks f s
          ∙ kept_beyond es f s (omega (arith, at, eqb-true count s same))
          ∙ sym (ap (λ (o : Option SyncEntry). seq_place 0 (firsts_of es (marks_in o)) f) no_sync)
      by f s false same = refl

-- tables that keep the same places of marks
pub same_marks : (old : Tables) (marks : BTreeMap (ℕ × ℕ) ℕ) (es : List Entry) → ((f s : ℕ) → place_at marks f s ≡ place_at old.marks f s)
    → HasPlaces old es → HasPlaces (record old { marks = marks }) es
same_marks old marks es same is = record {
  count = is.count;
  documents = is.documents;
  revisions = is.revisions;
  unused = is.unused;
  repeats = is.repeats;
  unwritten = is.unwritten;
  marks = λ f s. same f s ∙ is.marks f s;
}

-- nothing is kept of the next entry
pub free_next : (tables : Tables) (es : List Entry) (sync : ℕ) → HasPlaces tables es → sync ≡ length es + 1 → IsFree tables.marks sync
free_next tables es sync is at f = is.marks f sync ∙ kept_beyond es f sync (omega (arith, at))

-- tables that took a replacement, by the first writes of the revisions of its marks
pub sync_taken : (old : Tables) (marks : BTreeMap (ℕ × ℕ) ℕ) (firsts : List (Option ℕ)) (own : List Mark) (o : Option SyncEntry) (count : ℕ)
    → own ≡ marks_in o
    → ((es : List Entry) → HasPlaces old es → firsts ≡ firsts_of es own)
    → (IsFree old.marks count → (f s : ℕ) → place_at marks f s ≡ (if nat_eq count s then seq_place 0 firsts f else place_at old.marks f s))
    → (es : List Entry) (e : Entry) → as_write e ≡ None → as_sync e ≡ o → count ≡ length es + 1 → HasPlaces old es
    → HasPlaces (record old { count = count; marks = marks }) (e ∷ es)
sync_taken old marks firsts own o count owns found put es e none sync at is =
    unwritten_taken old es e is none count marks at
    (λ f s.
    put (free_next old es count is at) f s
    ∙ ap (λ (xs : List (Option ℕ)). if nat_eq count s then seq_place 0 xs f else place_at old.marks f s)
    (found es is ∙ ap (λ (ms : List Mark). firsts_of es ms) owns ∙ ap (λ (x : Option SyncEntry). firsts_of es (marks_in x)) (sym sync)))
