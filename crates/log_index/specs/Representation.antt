-- How an index keeps what it says. Only proofs and the index's own functions need it.
use Rattle.std.specs.Prelude.{◌≡◌, ◌<◌, ◌≤◌, ◌+◌, ℕ, zero, suc, nat_eq, Bool, false, ◌||◌, List, [], ◌∷◌, map, length, Option, Some, None, String, unwrap_or, slice_get, if◌then◌else◌, string_bytes}
use Rattle.std.specs.BTreeMap.{BTreeMap, get, get_by, get_by_text}
use Rattle.std.specs.Global.{Global}
use Rattle.std.specs.Ordering.{nat_cmp, ordering_then}
use Rattle.std.specs.Cmp.Lexicographic.{slice_cmp}
use Rattle.sg_names.specs.declared.rev_id.RevId.{RevId}
use Rattle.sg_names.specs.RevId.{same_rev}
use Rattle.sg_history.specs.declared.entries.Entry.{Entry}
use Rattle.sg_history.specs.declared.entries.Mark.{Mark}
use Rattle.sg_history.specs.declared.entries.Write.{Write}
use Rattle.sg_history.specs.History.{SyncEntry, as_sync, write_to}
use Rattle.log_index.specs.declared.documents.Document.{Document}
use Rattle.log_index.specs.declared.entry_places.EntryPlaces.{EntryPlaces}
use Rattle.log_index.specs.declared.marks.Marked.{Marked}
use Rattle.log_index.specs.declared.tables.Tables.{Tables}
use Rattle.log_index.specs.Places.{first_seq, revision_seq, document_at, before_at, after_at, next_at}
use Rattle.log_index.specs.Marks.{write_of}

-- the sequence that is kept of a revision, by the first write of its document
abbrev pub seq_in : BTreeMap (ℕ × ℕ × String Global) ℕ → ℕ → RevId → Option ℕ
seq_in revisions first rev =
    get_by (λ k. ordering_then (ordering_then (nat_cmp first k.0) (nat_cmp rev.generation k.1))
    (slice_cmp nat_cmp rev.digest (string_bytes k.2))) revisions

-- the sequence of the winner's write after a write of this sequence, by the first write of its
-- document: its own where it wins, or where the winner that it names is not there
abbrev pub winning_seq : Tables → Write → ℕ → ℕ → ℕ
winning_seq tables w first seq =
    if same_rev w.rev w.winner then seq
    else unwrap_or (seq_in tables.revisions first w.winner) seq

-- what is kept of the document of a write, where there is a write
abbrev pub kept_of : Tables → Option Write → Option Document
kept_of tables None = None
kept_of tables (Some w) = get_by_text tables.documents w.doc

-- the sequence of the first write of a revision that was written at this one, by what is kept of writes of revisions that were
-- written before
abbrev pub first_in : BTreeMap ℕ ℕ → ℕ → ℕ
first_in repeats seq = unwrap_or (get nat_cmp repeats seq) seq

-- what is kept of a write of that once a sequence was put in, by the last write of its revision before
abbrev pub repeat_at : BTreeMap ℕ ℕ → Option ℕ → ℕ → ℕ → Option ℕ
repeat_at repeats None seq other = get nat_cmp repeats other
repeat_at repeats (Some before) seq other = if nat_eq seq other then Some (first_in repeats before) else get nat_cmp repeats other

-- the place that is kept of the mark that a replacement has of a revision, by the sequences of the revision's first write and of
-- the replacement
abbrev pub place_at : BTreeMap (ℕ × ℕ) ℕ → ℕ → ℕ → Option ℕ
place_at places first sync = get_by (λ k. ordering_then (nat_cmp first k.0) (nat_cmp sync k.1)) places

-- nothing is kept of the replacement of this sequence
abbrev pub IsFree : BTreeMap (ℕ × ℕ) ℕ → ℕ → Type 0
IsFree places sync = (first : ℕ) → place_at places first sync ≡ None

-- the last of these places after one sequence and up to another
abbrev pub IsLast : (ℕ → Option ℕ) → ℕ → ℕ → Option Marked → Type 0
IsLast places after up_to None = (s : ℕ) → after < s → s ≤ up_to → places s ≡ None
IsLast places after up_to (Some m) =
    (after < m.sync) × (m.sync ≤ up_to) × (places m.sync ≡ Some m.mark) × ((s : ℕ) → m.sync < s → s ≤ up_to → places s ≡ None)

-- the first choice where there is one, else the other
abbrev pub seq_or : Option ℕ → Option ℕ → Option ℕ
seq_or None other = other
seq_or (Some seq) other = Some seq

-- the sequence of a write where it has this revision
abbrev pub seq_with : Option Write → ℕ → RevId → Option ℕ
seq_with None seq rev = None
seq_with (Some w) seq rev = if same_rev w.rev rev then Some seq else None

-- the sequence of the first write of a document that has this revision
abbrev pub first_rev : List Entry → List ℕ → RevId → Option ℕ
first_rev [] doc rev = None
first_rev (e ∷ older) doc rev = seq_or (first_rev older doc rev) (seq_with (write_to e doc) (length older + 1) rev)

-- the sequences of the first writes of the revisions of marks
abbrev pub firsts_of : List Entry → List Mark → List (Option ℕ)
firsts_of es marks = map (λ m. first_rev es m.doc m.rev) marks

-- whether it is there and is this sequence
abbrev pub is_seq : Option ℕ → ℕ → Bool
is_seq None seq = false
is_seq (Some n) seq = nat_eq n seq

-- whether one of these is this sequence
abbrev pub has_seq : List (Option ℕ) → ℕ → Bool
has_seq [] seq = false
has_seq (first ∷ firsts) seq = is_seq first seq || has_seq firsts seq

-- the place of the first of these that is this sequence, counted from a number on
abbrev pub seq_place : ℕ → List (Option ℕ) → ℕ → Option ℕ
seq_place n [] seq = None
seq_place n (first ∷ firsts) seq = if is_seq first seq then Some n else seq_place (suc n) firsts seq

-- the marks that a replaced sync function has, where there is one
abbrev pub marks_in : Option SyncEntry → List Mark
marks_in None = []
marks_in (Some sync) = sync.marks

-- the place of the mark that the replacement of a sequence has of the revision whose first write is given
abbrev pub kept_place : List Entry → ℕ → ℕ → Option ℕ
kept_place [] first sync = None
kept_place (e ∷ older) first sync =
    if nat_eq sync (length older + 1) then seq_place 0 (firsts_of older (marks_in (as_sync e))) first
    else kept_place older first sync

-- where documents, revisions and marks stand by the tables is where they stand in these entries, the newest first
pub record HasPlaces (tables : Tables) (es : List Entry) : Type 0 where
  pub count : tables.count ≡ length es
  pub documents : (doc : List ℕ) → get_by_text tables.documents doc ≡ document_at es doc
  pub revisions : (doc : List ℕ) (rev : RevId) → 0 < first_seq es doc
      → seq_in tables.revisions (first_seq es doc) rev ≡ revision_seq es doc rev
  pub unused : (first : ℕ) (rev : RevId) → length es < first
      → seq_in tables.revisions first rev ≡ None
  pub repeats : (seq : ℕ) (w : Write) → write_of es seq ≡ Some w → Some (first_in tables.repeats seq) ≡ first_rev es w.doc w.rev
  pub unwritten : (seq : ℕ) → write_of es seq ≡ None → get nat_cmp tables.repeats seq ≡ None
  pub marks : (first sync : ℕ) → place_at tables.marks first sync ≡ kept_place es first sync

-- the sequence of a document's first write, 0 where it stands nowhere
abbrev pub first_kept : Option Document → ℕ
first_kept None = 0
first_kept (Some document) = document.first

-- the sequence of a document's last write, 0 where it stands nowhere
abbrev pub last_kept : Option Document → ℕ
last_kept None = 0
last_kept (Some document) = document.last

-- the sequence of the write of a document's winner, 0 where it stands nowhere
abbrev pub winning_kept : Option Document → ℕ
winning_kept None = 0
winning_kept (Some document) = document.winning

-- what is kept of an entry that is no write
abbrev pub no_places : EntryPlaces
no_places = record { first = 0; before = 0; next = 0; winning = 0 }

-- what is kept of the entry of a sequence; of one that is not there, that of no write
abbrev pub kept_at : List EntryPlaces → ℕ → EntryPlaces
kept_at list zero = no_places
kept_at list (suc place) = unwrap_or (slice_get list place) no_places

-- where a document stood right behind the entry of a sequence, by what is kept of the entry
abbrev pub behind_by : EntryPlaces → ℕ → Option Document
behind_by places seq =
    if nat_eq places.first 0 then None
    else Some (record { first = places.first; last = seq; winning = places.winning })

-- what is to be kept of an entry, by where its document stood before it and right behind it
abbrev pub places_by : Option Document → Option Document → Option ℕ → EntryPlaces
places_by before after next =
    record { first = first_kept after; before = last_kept before; next = unwrap_or next 0; winning = winning_kept after }

-- what is kept of each entry is what is to be kept of it
pub record KeepsPlaces (list : List EntryPlaces) (es : List Entry) : Type 0 where
  pub count : length list ≡ length es
  pub each : (seq : ℕ) → kept_at list seq ≡ places_by (before_at es seq) (after_at es seq) (next_at es seq)
