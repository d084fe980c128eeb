-- A book: which entry stands at which number. The book of a history has the entry at place k at number k; the book of a
-- board has entries that wait besides, above the end of its log.
use Rattle.std.specs.Prelude.{◌≡◌, ◌<◌, ◌≤◌, ℕ, zero, suc, Bool, false, ◌&&◌, ◌||◌, List, [], ◌∷◌, slice_get, nat_eq, Option, Some, None, IsTrue, if◌then◌else◌}
use Rattle.std.specs.Str.{bytes_eq}
use Rattle.sg_names.specs.declared.rev_id.RevId.{RevId}
use Rattle.sg_names.specs.RevId.{same_rev}
use Rattle.sg_history.specs.declared.book.Waiting.{Waiting}
use Rattle.sg_history.specs.declared.entries.Entry.{Entry}
use Rattle.sg_history.specs.declared.entries.Write.{Write}
use Rattle.sg_history.specs.History.{SyncEntry, as_sync, as_write, is_sync, is_write, write_to}
use Rattle.sg_history.specs.Current.{Sequenced, sequenced_before}

-- which entry stands at a number, if one does
abbrev pub Book : Type 0
Book = ℕ → Option Entry

-- the book of a history: entry k at number k
abbrev pub book_of : List Entry → Book
book_of entries zero = None
book_of entries (suc place) = slice_get entries place

-- the entry that waits under a number, if one does
abbrev pub waiting_at : List Waiting → Book
waiting_at [] number = None
waiting_at (first ∷ others) number = if nat_eq first.number number then Some first.entry else waiting_at others number

-- the first entry where there is one, else the other
abbrev pub entry_or : Option Entry → Option Entry → Option Entry
entry_or (Some e) other = Some e
entry_or None other = other

-- the book of a log and of entries that wait: the log at its places, and those at their numbers
abbrev pub book_with : List Entry → List Waiting → Book
book_with log waiting number = entry_or (book_of log number) (waiting_at waiting number)

-- the write of a document that an entry is, where there is an entry and it is one
abbrev pub written_in : Option Entry → List ℕ → Option Write
written_in None doc = None
written_in (Some e) doc = write_to e doc

-- the write of a document that stands at a number of a book, if one does
abbrev pub write_at : Book → List ℕ → ℕ → Option Write
write_at book doc number = written_in (book number) doc

-- the second book has each entry of the first one, at its number
abbrev pub Keeps : Book → Book → Type 0
Keeps earlier later = (number : ℕ) (e : Entry) → earlier number ≡ Some e → later number ≡ Some e

-- whether both are writes of one document
abbrev pub same_written : Option Write → Option Write → Bool
same_written None other = false
same_written (Some w) None = false
same_written (Some w) (Some v) = bytes_eq w.doc v.doc

-- whether two entries are tied: both write one document, or one replaces the sync function and the other is a write or
-- replaces it too
abbrev pub tied : Entry → Entry → Bool
tied a b =
    same_written (as_write a) (as_write b) || (is_sync a && (is_write b || is_sync b)) || (is_write a && is_sync b)

-- an entry at a number stands above each entry of a book to which it is tied
abbrev pub IsAbove : Book → ℕ → Entry → Type 0
IsAbove book number e = (old : ℕ) (other : Entry) → book old ≡ Some other → IsTrue (tied other e) → old < number

-- the second book is later than the first: it has each of its entries at its number, and each entry that the first lacks
-- stands above each entry of the first that is tied to it
pub record Later (earlier later : Book) : Type 0 where
  pub kept : Keeps earlier later
  pub above : (number : ℕ) (e : Entry) → earlier number ≡ None → later number ≡ Some e → IsAbove earlier number e

-- the last write of a document in a book, with its number
pub record IsLastWrite (book : Book) (doc : List ℕ) (last : Sequenced) : Type 0 where
  pub number : 1 ≤ last.seq
  pub there : write_at book doc last.seq ≡ Some last.write
  pub none_above : (number : ℕ) (w : Write) → write_at book doc number ≡ Some w → number ≤ last.seq

-- the writes of a document in a book at the numbers from 1 up to this one, the last one first
abbrev pub writes_up_to : Book → ℕ → List ℕ → List Sequenced
writes_up_to book zero doc = []
writes_up_to book (suc number) doc =
    sequenced_before (write_at book doc (suc number)) (suc number) (writes_up_to book number doc)

-- the first of these writes, if there is one
abbrev pub first_write : List Sequenced → Option Sequenced
first_write [] = None
first_write (written ∷ others) = Some written

-- the first of these writes that has this revision, if one has
abbrev pub first_of_rev : List Sequenced → RevId → Option Sequenced
first_of_rev [] rev = None
first_of_rev (written ∷ others) rev = if same_rev written.write.rev rev then Some written else first_of_rev others rev

-- the last write of a document in a book at numbers up to this one
abbrev pub last_write_up_to : Book → ℕ → List ℕ → Option Sequenced
last_write_up_to book number doc = first_write (writes_up_to book number doc)

-- the write of a document in a book that has this revision, at a number up to this one
abbrev pub write_of_rev_up_to : Book → ℕ → List ℕ → RevId → Option Sequenced
write_of_rev_up_to book number doc rev = first_of_rev (writes_up_to book number doc) rev

-- the replacement of the sync function that an entry is, where there is an entry and it is one
abbrev pub replaced_in : Option Entry → Option SyncEntry
replaced_in None = None
replaced_in (Some e) = as_sync e

-- the replacement that stands at a number of a book, if one does
abbrev pub sync_at : Book → ℕ → Option SyncEntry
sync_at book number = replaced_in (book number)

-- a replacement, with its sequence
pub record SequencedSync : Type 0 where
  pub seq : ℕ
  pub sync : SyncEntry

-- the last replacement in a book, with its number
pub record IsLastSync (book : Book) (last : SequencedSync) : Type 0 where
  pub number : 1 ≤ last.seq
  pub there : sync_at book last.seq ≡ Some last.sync
  pub none_above : (number : ℕ) (sync : SyncEntry) → sync_at book number ≡ Some sync → number ≤ last.seq

-- a replacement with its sequence before older ones, where there is one
abbrev pub sync_before : Option SyncEntry → ℕ → List SequencedSync → List SequencedSync
sync_before None seq older = older
sync_before (Some sync) seq older = record { seq = seq; sync = sync } ∷ older

-- the replacements in a book at the numbers from 1 up to this one, the last one first
abbrev pub syncs_up_to : Book → ℕ → List SequencedSync
syncs_up_to book zero = []
syncs_up_to book (suc number) = sync_before (sync_at book (suc number)) (suc number) (syncs_up_to book number)

-- the first of these replacements, if there is one
abbrev pub first_sync : List SequencedSync → Option SequencedSync
first_sync [] = None
first_sync (replaced ∷ others) = Some replaced

-- the last replacement in a book at numbers up to this one
abbrev pub last_sync_up_to : Book → ℕ → Option SequencedSync
last_sync_up_to book number = first_sync (syncs_up_to book number)
