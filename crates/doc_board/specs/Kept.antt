-- what a board keeps beside its log
use Rattle.std.specs.Prelude.{◌≡◌, ◌≤◌, ◌<◌, ◌+◌, ◌*◌, ℕ, zero, suc, min, Bool, false, true, ◌&&◌, ◌||◌, not, List, [], map, length, is_some, Option, Some, None, IsTrue, MatchOption, nat_eq, nat_lt, if◌then◌else◌}
use Rattle.std.specs.BTreeMap.{BTreeMap, get_by_text}
use Rattle.std.specs.List.{list_all}
use Rattle.std.specs.Str.{bytes_eq}
use Rattle.std.specs.Global.{Global}
use Rattle.std.specs.Prelude.{String}
use Rattle.sg_history.specs.declared.entries.Entry.{Entry}
use Rattle.sg_history.specs.EntryList as entries
use Rattle.sg_history.specs.declared.book.Waiting.{Waiting}
use Rattle.sg_history.specs.declared.entries.Write.{Write}
use Rattle.sg_history.specs.Book.{Book, book_with, waiting_at, writes_up_to, first_write, first_of_rev}
use Rattle.sg_history.specs.Current.{Sequenced}
use Rattle.sg_history.specs.History.{as_write, is_sync}
use Rattle.sg_history.specs.Journal.{IsEntry, falls_from}
use Rattle.sg_names.specs.declared.rev_id.RevId.{RevId}
use Rattle.sg_names.specs.RevId.{same_rev}
use Rattle.pending_front.specs.Pending.{Reserved, AreBeyond}
use Rattle.rev_tree.specs.declared.tree.Node.{Node}
use Rattle.rev_tree.specs.Writes.{AreAccepted, tree_of}
use Rattle.doc_board.specs.declared.document.Document.{Document}
use Rattle.sg_history.specs.declared.room.RoomFor.{RoomFor}
use Rattle.doc_board.specs.Boards.{bytes_stored, bytes_waiting}
use Rattle.doc_board.specs.Recorded.{FollowsTree, HasDocument}
use Rattle.rev_tree.specs.Documents.{recorded, sequence_of, writes_in, writes_of, tree_at, last_at}

-- what is to be kept of a document after these entries, the newest first
abbrev pub document_at : List Entry → List ℕ → Document
document_at es doc = record { last = last_at es doc; tree = tree_at es doc }

-- each document that has a place is kept there, and one without a place was never written
abbrev pub AreKept : List Entry → BTreeMap (String Global) Document → Type 0
AreKept es documents = (doc : List ℕ) → MatchOption (get_by_text documents doc) (writes_of es doc ≡ []) (λ kept. kept ≡ document_at es doc)

-- whether there is a place for the document, or none is needed
abbrev pub has_place : BTreeMap (String Global) Document → Option (List ℕ) → Bool
has_place documents None = true
has_place documents (Some doc) = is_some (get_by_text documents doc)

-- a document that was never written
abbrev pub blank : Document
blank = record { last = 0; tree = [] }

abbrev pub or_blank : Option Document → Document
or_blank None = blank
or_blank (Some kept) = kept

-- what is found under a name once a place was made for a document, or for none
abbrev pub placed : Option (List ℕ) → BTreeMap (String Global) Document → List ℕ → Option Document
placed None documents name = get_by_text documents name
placed (Some doc) documents name = if bytes_eq doc name then Some (or_blank (get_by_text documents doc)) else get_by_text documents name

-- the sequence of the last write, 0 where there is none
abbrev pub kept_last : Option Document → ℕ
kept_last None = 0
kept_last (Some kept) = kept.last

-- the tree, where there is one of a document that was written
abbrev pub kept_tree : Option Document → Option (List Node)
kept_tree None = None
kept_tree (Some kept) = if nat_eq kept.last 0 then None else Some kept.tree

-- the revisions of the tree, none where there is no document
abbrev pub kept_nodes : Option Document → List Node
kept_nodes None = []
kept_nodes (Some kept) = kept.tree

-- ---- what is kept of a board's book

-- the tree of these writes, the last one first
abbrev pub trees_by : List Sequenced → List Node
trees_by ws = tree_of (map (λ written. recorded written.write) ws)

-- what is to be kept of a document with these writes, the last one first
abbrev pub document_with : List Sequenced → Document
document_with ws = record { last = sequence_of (first_write ws); tree = trees_by ws }

-- each document that has a place is kept there, by the writes that it has, and one without a place has none
abbrev pub AreKeptBy : (List ℕ → List Sequenced) → BTreeMap (String Global) Document → Type 0
AreKeptBy writes documents = (doc : List ℕ) → MatchOption (get_by_text documents doc) (writes doc ≡ []) (λ kept. kept ≡ document_with (writes doc))

-- the writes of a document in a book below a number, the last one first
abbrev pub below : Book → ℕ → List ℕ → List Sequenced
below book zero doc = []
below book (suc number) doc = writes_up_to book number doc

-- whether one of these writes has the revision
abbrev pub is_written_by : List Sequenced → RevId → Bool
is_written_by ws rev = is_some (first_of_rev ws rev)

-- a write at a number follows the rules of a journal after these writes of its document: its revision is new, its history falls, it was judged before that number, and its winner was written
abbrev pub follows_writes : List Sequenced → ℕ → Write → Bool
follows_writes ws number w =
    not (is_written_by ws w.rev) && falls_from w.rev.generation w.ancestors && nat_lt w.at number
    && (same_rev w.winner w.rev || is_written_by ws w.winner)

-- a write at a number of a book, where there is one: its body is a document, it follows the rules after the writes of its document below, and the tree of those accepts it
abbrev pub IsRightBy : Book → ℕ → Option Write → Type 0
IsRightBy book number None = Unit {0}
IsRightBy book number (Some w) = HasDocument w.body × IsTrue (follows_writes (below book number w.doc) number w) × FollowsTree (trees_by (below book number w.doc)) w

-- each entry of a book is in its grammar, right where it is a write, and replaces no sync function
abbrev pub AreRight : Book → Type 0
AreRight book = (number : ℕ) (e : Entry) → book number ≡ Some e → IsEntry e × IsRightBy book number (as_write e) × (is_sync e ≡ false)

-- no entry stands above a number
abbrev pub HasNoneAbove : Book → ℕ → Type 0
HasNoneAbove book top = (number : ℕ) → top < number → book number ≡ None

-- a board keeps each document of its book; each write of a document was an accepted extension of the tree of those before it; and each entry is right
pub record IsKept (book : Book) (places : BTreeMap (String Global) Document) : Type 0 where
  pub documents : (top : ℕ) → HasNoneAbove book top → AreKeptBy (writes_up_to book top) places
  pub accepted : (top : ℕ) → HasNoneAbove book top → (doc : List ℕ) → AreAccepted (writes_in book top doc)
  pub right : AreRight book

-- of each write that waits the number is kept of its document's write before it, 0 where there is none
abbrev pub AreBases : Book → List Waiting → (ℕ → Option ℕ) → Type 0
AreBases book waiting bases =
    (number : ℕ) (e : Entry) (w : Write) → 1 ≤ number → waiting_at waiting number ≡ Some e → as_write e ≡ Some w → bases number ≡ Some (sequence_of (first_write (below book number w.doc)))

-- a number, or the greatest that is kept as 64 bits
abbrev pub capped : ℕ → ℕ
capped n = min n 18446744073709551615

-- what a board keeps, with so many places beside two for each room that is outstanding: no entry waits at a place of the log; each room has the place of its document; there are places among the entries that wait, in the log and among the bases; and the bytes of all bodies are counted
pub record IsStanding (log : entries.EntryList) (pending : Reserved) (places : BTreeMap (String Global) Document) (bases : ℕ → Option ℕ) (base_spare : ℕ) (rooms : List RoomFor) (stored more : ℕ) : Type 0 where
  pub kept : IsKept (book_with log.list pending.waiting) places
  pub beyond : AreBeyond log.list pending.waiting
  pub based : AreBases (book_with log.list pending.waiting) pending.waiting bases
  pub out : list_all (λ r. has_place places r.doc) rooms ≡ true
  pub room_waiting : 2 * length rooms + more ≤ pending.spare
  pub room_log : length pending.waiting + 2 * length rooms + more ≤ log.spare
  pub room_bases : 2 * length rooms + more ≤ base_spare
  pub limit : length pending.waiting + 2 * length rooms + more ≤ 20000
  pub bytes : stored ≡ capped (bytes_stored log.list + bytes_waiting pending.waiting)

-- besides, no entry waits next to the log's end
pub record IsBoard (log : entries.EntryList) (pending : Reserved) (places : BTreeMap (String Global) Document) (bases : ℕ → Option ℕ) (base_spare : ℕ) (rooms : List RoomFor) (stored : ℕ) : Type 0 where
  pub standing : IsStanding log pending places bases base_spare rooms stored 0
  pub next : waiting_at pending.waiting (length log.list + 1) ≡ None
