-- What may be stored, and what storing it makes of a board.
use Rattle.std.specs.Prelude.{◌≡◌, ◌≤◌, ◌<◌, ℕ, Bool, false, not, nat_eq, List, length, option_map, Option, Some, None, IsTrue}
use Rattle.sg_history.specs.declared.entries.Entry.{Entry}
use Rattle.sg_history.specs.declared.entries.Entry.TheVariants as entry
use Rattle.sg_history.specs.declared.entries.Write.{Write}
use Rattle.sg_history.specs.declared.number.Number.{Number}
use Rattle.sg_history.specs.History.{is_sync, is_write}
use Rattle.sg_history.specs.Journal.{IsEntry}
use Rattle.json_doc.specs.Tree.{Tree}
use Rattle.json_doc.specs.Reading.{IsDocument}
use Rattle.rev_tree.specs.declared.tree.Node.{Node}
use Rattle.rev_tree.specs.Tree.{winner_of}
use Rattle.rev_tree.specs.Extension.{with_write}
use Rattle.rev_tree.specs.Writes.{is_accepted}
use Rattle.doc_board.specs.declared.candidate.Candidate.{Candidate}
use Rattle.doc_board.specs.declared.candidate.Candidate.TheVariants as candidate
use Rattle.doc_board.specs.declared.candidate.Commit.{Commit}
use Rattle.doc_board.specs.declared.candidate.Commit.TheVariants as commit
use Rattle.doc_board.specs.declared.room.Room.{Room}
use Rattle.sg_history.specs.declared.room.RoomFor.{RoomFor}
use Rattle.rev_tree.specs.Documents.{recorded}
use Rattle.doc_board.specs.State.{State, tree_on, last_on}

-- the entry that is to be stored
abbrev pub entry_of : Candidate → Entry
entry_of (candidate.Write w tree base) = entry.Write w
entry_of (candidate.Plain e) = e

-- the document that it writes, if it is a write
abbrev pub doc_of : Candidate → Option (List ℕ)
doc_of (candidate.Write w tree base) = Some w.doc
doc_of (candidate.Plain e) = None

-- how many bytes its body has
abbrev pub body_bytes : Candidate → ℕ
body_bytes (candidate.Write w tree base) = length w.body
body_bytes (candidate.Plain e) = 0

-- the front at which a write was judged, or the log's length before another entry
abbrev pub made_at : Candidate → ℕ → ℕ
made_at (candidate.Write w tree base) before = w.at
made_at (candidate.Plain e) before = before

-- the tree accepts the write, which has at most 1,000 ancestors, the new tree is the one with it, and the write names that tree's winner
pub record ExtendsTree (before : List Node) (w : Write) (after : List Node) : Type 0 where
  pub accepted : IsTrue (is_accepted before (recorded w))
  pub few : length w.ancestors ≤ 1000
  pub tree : after ≡ with_write before (recorded w)
  pub winner : option_map (λ l. l.rev) (winner_of after) ≡ Some w.winner

-- an entry neither writes a document nor replaces the sync function
abbrev pub IsPlain : Entry → Type 0
IsPlain e = (is_write e ≡ false) × (is_sync e ≡ false)

-- a candidate is in its grammar, its body is a document, it was judged and its document last written before the number at which it is stored, and it extends the tree that its document has where that was not written since
abbrev pub MayBeStored : State → ℕ → Candidate → Type 0
MayBeStored s number (candidate.Write w tree base) =
    IsEntry (entry.Write w) × ((doc : Tree) × IsDocument w.body doc) × (w.at < number) × (base < number) × (base ≡ last_on s w.doc → ExtendsTree (tree_on s w.doc) w tree)
MayBeStored s number (candidate.Plain e) = IsEntry e × IsPlain e

-- the room was made for the candidate's document, or for none, and for at least so many bytes
pub record Fits (room : RoomFor) (c : Candidate) : Type 0 where
  pub doc : room.doc ≡ doc_of c
  pub bytes : body_bytes c ≤ room.bytes

-- whether the document was written since a candidate was made for it
abbrev pub is_stale : State → Candidate → Bool
is_stale s (candidate.Write w tree base) = not (nat_eq base (last_on s w.doc))
is_stale s (candidate.Plain e) = false

-- the sequence of the last write of a candidate's document, 0 where there is none
abbrev pub last_of : State → Candidate → ℕ
last_of s (candidate.Write w tree base) = last_on s w.doc
last_of s (candidate.Plain e) = 0

-- the fact holds of the sequence and the front of what was stored
abbrev pub IfStored : Commit → (ℕ → ℕ → Type 0) → Type 0
IfStored (commit.Stored sequence at) says = says sequence at
IfStored (commit.Stale room number c last) says = Unit {0}

-- the fact holds of what was handed back
abbrev pub IfStale : Commit → (Room → Number → Candidate → ℕ → Type 0) → Type 0
IfStale (commit.Stored sequence at) says = Unit {0}
IfStale (commit.Stale room number c last) says = says room number c last
