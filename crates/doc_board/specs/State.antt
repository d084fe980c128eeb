-- What a board is: the history that it keeps, the entries that wait, the rooms that are outstanding and the checkpoints; and what its book says of a document.
use Rattle.std.specs.Prelude.{ℕ, List, [], ◌∷◌, length, max, reverse, Option}
use Rattle.sg_names.specs.declared.rev_id.RevId.{RevId}
use Rattle.sg_history.specs.declared.book.Waiting.{Waiting}
use Rattle.sg_history.specs.declared.entries.Entry.{Entry}
use Rattle.sg_history.specs.declared.entries.Write.{Write}
use Rattle.sg_history.specs.declared.room.RoomFor.{RoomFor}
use Rattle.sg_history.specs.Board.{SideEntry}
use Rattle.sg_history.specs.Book.{Book, book_with}
use Rattle.rev_tree.specs.declared.tree.Node.{Node}
use Rattle.rev_tree.specs.Extension.{Recorded}
use Rattle.rev_tree.specs.Documents.{writes_in, tree_in, last_in, base_in}

-- all entries of the log, those that wait by rising numbers, the rooms that are outstanding, and the checkpoints; up to which place of the log its grants are known, and how many entries were read for them
pub record State : Type 0 where
  pub log : List Entry
  pub pending : List Waiting
  pub rooms : List RoomFor
  pub checkpoints : List SideEntry
  pub known : ℕ
  pub reads : ℕ

-- all entries of the log, the newest first
abbrev pub newest_first : State → List Entry
newest_first s = reverse s.log

-- the greatest number of entries that wait
abbrev pub highest : List Waiting → ℕ
highest [] = 0
highest (first ∷ others) = max first.number (highest others)

-- the board's book
abbrev pub book_on : State → Book
book_on s = book_with s.log s.pending

-- the greatest number of a log and of entries that wait
abbrev pub top_of : List Entry → List Waiting → ℕ
top_of log waiting = max (length log) (highest waiting)

-- the greatest number at which the board has an entry
abbrev pub top_on : State → ℕ
top_on s = top_of s.log s.pending

-- the writes of a document in the board's book, the last one first
abbrev pub writes_on : State → List ℕ → List Recorded
writes_on s doc = writes_in (book_on s) (top_on s) doc

-- the tree of a document in the board's book
abbrev pub tree_on : State → List ℕ → List Node
tree_on s doc = tree_in (book_on s) (top_on s) doc

-- the number of the last write of a document in the board's book, 0 where there is none
abbrev pub last_on : State → List ℕ → ℕ
last_on s doc = last_in (book_on s) (top_on s) doc

-- the write in the board's book on which a revision with these ancestors is based, if there is one
abbrev pub base_on : State → List ℕ → List RevId → Option Write
base_on s doc ancestors = base_in (book_on s) (top_on s) doc ancestors
