-- A board as plain data: its log, the entries that wait, its outstanding rooms and its checkpoints; and what a board says of a document.
use Rattle.std.specs.Prelude.{ℕ, ◌+◌, max, List, [], ◌∷◌, length, Option, Some, None}
use Rattle.sg_history.specs.declared.book.Waiting.{Waiting}
use Rattle.sg_history.specs.declared.entries.Entry.{Entry}
use Rattle.sg_history.specs.declared.entries.Write.{Write}
use Rattle.sg_history.specs.declared.room.RoomFor.{RoomFor}
use Rattle.sg_history.specs.Board.{BoardState, board_book}
use Rattle.sg_history.specs.History.{as_write}
use Rattle.rev_tree.specs.declared.tree.Node.{Node}
use Rattle.rev_tree.specs.Documents.{tree_in, last_in}
use Rattle.doc_board.specs.State.{State, highest}

-- ---- a board as plain data

-- how many bytes the body of a write has, where there is one
abbrev pub body_size : Option Write → ℕ
body_size None = 0
body_size (Some w) = length w.body

-- the bytes of all bodies of a log
abbrev pub bytes_stored : List Entry → ℕ
bytes_stored [] = 0
bytes_stored (e ∷ es) = body_size (as_write e) + bytes_stored es

-- the bytes that rooms were made for
abbrev pub bytes_asked : List RoomFor → ℕ
bytes_asked [] = 0
bytes_asked (room ∷ rooms) = room.bytes + bytes_asked rooms

-- the bytes of all bodies of entries that wait
abbrev pub bytes_waiting : List Waiting → ℕ
bytes_waiting [] = 0
bytes_waiting (first ∷ others) = body_size (as_write first.entry) + bytes_waiting others

-- the bytes of all bodies of a board, and those that its rooms were made for
abbrev pub bytes_on : State → ℕ
bytes_on s = bytes_stored s.log + bytes_waiting s.pending + bytes_asked s.rooms

-- the board of a log with the entries that wait, the rooms that are outstanding, and the checkpoints as its side map; it has no limit of revisions, and no fault is counted
abbrev pub board_of : State → BoardState
board_of s = record { limit = None; log = s.log; pending = s.pending; rooms = s.rooms; bytes = bytes_on s; side = s.checkpoints; faults = 0 }

-- ---- what a board says of a document

-- the greatest number at which a board has an entry
abbrev pub board_top : BoardState → ℕ
board_top board = max (length board.log) (highest board.pending)

-- the number of the last write of a document in a board's book, 0 where there is none
abbrev pub board_last : BoardState → List ℕ → ℕ
board_last board doc = last_in (board_book board) (board_top board) doc

-- the tree of a document in a board's book, up to the number of its last write
abbrev pub board_tree : BoardState → List ℕ → List Node
board_tree board doc = tree_in (board_book board) (board_last board doc) doc
