-- A plain board as data, where an entry may be stored there, and what storing it makes of the board.
use Rattle.std.specs.Prelude.{◌≡◌, ◌≢◌, ◌+◌, ℕ, List, [], length, Some, None, IsTrue}
use Rattle.sg_history.specs.declared.book.Waiting.{Waiting}
use Rattle.sg_history.specs.declared.entries.Entry.{Entry}
use Rattle.sg_history.specs.Board.{BoardState, board_book, After}
use Rattle.sg_history.specs.Book.{IsAbove}
use Rattle.sg_history.specs.World.{rises_from}
use Rattle.pending_front.specs.Storing.{MayStore}

-- a board of a log and of entries that wait: it has no limit, no rooms and no side map, counts neither bytes nor faults
abbrev pub board_with : List Entry → List Waiting → BoardState
board_with log waiting = record { limit = None; log = log; pending = waiting; rooms = []; bytes = 0; side = []; faults = 0 }

-- an entry can be stored at a number: the board has none there, the entry stands above each to which it is tied, and
-- entries wait by rising numbers, none of which comes next
pub record CanStore (board : BoardState) (number : ℕ) (e : Entry) : Type 0 where
  pub free : MayStore board.log board.pending number
  pub above : IsAbove (board_book board) number e
  pub waiting : IsTrue (rises_from (length board.log + 1) board.pending)

-- an entry is stored at a number: the board that is left comes after the one found, has the entry there and what that had
-- elsewhere, and entries wait by rising numbers, none of which comes next
pub record Stores (found : BoardState) (number : ℕ) (e : Entry) (left : BoardState) : Type 0 where
  pub after : After found left
  pub here : board_book left number ≡ Some e
  pub elsewhere : (k : ℕ) → number ≢ k → board_book left k ≡ board_book found k
  pub waiting : IsTrue (rises_from (length left.log + 1) left.pending)
