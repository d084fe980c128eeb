-- What the sole owner of a board keeps.
use Rattle.std.specs.Prelude.{◌^◌, List, None}
use Rattle.sg_history.specs.declared.book.Waiting.{Waiting}
use Rattle.sg_history.specs.Board.{BoardState}
use Rattle.doc_board.specs.State.{State}
use Rattle.write_path.specs.Origins.{Origin}

-- the board, the boards that were read, the newest first, and the entries that were stored, with their numbers, the newest first
pub record Solo : Type 0 where
  pub board : State
  pub read : List BoardState
  pub own : List Waiting

-- the sole owner of a board takes its turns at no gate, and has as many draws as a gate has at first
abbrev pub solo_origin : Origin
solo_origin = record { gate = None; draws = 2 ^ 62 }
