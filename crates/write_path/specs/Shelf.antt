-- What a shelf is to a gate and to every ground.
use Rattle.sg_history.specs.Board.{BoardState}
use Rattle.doc_board.specs.Boards.{board_of}
use Rattle.doc_board.specs.State.{State}
use Rattle.changes_feed.specs.Feeds.{FeedsKept}

-- what contracts see of a shelf
pub record Shelved : Type 0 where
  pub board : State
  pub feeds : FeedsKept

-- a shelf as a gate and the grounds see it: it counted no fault
abbrev pub shelf_state : Shelved → BoardState
shelf_state shelf = board_of shelf.board
