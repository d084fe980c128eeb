-- What a look for the bodies of rows answers.
use Rattle.std.specs.Prelude.{◌≡◌, ℕ, List, length, map, reverse}
use Rattle.sg_history.specs.declared.row.Row.{Row}
use Rattle.sg_history.specs.declared.row.Options.{Options}
use Rattle.sg_history.specs.Board.{BoardState}
use Rattle.doc_board.specs.Boards.{board_tree}
use Rattle.repl_messages.specs.declared.looks.Bodies.{Bodies}
use Rattle.repl_messages.specs.Looks.{body_of}

-- the front is the length of the board's log, and each row has its answer by that log, in their order, and by the trees that
-- the documents have in the board's book
pub record BodiesAt (board : BoardState) (user : List ℕ) (options : Options) (rows : List Row) (most : ℕ) (bodies : Bodies) : Type 0 where
  pub front : bodies.front ≡ length board.log
  pub answers : bodies.answers ≡ map (body_of (reverse board.log) (board_tree board) user options.filter most) rows
