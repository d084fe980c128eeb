-- Entries that stand in a board.
use Rattle.std.specs.Prelude.{◌≡◌, List, [], ◌∷◌, Some}
use Rattle.sg_history.specs.declared.book.Waiting.{Waiting}
use Rattle.sg_history.specs.Board.{BoardState, board_book}

-- the board has each of these entries at its number
abbrev pub HasAll : BoardState → List Waiting → Type 0
HasAll board [] = Unit {0}
HasAll board (first ∷ others) = (board_book board first.number ≡ Some first.entry) × HasAll board others
