-- What a read of a board answers for offers.
use Rattle.std.specs.Prelude.{◌≡◌, List, length, map}
use Rattle.sg_history.specs.Board.{BoardState}
use Rattle.repl_messages.specs.declared.offers.Asked.{Asked}
use Rattle.repl_messages.specs.declared.offers.Offer.{Offer}
use Rattle.doc_board.specs.Boards.{board_tree}
use Rattle.doc_board.specs.Offers.{offer_answer}

-- the front is the length of the board's log, and each offer has its answer by the tree of its document in the board's book, in their order
pub record AskedAt (board : BoardState) (offers : List Offer) (asked : Asked) : Type 0 where
  pub front : asked.front ≡ length board.log
  pub answers : asked.answers ≡ map (λ offer. offer_answer (board_tree board offer.doc) offer) offers
