use Rattle.std.proofs.Common.{◌≡◌, ◌++◌, drop, map}
use Rattle.doc_board.specs.Boards.{board_of, board_tree}
use Rattle.doc_board.specs.Offers.{offer_answer}
use Rattle.board_steps.proofs.ask.asked_at.Given as goal

-- the answers so far and those to what is left are those to all
abbrev pub invariant-loop-offer : goal.invariant-loop-offer
invariant-loop-offer l =
    l.answers ++ map (λ offer. offer_answer (board_tree (board_of l.board) offer.doc) offer) (drop l.offer-index l.offers)
    ≡ map (λ offer. offer_answer (board_tree (board_of l.board) offer.doc) offer) l.offers
