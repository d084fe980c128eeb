use Rattle.std.proofs.Common.{◌<◌, ℕ, sym, subst}
use Rattle.sg_history.specs.Board.{BoardState, board_book}
use Rattle.seq_gate.specs.Passes.{IsAboveBook}
use Rattle.tests_of_history.specs.inner.Boards.{CanStore}
use Rattle.tests_of_history.proofs.Drawn.{drawn_can}
use Rattle.tests_of_history.proofs.turns.store_new.Goals as goal

pub store_in-stored-requires-clause-can : goal.store_in-stored-requires-clause-can
store_in-stored-requires-clause-can g c =
    let found = c.enter-turn.result.found in
    subst (λ (b : BoardState). CanStore b c.spend-number.result c.args.entry) (sym c.draw.ensures.found)
    (drawn_can c.args.pass.knows found c.spend-number.result c.args.entry c.enter-turn.ensures.finds
    (subst (λ (n : ℕ). 0 < n) (sym c.spend-number.ensures) c.draw.ensures.fresh.least)
    (subst (λ (n : ℕ). IsAboveBook n (board_book found)) (sym c.spend-number.ensures) c.draw.ensures.above))
