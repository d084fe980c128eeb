use Rattle.doc_board.specs.Boards.{board_of}
use Rattle.board_steps.specs.Asks.{AskedAt}
use Rattle.write_path.proofs.OneRead.{one_read, answers_it}
use Rattle.write_path.proofs.solo.SoloGroundGround.ask.Goals as goal

pub returns-clause-reads : goal.returns-clause-reads
returns-clause-reads c = rw (← c.self.view_is) (one_read _ _ (board_of c.self.inside.shelf.board) c.add.ensures c.self.invariant.0)

pub returns-clause-answer : goal.returns-clause-answer
returns-clause-answer c =
    rw (← c.self.view_is)
    (answers_it (λ b asked. AskedAt b c.args.offers.now asked) _ _ (board_of c.self.inside.shelf.board) c.ask.result c.add.ensures c.ask.ensures)
