use Rattle.std.proofs.Common.{subst}
use Rattle.std.specs.Prelude.{IfOk}
use Rattle.sg_history.specs.Board.{BoardState}
use Rattle.board_steps.specs.Bodies.{BodiesAt}
use Rattle.board_steps.proofs.BoardBodies.{at_board}
use Rattle.board_steps.proofs.bodies.bodies_at.Goals as goal

pub returns-clause-answer : goal.returns-clause-answer
returns-clause-answer c =
    let s = c.args.board.now in
    let t = c.apply_grants.new.self in
    subst (λ (b : BoardState). IfOk c.bodies_by.result (BodiesAt b c.args.user.now c.args.options.now c.args.rows.now c.args.most))
    (c.after.ensures.looked s t c.apply_grants.ensures.log c.apply_grants.ensures.pending c.apply_grants.ensures.rooms c.apply_grants.ensures.checkpoints)
    (at_board c.boards.ensures.trees t c.args.user.now c.args.options.now c.args.rows.now c.args.most c.bodies_by.result c.bodies_by.ensures.front c.bodies_by.ensures.answers)
