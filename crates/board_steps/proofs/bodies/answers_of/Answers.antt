use Rattle.std.proofs.Common.{arith}
use Rattle.board_steps.proofs.AllRows.{one_left}
use Rattle.board_steps.proofs.bodies.answers_of.Goals as goal

pub put_body-requires-clause-viewer : goal.put_body-requires-clause-viewer
put_body-requires-clause-viewer c = λ left.
    c.requires.viewer (one_left c.args.rows.now c.loop-row.row-index c.row-item.result (omega arith) c.row-item.is left)
