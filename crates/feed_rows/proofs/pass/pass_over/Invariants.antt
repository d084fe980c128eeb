use Rattle.sg_history.specs.History.{past}
use Rattle.feed_rows.specs.PassAt.{PassAt}
use Rattle.feed_rows.proofs.pass.pass_over.Given as goal

abbrev pub invariant-loop-i : goal.invariant-loop-i
invariant-loop-i l = PassAt (past l.entries l.i) l.viewer l.pass
