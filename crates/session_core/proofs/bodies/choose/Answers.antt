use Rattle.session_core.specs.Acts.{flagged_rows}
use Rattle.session_core.proofs.Chosen.{chosen_part}
use Rattle.session_core.proofs.bodies.choose.Goals as goal

pub returns-in_default-flags-clause-bound : goal.returns-in_default-flags-clause-bound
returns-in_default-flags-clause-bound c =
    chosen_part c.loop-rows.some (flagged_rows c.loop-rows.rows.now c.loop-rows.flags.now) c.args.rows.now c.args.flags.now c.loop-rows.invariant

pub returns-clause-bound : goal.returns-clause-bound
returns-clause-bound c =
    chosen_part c.loop-rows.some (flagged_rows c.loop-rows.rows.now c.loop-rows.flags.now) c.args.rows.now c.args.flags.now c.loop-rows.invariant
