use Rattle.std.proofs.Common.{◌≡◌, ◌++◌, length}
use Rattle.session_core.specs.Acts.{flagged_rows}
use Rattle.session_core.proofs.bodies.choose.Given as goal

abbrev pub decreases-loop-rows : goal.decreases-loop-rows
decreases-loop-rows l = length l.rows

abbrev pub invariant-loop-rows : goal.invariant-loop-rows
invariant-loop-rows l = l.some ++ flagged_rows l.rows l.flags ≡ flagged_rows l.fn.rows l.fn.flags
