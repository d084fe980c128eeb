use Rattle.std.proofs.Common.{length}
use Rattle.sync_meaning.proofs.variables.Variables.release.Given as goal

abbrev pub decreases-loop-value : goal.decreases-loop-value
decreases-loop-value l = length l.left.items
