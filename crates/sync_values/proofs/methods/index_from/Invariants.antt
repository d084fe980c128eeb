use Rattle.std.proofs.Common.{◌≡◌, ◌+◌, length}
use Rattle.sync_values.specs.Values.{index_from}
use Rattle.sync_values.proofs.methods.index_from.Given as goal

abbrev pub invariant-loop-left : goal.invariant-loop-left
invariant-loop-left l = (index_from l.at l.fn.value l.left ≡ index_from 0 l.fn.value l.fn.values) × (l.at + length l.left ≡ length l.fn.values)

abbrev pub decreases-loop-left : goal.decreases-loop-left
decreases-loop-left l = length l.left
