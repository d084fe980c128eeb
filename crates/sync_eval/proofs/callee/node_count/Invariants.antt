use Rattle.std.proofs.Common.{◌≡◌, ◌+◌, ◌≤◌, length}
use Rattle.sync_meaning.specs.Expressions.{node_count}
use Rattle.sync_code.specs.Code.{tail_sources}
use Rattle.sync_eval.proofs.callee.node_count.Given as goal

abbrev pub invariant-loop-left : goal.invariant-loop-left
invariant-loop-left l = (l.count + node_count l.fn.behind (tail_sources l.left) ≡ node_count l.fn.behind (tail_sources l.fn.suffixes)) × (l.count + length l.left ≤ length l.fn.suffixes)

abbrev pub decreases-loop-left : goal.decreases-loop-left
decreases-loop-left l = length l.left
