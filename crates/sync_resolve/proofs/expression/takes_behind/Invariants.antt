use Rattle.std.proofs.Common.{◌≡◌, map, length}
use Rattle.sync_resolve.specs.Expressions as spec
use Rattle.sync_resolve.specs.Expressions.{said_behind}
use Rattle.sync_resolve.proofs.expression.takes_behind.Given as goal

abbrev pub invariant-loop-left : goal.invariant-loop-left
invariant-loop-left l = spec.takes_behind l.array l.found (map said_behind l.left) ≡ spec.takes_behind l.fn.is_array l.fn.first (map said_behind l.fn.suffixes)

abbrev pub decreases-loop-left : goal.decreases-loop-left
decreases-loop-left l = length l.left
