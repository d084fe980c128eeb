use Rattle.std.proofs.Common.{◌≡◌, None, length}
use Rattle.sync_resolve.specs.Names.{last_under}
use Rattle.sync_resolve.proofs.scope.last_named.Given as goal

abbrev pub invariant-loop-left : goal.invariant-loop-left
invariant-loop-left l = last_under l.fn.name l.found l.left ≡ last_under l.fn.name None l.fn.seen

abbrev pub decreases-loop-left : goal.decreases-loop-left
decreases-loop-left l = length l.left
