use Rattle.std.proofs.Common.{◌≡◌, [], length}
use Rattle.sync_meaning.specs.inner.Arguments.{texts}
use Rattle.sync_meaning.specs.Builtins.{all_channels}
use Rattle.sync_meaning.proofs.arguments.all_given.Given as goal

abbrev pub invariant-loop-left : goal.invariant-loop-left
invariant-loop-left l = all_channels l.fn.place (texts l.found.items) l.left ≡ all_channels l.fn.place [] l.fn.values

abbrev pub decreases-loop-left : goal.decreases-loop-left
decreases-loop-left l = length l.left
