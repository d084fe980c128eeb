use Rattle.std.proofs.Common.{◌≡◌, [], length}
use Rattle.sync_meaning.specs.inner.Arguments.{texts}
use Rattle.sync_meaning.specs.Builtins.{texts_from}
use Rattle.sync_meaning.proofs.arguments.texts_of.Given as goal

abbrev pub invariant-loop-left : goal.invariant-loop-left
invariant-loop-left l = texts_from (texts l.found.items) l.left ≡ texts_from [] l.fn.values

abbrev pub decreases-loop-left : goal.decreases-loop-left
decreases-loop-left l = length l.left
