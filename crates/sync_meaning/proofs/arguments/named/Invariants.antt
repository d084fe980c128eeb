use Rattle.std.proofs.Common.{◌≡◌, [], length}
use Rattle.sync_meaning.specs.inner.Arguments.{texts, part, admits}
use Rattle.sync_meaning.specs.Builtins.{named_from}
use Rattle.sync_meaning.proofs.arguments.named.Given as goal

abbrev pub invariant-loop-left : goal.invariant-loop-left
invariant-loop-left l =
    named_from l.fn.place (part l.fn.kind) (admits l.fn.kind) (texts l.found.items) (texts l.left)
    ≡ named_from l.fn.place (part l.fn.kind) (admits l.fn.kind) [] (texts l.fn.all)

abbrev pub decreases-loop-left : goal.decreases-loop-left
decreases-loop-left l = length l.left
