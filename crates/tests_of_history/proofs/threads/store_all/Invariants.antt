use Rattle.std.proofs.Common.{◌≡◌, ◌≤◌, ◌+◌}
use Rattle.seq_gate.specs.Passes.{share}
use Rattle.tests_of_history.specs.inner.Passes.{HoldsNothing}
use Rattle.tests_of_history.proofs.threads.store_all.Given as goal

abbrev pub invariant-loop-number : goal.invariant-loop-number
invariant-loop-number g l =
    record { gate : l.pass.gate ≡ l.fn.pass.gate; left : 1000 ≤ l.pass.knows.left + l.number; nothing : HoldsNothing l.pass.knows (share l.fn.pass.knows) }
