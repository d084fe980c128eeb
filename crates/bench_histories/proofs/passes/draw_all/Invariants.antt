use Rattle.std.proofs.Common.{◌≡◌, ◌≤◌, ◌+◌}
use Rattle.bench_histories.proofs.passes.draw_all.Given as goal

abbrev pub invariant-loop : goal.invariant-loop
invariant-loop l = record { gate : l.pass.gate ≡ l.gate; left : l.count ≤ l.pass.knows.left + l.counter }
