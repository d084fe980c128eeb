use Rattle.std.proofs.Common.{◌≡◌}
use Rattle.bench_histories.proofs.sharing.WaitingJob.run.Given as goal

abbrev pub invariant-loop : goal.invariant-loop
invariant-loop g l = l.pass.gate ≡ l.gate
