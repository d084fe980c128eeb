use Rattle.std.proofs.Common.{◌≡◌}
use Rattle.channel_cache.specs.Stands.{StandsFor}
use Rattle.bench_histories.proofs.lists.ask_times.Given as goal

abbrev pub invariant-loop : goal.invariant-loop
invariant-loop l = record { stands : StandsFor l.lists l.log.entries; log : l.log.entries ≡ l.initial.log.entries }
