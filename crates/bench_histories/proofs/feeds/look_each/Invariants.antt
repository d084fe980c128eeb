use Rattle.std.proofs.Common.{◌≡◌}
use Rattle.changes_feed.specs.Feeds.{FeedsStandFor}
use Rattle.bench_histories.proofs.feeds.look_each.Given as goal

abbrev pub invariant-loop-user : goal.invariant-loop-user
invariant-loop-user g l = record { stands : FeedsStandFor l.feeds l.log.entries; log : l.log.entries ≡ l.initial.log.entries }
