use Rattle.std.proofs.Common.{◌≡◌}
use Rattle.changes_feed.specs.Feeds.{FeedsStandFor}
use Rattle.bench_histories.proofs.feeds.look_on.Given as goal

abbrev pub invariant-loop-place : goal.invariant-loop-place
invariant-loop-place g l = record { stands : FeedsStandFor l.feeds l.log.entries; log : l.log.entries ≡ l.initial.log.entries }
