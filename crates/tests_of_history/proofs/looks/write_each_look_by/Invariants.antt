use Rattle.changes_feed.specs.Feeds.{FeedsStandFor}
use Rattle.grant_history.specs.Stands.{StandsFor}
use Rattle.tests_of_history.proofs.looks.write_each_look_by.Given as goal

abbrev pub invariant-loop-look : goal.invariant-loop-look
invariant-loop-look l = record { feeds : FeedsStandFor l.feeds l.reads.entries; grants : StandsFor l.grants l.reads.entries }
