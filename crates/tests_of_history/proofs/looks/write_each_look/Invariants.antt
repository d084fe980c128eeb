use Rattle.changes_feed.specs.Feeds.{FeedsStandFor}
use Rattle.tests_of_history.proofs.looks.write_each_look.Given as goal

abbrev pub invariant-loop-look : goal.invariant-loop-look
invariant-loop-look l = FeedsStandFor l.feeds l.reads.entries
