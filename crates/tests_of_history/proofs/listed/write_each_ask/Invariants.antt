use Rattle.std.proofs.Common.{length}
use Rattle.channel_cache.specs.Stands.{IndexesTo, StandsFor}
use Rattle.tests_of_history.proofs.listed.write_each_ask.Given as goal

abbrev pub invariant-loop-ask : goal.invariant-loop-ask
invariant-loop-ask l =
    record { stands : StandsFor l.lists l.reads.entries; index : IndexesTo l.index l.reads.entries (length l.reads.entries) }
