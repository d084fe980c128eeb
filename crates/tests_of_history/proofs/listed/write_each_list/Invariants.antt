use Rattle.channel_cache.specs.Stands.{CachedOf}
use Rattle.tests_of_history.proofs.listed.write_each_list.Given as goal

abbrev pub invariant-loop-ask : goal.invariant-loop-ask
invariant-loop-ask l = CachedOf l.caches l.reads.entries
