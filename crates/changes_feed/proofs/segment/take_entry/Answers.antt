use Rattle.std.proofs.Common.{◌∙◌, sym, arith}
use Rattle.changes_feed.proofs.segment.take_entry.Goals as goal

pub take_other-requires-clause-other : goal.take_other-requires-clause-other
take_other-requires-clause-other c = sym c.after.ensures ∙ c.in-None.is

pub take_write-requires-clause-after : goal.take_write-requires-clause-after
take_write-requires-clause-after c = sym c.after.ensures ∙ c.in-Some.is

pub returns-in-Some-clause-reads : goal.returns-in-Some-clause-reads
returns-in-Some-clause-reads c = omega (arith, c.take_write.ensures.reads, c.requires.low, c.requires.high)
