use Rattle.std.proofs.Common.{◌∙◌, arith}
use Rattle.grant_history.proofs.whole.ledger_of.Goals as goal

pub take_at-requires-clause-written : goal.take_at-requires-clause-written
take_at-requires-clause-written c = c.written.ensures ∙ c.requires.written c.loop-i.i (omega arith)

pub take_at-requires-clause-marked : goal.take_at-requires-clause-marked
take_at-requires-clause-marked c = c.marked.ensures ∙ c.requires.marked c.loop-i.i (omega arith)
