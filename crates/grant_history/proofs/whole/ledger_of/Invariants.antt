use Rattle.grant_history.specs.LedgerAt.{LedgerAt}
use Rattle.grant_history.proofs.whole.ledger_of.Given as goal

-- the entries up to here are applied
abbrev pub invariant-loop-i : goal.invariant-loop-i
invariant-loop-i l = LedgerAt l.ledger l.entries l.i
