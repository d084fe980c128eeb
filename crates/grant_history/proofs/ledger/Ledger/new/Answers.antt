use Rattle.grant_history.proofs.Keeping.{kept_nothing}
use Rattle.grant_history.proofs.ledger.Ledger.new.Goals as goal

pub returns-clause-kept : goal.returns-clause-kept
returns-clause-kept c =
    kept_nothing (record { store = c.new.result; documents = c.new-2.result; users = c.new-3.result; roles = c.new-4.result }) c.new-2.ensures.empty c.new-3.ensures.empty c.new-4.ensures.empty c.new.ensures.counts c.new.ensures.up_to
