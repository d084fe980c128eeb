use Rattle.session_laws.proofs.Opening.{none_while_open, one_at_most, replies_wanted}
use Rattle.session_laws.proofs.batches.one_open.Goals as goal

pub returns-clause-waits : goal.returns-clause-waits
returns-clause-waits c = none_while_open

pub returns-clause-one : goal.returns-clause-one
returns-clause-one c = one_at_most

pub returns-clause-replies : goal.returns-clause-replies
returns-clause-replies c = replies_wanted c.conduct.ensures.kept
