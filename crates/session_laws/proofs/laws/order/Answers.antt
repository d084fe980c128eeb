use Rattle.session_laws.proofs.Resuming.{rows_rise, looks_rise}
use Rattle.session_laws.proofs.laws.order.Goals as goal

pub returns-clause-rising : goal.returns-clause-rising
returns-clause-rising c = rows_rise c.members.ensures.exact c.order.ensures.rising c.order.ensures.plain_keys

pub returns-clause-fronts : goal.returns-clause-fronts
returns-clause-fronts c = looks_rise
