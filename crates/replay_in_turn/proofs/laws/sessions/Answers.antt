use Rattle.replay_in_turn.proofs.Resumes.{bodies_in, leads_in, own_in, right_in}
use Rattle.replay_in_turn.proofs.laws.sessions.Goals as goal

pub returns-clause-leads : goal.returns-clause-leads
returns-clause-leads c = leads_in c.sessions.ensures.leads

pub returns-clause-right : goal.returns-clause-right
returns-clause-right c = right_in c.sessions.ensures.right

pub returns-clause-own_bodies : goal.returns-clause-own_bodies
returns-clause-own_bodies c = bodies_in c.sessions.ensures.own_bodies

pub returns-clause-own : goal.returns-clause-own
returns-clause-own c = own_in c.sessions.ensures.own
