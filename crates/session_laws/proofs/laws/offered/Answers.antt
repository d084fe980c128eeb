use Rattle.session_laws.proofs.Sessions.{offered_whole}
use Rattle.session_laws.proofs.laws.offered.Goals as goal

pub returns : goal.returns
returns c = offered_whole c.feeds.ensures c.order.ensures.rising c.order.ensures.fronts c.answers.ensures.rise c.sessions.ensures.right
