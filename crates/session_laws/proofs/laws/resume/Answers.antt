use Rattle.session_laws.proofs.Sessions.{resume_sessions}
use Rattle.session_laws.proofs.laws.resume.Goals as goal

pub returns : goal.returns
returns c =
    resume_sessions c.members.ensures.exact c.order.ensures.rising c.order.ensures.plain_keys c.conduct.ensures.wants c.feeds.ensures
    c.answers.ensures.right c.answers.ensures.rise c.answers.ensures.within
