use Rattle.session_run.proofs.Owning.{own_bodies}
use Rattle.session_run.proofs.laws.own_bodies.Goals as goal

pub returns : goal.returns
returns c = own_bodies c.conduct.ensures.wants c.no_foreign_body.ensures.shown c.no_foreign_body.ensures.winner c.removals.ensures.gone
