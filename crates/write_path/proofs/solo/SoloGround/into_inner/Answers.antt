use Rattle.write_path.proofs.OneRead.{history_later}
use Rattle.write_path.proofs.solo.SoloGround.into_inner.Goals as goal

pub returns-clause-later : goal.returns-clause-later
returns-clause-later c = rw (← c.self.view_is) (history_later _ c.self.inside.shelf.board c.self.invariant.3 c.self.invariant.0)
