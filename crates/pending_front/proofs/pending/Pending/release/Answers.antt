use Rattle.std.proofs.Common.{ap, subst, sym}
use Rattle.sg_history.specs.History.{Extends}
use Rattle.sg_history.specs.World.{Released}
use Rattle.pending_front.proofs.Releasing.{left_next, left_beyond, left_book, released_log}
use Rattle.pending_front.proofs.pending.Pending.release.Goals as goal

pub returns-clause-log : goal.returns-clause-log
returns-clause-log c = ap (λ (r : Released). r.log) c.move_all.ensures.released

pub returns-clause-waiting : goal.returns-clause-waiting
returns-clause-waiting c = ap (λ (r : Released). r.pending) c.move_all.ensures.released

pub returns-clause-next : goal.returns-clause-next
returns-clause-next c = left_next _ _ _ _ c.move_all.ensures.released c.move_all.ensures.rises c.requires.beyond

pub returns-clause-beyond : goal.returns-clause-beyond
returns-clause-beyond c = left_beyond _ _ _ _ c.move_all.ensures.released c.move_all.ensures.rises c.requires.beyond

pub returns-clause-book : goal.returns-clause-book
returns-clause-book c = left_book _ _ _ _ c.move_all.ensures.released c.move_all.ensures.rises c.requires.beyond

pub returns-clause-extends : goal.returns-clause-extends
returns-clause-extends c = subst (λ (r : Released). Extends c.args.log.now.entries.list r.log) (sym c.move_all.ensures.released) (released_log c.args.log.now.entries.list c.args.self.now.waiting)
