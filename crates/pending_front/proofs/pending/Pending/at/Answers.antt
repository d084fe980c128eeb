use Rattle.std.proofs.Common.{◌∙◌, sym, ap}
use Rattle.sg_history.specs.Book.{waiting_at}
use Rattle.pending_front.specs.Pending.{Reserved}
use Rattle.pending_front.proofs.Numbered.{held_waits}
use Rattle.pending_front.proofs.pending.Pending.at.Goals as goal

pub returns : goal.returns
returns c =
    c.get.ensures.value
    ∙ sym (held_waits c.args.number c.self.inside.held.entries c.self.invariant)
    ∙ ap (λ (r : Reserved). waiting_at r.waiting c.args.number) c.self.view_is
