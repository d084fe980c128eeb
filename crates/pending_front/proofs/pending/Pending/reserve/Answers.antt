use Rattle.std.proofs.Common.{◌∙◌, ap}
use Rattle.pending_front.specs.Pending.{Reserved}
use Rattle.pending_front.proofs.Numbered.{same_rises, same_waits}
use Rattle.pending_front.proofs.pending.Pending.reserve.Goals as goal

pub invariant_of-self : goal.invariant_of-self
invariant_of-self c =
    same_rises c.self.inside.held.entries c.reserve.new.self.entries c.reserve.ensures.entries.0 c.reserve.ensures.entries.2 c.self.invariant

pub returns-clause-waiting : goal.returns-clause-waiting
returns-clause-waiting c =
    same_waits c.self.inside.held.entries c.reserve.new.self.entries c.reserve.ensures.entries.0 c.reserve.ensures.entries.2 c.self.invariant
    ∙ ap (λ (r : Reserved). r.waiting) c.self.view_is
