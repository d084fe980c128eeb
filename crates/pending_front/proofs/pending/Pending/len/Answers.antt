use Rattle.std.proofs.Common.{◌∙◌, sym, ap, length}
use Rattle.pending_front.specs.Pending.{Reserved}
use Rattle.pending_front.proofs.Numbered.{rising_length}
use Rattle.pending_front.proofs.pending.Pending.len.Goals as goal

pub returns-clause-count : goal.returns-clause-count
returns-clause-count c =
    c.len.ensures.len ∙ sym (rising_length c.self.inside.held.entries) ∙ ap (λ (r : Reserved). length r.waiting) c.self.view_is
