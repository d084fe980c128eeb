use Rattle.std.proofs.Common.{ap, ◌∙◌}
use Rattle.std.specs.FinSet as set
use Rattle.blip_mux.proofs.Sets.{removed}
use Rattle.blip_mux.proofs.numbers.Numbers.remove.Goals as goal

pub returns : goal.returns
returns c =
    removed c.self.inside.numbers.keys c.remove.new.self.keys c.args.number c.remove.ensures.updates.0
    ∙ ap (λ s. set.remove s c.args.number) c.self.view_is
