use Rattle.std.proofs.Common.{ap, ◌∙◌}
use Rattle.std.specs.FinMap as map
use Rattle.blip_mux.proofs.Maps.{removed}
use Rattle.blip_mux.proofs.parts.Parts.remove.Goals as goal

pub returns : goal.returns
returns c =
    removed c.self.inside.parts.entries c.remove.new.self.entries c.args.number c.remove.ensures.updates.0
    ∙ ap (λ m. map.remove m c.args.number) c.self.view_is
