use Rattle.std.proofs.Common.{Some, ap, ◌∙◌, option_map}
use Rattle.blip_mux.proofs.Maps.{read}
use Rattle.blip_mux.proofs.parts.Parts.kind_of.Goals as goal

pub returns-in-Some : goal.returns-in-Some
returns-in-Some c =
    ap Some c.kind.ensures ∙ ap (option_map (λ b. b.kind)) (c.in-Some.ensures.value ∙ read c.self.inside.parts.entries c.args.self.now c.args.number c.self.view_is)

pub returns-in-None : goal.returns-in-None
returns-in-None c = ap (option_map (λ b. b.kind)) (c.in-None.ensures.value ∙ read c.self.inside.parts.entries c.args.self.now c.args.number c.self.view_is)
