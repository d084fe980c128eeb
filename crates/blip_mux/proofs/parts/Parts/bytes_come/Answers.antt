use Rattle.std.proofs.Common.{Some, ap, ◌∙◌}
use Rattle.blip_mux.specs.inner.Room.{bytes_come}
use Rattle.blip_mux.proofs.Maps.{read}
use Rattle.blip_mux.proofs.parts.Parts.bytes_come.Goals as goal

pub returns-in-Some : goal.returns-in-Some
returns-in-Some c =
    ap Some c.len.ensures ∙ ap bytes_come (c.in-Some.ensures.value ∙ read c.self.inside.parts.entries c.args.self.now c.args.number c.self.view_is)

pub returns-in-None : goal.returns-in-None
returns-in-None c = ap bytes_come (c.in-None.ensures.value ∙ read c.self.inside.parts.entries c.args.self.now c.args.number c.self.view_is)
