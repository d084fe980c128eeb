use Rattle.std.proofs.Common.{List, ap, ◌∙◌}
use Rattle.std.specs.List.{list_any}
use Rattle.blip_frame.specs.declared.frame.Kind.TheVariants as kinds
use Rattle.blip_mux.specs.Sending.{Waiting, is_of}
use Rattle.blip_mux.proofs.ToCome.{none_acked}
use Rattle.blip_mux.proofs.outbox.Outbox.acked.Goals as goal

pub invariant_of-self : goal.invariant_of-self
invariant_of-self c = λ n above.
    ap (λ (ws : List Waiting). list_any (is_of kinds.Msg n) ws) c.acked.ensures ∙ none_acked kinds.Msg n c.args.kind c.args.number c.args.bytes c.self.inside.waiting (c.self.invariant n above)
