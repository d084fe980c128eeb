use Rattle.std.proofs.Common.{Ok, ap, ◌∙◌}
use Rattle.blip_frame.specs.Frame.{parts_of}
use Rattle.session_mux.proofs.mux.Mux.take.Goals as goal

pub put_ack-requires : goal.put_ack-requires
put_ack-requires c =
    c.acknowledgements.ensures.owed c.args.self.now.inbox (parts_of c.in-Ok.frame) c.in-Ok-Owed.kind c.in-Ok-Owed.number c.in-Ok-Owed.bytes (c.in-Ok-Owed.ensures.taken ∙ ap Ok c.in-Ok-Owed.field-0-is)

pub acked-requires : goal.acked-requires
acked-requires c =
    c.acknowledgements.ensures.acked c.args.self.now.inbox (parts_of c.in-Ok.frame) c.in-Ok-Ack.kind c.in-Ok-Ack.number c.in-Ok-Ack.bytes (c.in-Ok-Ack.ensures.taken ∙ ap Ok c.in-Ok-Ack.field-0-is)
