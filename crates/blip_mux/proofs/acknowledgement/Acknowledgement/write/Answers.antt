use Rattle.std.proofs.Common.{ℕ, List, OnOk, true, false, ap, subst, ◌≡◌, ◌∙◌}
use Rattle.blip_frame.specs.Checksum.{checksum}
use Rattle.blip_frame.specs.Frame.{FrameParts, payload_sent_after, WritesAfter}
use Rattle.blip_mux.specs.Acknowledgements.{ack_frame}
use Rattle.blip_mux.proofs.acknowledgement.Acknowledgement.write.Goals as goal

pub returns-clause-sent : goal.returns-clause-sent
returns-clause-sent c = λ sent e.
    let payload = c.as_slice.ensures.value ∙ c.new-payload.ensures in
    let P : FrameParts → Type 0 = λ f. OnOk c.write_frame.result (WritesAfter sent c.args.out.now c.write_frame.new.out f × (c.write_frame.new.crc.value ≡ checksum (payload_sent_after sent f))) in
    let with_payload : List ℕ → FrameParts = λ xs. record { number = c.self.inside.number; kind = c.self.inside.kind; urgent = true; no_reply = true; more = false; payload = xs } in
    subst P (ap with_payload payload ∙ ap ack_frame c.self.view_is) (c.write_frame.ensures.sent sent e)
