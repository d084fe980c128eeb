use Rattle.std.proofs.Common.{ℕ, ap, ◌∙◌, ◌+◌, ◌++◌, ◌≤◌, length, subst, sym}
use Rattle.std.proofs.lemmas.List.{length-append}
use Rattle.blip_frame.specs.Frame.{parts_of, with_rest, payload_sent_after, value_after, spelling, largest_written}
use Rattle.blip_frame.specs.Checksum.{checksum}
use Rattle.blip_frame.proofs.Frames.{spelling_written, value_after-checksum}
use Rattle.blip_frame.proofs.frame.write_frame_with.Goals as goal

pub returns-in-Ok-clause-sent : goal.returns-in-Ok-clause-sent
returns-in-Ok-clause-sent c = λ sent e.
    let f = with_rest (parts_of c.args.frame.now) c.args.rest.now in
    let size = subst (λ n. n ≤ largest_written) (sym (length-append c.args.frame.now.payload.now c.args.rest.now)) c.requires.size in
    let value = c.crc_after-after.ensures ∙ ap (λ (v : ℕ). value_after v f) e ∙ value_after-checksum sent f in
    ((spelling (checksum (payload_sent_after sent f)) f, spelling_written (checksum (payload_sent_after sent f)) f c.in-Ok.ensures.number size c.requires.marked, c.in-Ok.ensures.ok ∙ ap (λ (v : ℕ). c.args.out.now ++ spelling v f) value), value)
