use Rattle.std.proofs.Common.{take, ap, ◌∙◌}
use Rattle.blip_frame.specs.Frame.{largest_written}
use Rattle.blip_mux.specs.Sending.{Waiting}
use Rattle.blip_mux.proofs.Pieces.{piece_of}
use Rattle.blip_mux.proofs.waiting.WaitingMessage.next_bytes.Goals as goal

pub returns-clause-value : goal.returns-clause-value
returns-clause-value c =
    piece_of c.self.inside.front c.self.inside.body c.as_slice.result.now c.bytes_from-front.result.now c.as_slice-2.result.now c.bytes_from-body.result.now c.leading_bytes-first.result.now c.leading_bytes.result.now
    c.self.inside.sent c.saturating_sub.result c.len.result largest_written
    c.as_slice.ensures c.bytes_from-front.ensures c.leading_bytes-first.ensures.value c.as_slice-2.ensures c.len.ensures c.saturating_sub.ensures c.bytes_from-body.ensures c.leading_bytes.ensures.value
    ∙ ap (λ (w : Waiting). take largest_written w.rest) c.self.view_is
