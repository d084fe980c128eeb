use Rattle.std.proofs.Common.{List, ap, refl, ◌∙◌}
use Rattle.std.specs.Prelude.{option_map}
use Rattle.blip_mux.specs.Sending.{Waiting, acked_of}
use Rattle.blip_mux.specs.inner.Class.{class_of, stamp_at}
use Rattle.blip_mux.proofs.Acked.{sent_is}
use Rattle.blip_mux.proofs.queue.Queue.sent_of.Goals as goal

pub returns : goal.returns
returns c =
    let s = c.self.inside.messages in
    sent_is s.messages.entries s.next (λ d n. stamp_at d n s.index.requests s.index.replies) s.ready c.self.invariant c.args.kind c.args.number
    (stamp_at (class_of c.args.kind) c.args.number s.index.requests s.index.replies) c.sent_of.result refl (rw c.class_of.ensures at c.sent_of.ensures.none) (rw c.class_of.ensures at c.sent_of.ensures.some)
    ∙ ap (λ (ws : List Waiting). option_map (λ w. w.sent) (acked_of c.args.kind c.args.number ws)) c.self.view_is
