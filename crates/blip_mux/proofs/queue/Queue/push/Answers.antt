use Rattle.std.proofs.Common.{List, ap, refl, ◌∙◌}
use Rattle.std.specs.List.{list_any}
use Rattle.blip_mux.specs.Sending.{Waiting, is_of}
use Rattle.blip_mux.specs.inner.Class.{class_of, stamp_at}
use Rattle.blip_mux.proofs.Acked.{stands_nowhere}
use Rattle.blip_mux.proofs.queue.Queue.push.Goals as goal

pub push-requires-clause-alone : goal.push-requires-clause-alone
push-requires-clause-alone c =
    let s = c.self.inside.messages in
    let kind = c.args.message.kind in
    let number = c.args.message.number in
    stands_nowhere s.messages.entries s.next (λ d n. stamp_at d n s.index.requests s.index.replies) s.ready c.self.invariant kind number (stamp_at (class_of kind) number s.index.requests s.index.replies) refl
    (ap (λ (ws : List Waiting). list_any (is_of kind number) ws) c.self.view_is ∙ c.requires)
