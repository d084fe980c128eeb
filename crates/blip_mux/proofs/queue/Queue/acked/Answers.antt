use Rattle.std.proofs.Common.{◌≤◌, List, ap, sym, subst, refl, ◌∙◌}
use Rattle.std.specs.Prelude.{IfSome}
use Rattle.blip_mux.specs.Sending.{Waiting, acked_of, acked_in}
use Rattle.blip_mux.specs.inner.Class.{class_of, stamp_at}
use Rattle.blip_mux.proofs.Acked.{acked_is, within_sent}
use Rattle.blip_mux.proofs.queue.Queue.acked.Goals as goal

pub acked-requires-clause-sent : goal.acked-requires-clause-sent
acked-requires-clause-sent c = λ q stands.
    let s = c.self.inside.messages in
    within_sent s.messages.entries s.next (λ d n. stamp_at d n s.index.requests s.index.replies) s.ready c.self.invariant c.args.kind c.args.number c.args.bytes q
    (ap (λ d. stamp_at d c.args.number s.index.requests s.index.replies) (sym c.class_of.ensures) ∙ stands)
    (subst (λ (ws : List Waiting). IfSome (acked_of c.args.kind c.args.number ws) (λ w. c.args.bytes ≤ w.sent)) (sym c.self.view_is) c.requires)

pub returns : goal.returns
returns c =
    let s = c.self.inside.messages in
    acked_is s.messages.entries s.next (λ d n. stamp_at d n s.index.requests s.index.replies) s.ready c.self.invariant c.args.kind c.args.number c.args.bytes c.acked.new.self.messages.entries
    (stamp_at (class_of c.args.kind) c.args.number s.index.requests s.index.replies) refl (rw c.class_of.ensures at c.acked.ensures.none) (rw c.class_of.ensures at c.acked.ensures.some)
    ∙ ap (acked_in c.args.kind c.args.number c.args.bytes) c.self.view_is
