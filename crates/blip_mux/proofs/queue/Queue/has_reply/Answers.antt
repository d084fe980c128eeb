use Rattle.std.proofs.Common.{List, ap, refl, ◌∙◌}
use Rattle.std.specs.Prelude.{is_some}
use Rattle.std.specs.List.{list_any}
use Rattle.blip_frame.specs.declared.frame.Kind.TheVariants as kinds
use Rattle.blip_mux.specs.declared.class.Class.TheVariants as classes
use Rattle.blip_mux.specs.Sending.{Waiting, is_reply_to}
use Rattle.blip_mux.specs.inner.Class.{stamp_at}
use Rattle.blip_mux.proofs.Acked.{any_is}
use Rattle.blip_mux.proofs.queue.Queue.has_reply.Goals as goal

pub returns : goal.returns
returns c =
    let s = c.self.inside.messages in
    c.is_some.ensures ∙ ap is_some c.stamp_of.ensures
    ∙ any_is s.messages.entries s.next (λ d n. stamp_at d n s.index.requests s.index.replies) s.ready c.self.invariant kinds.Rpy c.args.number (stamp_at classes.Reply c.args.number s.index.requests s.index.replies) refl
    ∙ ap (λ (ws : List Waiting). list_any (is_reply_to c.args.number) ws) c.self.view_is
