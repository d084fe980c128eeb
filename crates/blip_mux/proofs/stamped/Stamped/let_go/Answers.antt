use Rattle.std.proofs.Common.{◌≡◌, true, ap, sym, subst, ◌∙◌}
use Rattle.blip_frame.specs.Frame.{has_checksum}
use Rattle.blip_mux.specs.Sending.{Waiting}
use Rattle.blip_mux.specs.inner.Class.{class_of}
use Rattle.blip_mux.proofs.Cuts.{some_same}
use Rattle.blip_mux.proofs.Moved.{turn_kept, removes}
use Rattle.blip_mux.proofs.stamped.Stamped.let_go.Goals as goal

pub returns-clause-keeps : goal.returns-clause-keeps
returns-clause-keeps c =
    let w = c.requires.next.message in
    let same : c.index-message.result.now ≡ w = some_same c.index-message.result.now w (sym c.index-message.ensures ∙ c.requires.next.there) in
    turn_kept c.args.self.now.messages.entries c.remove-2.new.messages.entries c.args.self.now.next w c.args.turn _ _ c.args.self.now.ready c.drop_first.new.self c.requires.keeps
    (subst (λ (w : Waiting). has_checksum w.kind ≡ true) same c.class.ensures.kind)
    c.requires.next.there c.requires.next.mark c.requires.next.may c.remove-2.ensures.others
    (removes c.class.result c.number.result w _ _ (c.class.ensures.class ∙ ap (λ (w : Waiting). class_of w.kind) same) (c.number.ensures ∙ ap (λ (w : Waiting). w.number) same) c.remove.ensures)
    c.remove-2.ensures.ordered c.drop_first.ensures.times c.drop_first.ensures.count c.drop_first.ensures.room
