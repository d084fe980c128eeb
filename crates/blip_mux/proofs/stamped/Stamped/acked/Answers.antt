use Rattle.std.proofs.Common.{◌<◌, ◌&&◌, not, sym, subst}
use Rattle.blip_mux.specs.Sending.{may_send, acked}
use Rattle.blip_mux.specs.declared.ready.ReadyMessage.{ReadyMessage}
use Rattle.blip_mux.specs.inner.Ready.{count_in, room_in}
use Rattle.blip_mux.proofs.Moved.{room_for, acked_kept_on, acked_kept_off, turn_on, turn_off}
use Rattle.blip_mux.proofs.stamped.Stamped.acked.Goals as goal

pub put-requires : goal.put-requires
put-requires c =
    let kept = c.requires.keeps in
    let old = kept.found c.args.class c.args.number c.in-Some.stamp (sym c.in-Some.ensures) in
    let w = old.0 in
    let has = turn_on (not (may_send w) && may_send (acked c.args.bytes w)) c.in-Some-take_ack.turn (record { urgent = w.urgent; stamp = c.in-Some.stamp }) (rw old.1 at c.in-Some-take_ack.ensures.turn) in
    subst (λ (t : ReadyMessage). count_in t.urgent c.args.self.now.ready < room_in t.urgent c.args.self.now.ready) (sym has.1)
    (room_for c.args.self.now.messages.entries c.take_ack.new.messages.entries c.in-Some.stamp c.args.self.now.next w c.args.bytes _ c.args.self.now.ready c.args.self.now.ready kept old.1 (rw old.1 at c.in-Some-take_ack.ensures.set) has.0)

pub returns-in-Some-take_ack-clause-keeps : goal.returns-in-Some-take_ack-clause-keeps
returns-in-Some-take_ack-clause-keeps c =
    let kept = c.requires.keeps in
    let old = kept.found c.args.class c.args.number c.in-Some.stamp (sym c.in-Some.ensures) in
    let w = old.0 in
    let has = turn_on (not (may_send w) && may_send (acked c.args.bytes w)) c.in-Some-take_ack.turn (record { urgent = w.urgent; stamp = c.in-Some.stamp }) (rw old.1 at c.in-Some-take_ack.ensures.turn) in
    acked_kept_on c.args.self.now.messages.entries c.take_ack.new.messages.entries c.in-Some.stamp c.args.self.now.next w c.args.bytes _ c.args.self.now.ready c.put.new.self kept old.1 (rw old.1 at c.in-Some-take_ack.ensures.set)
    c.in-Some-take_ack.turn has.1 has.0 c.in-Some-take_ack.ensures.ordered c.put.ensures.times c.put.ensures.count c.put.ensures.room

pub returns-in_default-take_ack-clause-keeps : goal.returns-in_default-take_ack-clause-keeps
returns-in_default-take_ack-clause-keeps c =
    let kept = c.requires.keeps in
    let old = kept.found c.args.class c.args.number c.in-Some.stamp (sym c.in-Some.ensures) in
    let w = old.0 in
    acked_kept_off c.args.self.now.messages.entries c.take_ack.new.messages.entries c.in-Some.stamp c.args.self.now.next w c.args.bytes _ c.args.self.now.ready kept old.1 (rw old.1 at c.in_default-take_ack.ensures.set)
    (turn_off (not (may_send w) && may_send (acked c.args.bytes w)) (record { urgent = w.urgent; stamp = c.in-Some.stamp }) (rw old.1 at c.in_default-take_ack.ensures.turn)) c.in_default-take_ack.ensures.ordered
