use Rattle.std.proofs.Common.{◌≡◌, sym, ◌∙◌}
use Rattle.blip_mux.specs.Sending.{without_piece}
use Rattle.blip_mux.proofs.Cuts.{some_same}
use Rattle.blip_mux.proofs.Kept.{moved_there, room_again}
use Rattle.blip_mux.proofs.Moved.{follow_kept, is_there}
use Rattle.blip_mux.proofs.stamped.Stamped.renew.Goals as goal

pub index-message-requires : goal.index-message-requires
index-message-requires c =
    let was = c.requires.moved in
    is_there _ _ (moved_there was.before c.args.self.now.messages.entries c.args.turn.stamp c.args.self.now.next (without_piece was.message) _ c.args.self.now.ready was.kept was.moved)

pub put_if-requires : goal.put_if-requires
put_if-requires c =
    room_again c.requires.moved.before c.args.self.now.next _ c.args.turn.urgent c.args.self.now.ready c.drop_first.new.self c.requires.moved.kept (c.drop_first.ensures.count c.args.turn.urgent) (c.drop_first.ensures.room c.args.turn.urgent)

pub returns-clause-keeps : goal.returns-clause-keeps
returns-clause-keeps c =
    let was = c.requires.moved in
    let v = without_piece was.message in
    let here = moved_there was.before c.args.self.now.messages.entries c.args.turn.stamp c.args.self.now.next v _ c.args.self.now.ready was.kept was.moved in
    let its : c.index-message.result.now ≡ v = some_same c.index-message.result.now v (sym c.index-message.ensures ∙ here) in
    follow_kept was.before c.args.self.now.messages.entries c.args.self.now.next was.message c.index-message.result.now c.args.turn c.class.result c.number.result c.may_send.result c.put.result _ _
    c.args.self.now.ready c.drop_first.new.self c.put_if.new.self its c.class.ensures.class c.number.ensures c.may_send.ensures c.class.ensures.kind
    was.kept was.there was.mark was.may was.moved was.ordered c.put.ensures.absent c.put.ensures.ok
    c.drop_first.ensures.times c.drop_first.ensures.count c.drop_first.ensures.room c.put_if.ensures.times c.put_if.ensures.count c.put_if.ensures.room
