use denote.Param.Send.{sendable}
use Rattle.std.proofs.Common.{◌≡◌, ◌∙◌, ◌∷◌, ◌++◌, [], None, Result, sym, ap, subst, arith}
use Rattle.std.specs.Prelude.{IfOk, OnOk}
use Rattle.sg_history.specs.declared.room.RoomFor.{RoomFor}
use Rattle.sg_history.specs.Board.{BoardState, After}
use Rattle.seq_gate.specs.Passes.{Finds, MayLeave, after_turn}
use Rattle.seq_gate.specs.declared.known.Known.{Known}
use Rattle.doc_board.specs.declared.candidate.NoRoom.{NoRoom}
use Rattle.doc_board.specs.declared.room.Room.{Room}
use Rattle.doc_board.specs.Boards.{board_of}
use Rattle.doc_board.specs.Rooms.{room_for}
use Rattle.doc_board.specs.State.{State}
use Rattle.write_path.proofs.Crossing.{shelf_send}
use Rattle.write_path.proofs.Sharing.{knows_in, may_in}
use Rattle.write_path.proofs.Turning.{may_leave_room, room_rooms}
use Rattle.tests_of_threads.proofs.given_up.room_in_turn.Goals as goal

pub enter-turn-requires-send-B : goal.enter-turn-requires-send-B
enter-turn-requires-send-B g c κs within = search (shelf_send, sendable) depth 20

pub leave-requires-send-B : goal.leave-requires-send-B
leave-requires-send-B g c κs = search (shelf_send, sendable) depth 20

pub leave-requires-clause-may : goal.leave-requires-clause-may
leave-requires-clause-may g c κs =
    let p : Known = c.args.pass.knows in
    let s : State = c.taken-board.result in
    let t : State = c.room.new.self in
    let room : RoomFor = room_for None 0 in
    let here : c.enter-turn.result.found ≡ board_of s = sym c.enter-turn.ensures.board ∙ ap (λ (x : State). board_of x) (sym c.taken-board.ensures.board) in
    let finds : Finds p (board_of s) = subst (λ (b : BoardState). Finds p b) here c.enter-turn.ensures.finds in
    let rooms : t.rooms ≡ s.rooms ++ room ∷ [] = subst (λ (x : Result Room NoRoom). OnOk x (t.rooms ≡ s.rooms ++ room ∷ [])) c.in-Ok.is c.room.ensures.ok in
    let next : After (board_of s) (board_of t) = c.after.ensures.room s t room c.room.ensures.log c.room.ensures.pending rooms c.room.ensures.checkpoints (omega arith) in
    let knows : c.put_back.new.turn.knows ≡ p = c.put_back.ensures.knows ∙ c.taken-board.ensures.knows ∙ c.enter-turn.ensures.knows in
    let found : c.put_back.new.turn.found ≡ board_of s = c.put_back.ensures.found ∙ c.taken-board.ensures.found ∙ here in
    subst (λ (x : State). MayLeave c.put_back.new.turn.knows c.put_back.new.turn.found (board_of x)) (sym c.put_back.ensures.board)
    (may_in p c.put_back.new.turn.knows c.put_back.new.turn.found (board_of s) (board_of t) knows found (may_leave_room p s t room finds c.requires.rests next c.room.ensures.log c.room.ensures.pending rooms))

pub returns-clause-rooms : goal.returns-clause-rooms
returns-clause-rooms g c =
    let p : Known = c.args.pass.knows in
    let s : State = c.taken-board.result in
    let t : State = c.room.new.self in
    let room : RoomFor = room_for None 0 in
    let here : c.enter-turn.result.found ≡ board_of s = sym c.enter-turn.ensures.board ∙ ap (λ (x : State). board_of x) (sym c.taken-board.ensures.board) in
    let finds : Finds p (board_of s) = subst (λ (b : BoardState). Finds p b) here c.enter-turn.ensures.finds in
    let rooms : t.rooms ≡ s.rooms ++ room ∷ [] = subst (λ (x : Result Room NoRoom). OnOk x (t.rooms ≡ s.rooms ++ room ∷ [])) c.in-Ok.is c.room.ensures.ok in
    let next : After (board_of s) (board_of t) = c.after.ensures.room s t room c.room.ensures.log c.room.ensures.pending rooms c.room.ensures.checkpoints (omega arith) in
    let knows : c.put_back.new.turn.knows ≡ p = c.put_back.ensures.knows ∙ c.taken-board.ensures.knows ∙ c.enter-turn.ensures.knows in
    let found : c.put_back.new.turn.found ≡ board_of s = c.put_back.ensures.found ∙ c.taken-board.ensures.found ∙ here in
    let left : c.leave.result.knows ≡ after_turn c.put_back.new.turn.knows c.put_back.new.turn.found (board_of t) =
    c.leave.ensures.knows ∙ ap (λ (x : State). after_turn c.put_back.new.turn.knows c.put_back.new.turn.found (board_of x)) c.put_back.ensures.board in
    let same : after_turn p (board_of s) (board_of t) ≡ c.leave.result.knows = knows_in p c.put_back.new.turn.knows c.leave.result.knows c.put_back.new.turn.found (board_of s) (board_of t) knows found left in
    let made : c.in-Ok.room.made_for ≡ room = subst (λ (x : Result Room NoRoom). IfOk x (λ m. m.made_for ≡ room)) c.in-Ok.is c.room.ensures.room in
    ap (λ (k : Known). k.rooms) (sym same) ∙ room_rooms p s t room finds c.requires.rests next c.room.ensures.log c.room.ensures.pending rooms ∙ ap (λ (r : RoomFor). r ∷ []) (sym made)
