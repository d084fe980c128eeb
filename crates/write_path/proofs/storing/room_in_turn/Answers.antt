use Rattle.std.proofs.Common.{◌≡◌, ◌∙◌, ◌∷◌, ◌++◌, [], Result, sym, ap, subst}
use Rattle.std.specs.Prelude.{IfOk, OnOk}
use Rattle.std.specs.Option.{option_copied}
use Rattle.sg_history.specs.declared.room.RoomFor.{RoomFor}
use Rattle.sg_history.specs.Board.{BoardState, After}
use Rattle.seq_gate.specs.Passes.{Finds}
use Rattle.seq_gate.specs.declared.known.Known.{Known}
use Rattle.doc_board.specs.declared.candidate.NoRoom.{NoRoom}
use Rattle.doc_board.specs.declared.room.Room.{Room}
use Rattle.doc_board.specs.Boards.{board_of}
use Rattle.doc_board.specs.Limits.{IsRefusedBy, refusal}
use Rattle.doc_board.specs.Rooms.{room_for}
use Rattle.doc_board.specs.State.{State}
use Rattle.write_path.specs.Shelf.{Shelved, shelf_state}
use Rattle.write_path.specs.inner.Turns.{IsRoomTurn}
use Rattle.write_path.proofs.Sharing.{knows_in, may_in}
use Rattle.write_path.proofs.Turning.{made_room, may_leave_room}
use Rattle.write_path.proofs.storing.room_in_turn.Goals as goal

pub leave-requires-clause-may : goal.leave-requires-clause-may
leave-requires-clause-may g c =
    let p : Known = c.args.pass.knows in
    let s : State = c.board.result.now.board in
    let t : State = c.room-at.new.self.board in
    let room : RoomFor = room_for (option_copied c.args.doc) c.args.bytes in
    let here : c.enter-turn.result.found ≡ board_of s = sym c.enter-turn.ensures.board ∙ ap (λ (shelf : Shelved). shelf_state shelf) (sym c.board.ensures.value) in
    let finds : Finds p (board_of s) = subst (λ (b : BoardState). Finds p b) here c.enter-turn.ensures.finds in
    let rooms : t.rooms ≡ s.rooms ++ room ∷ [] = subst (λ (x : Result Room NoRoom). OnOk x (t.rooms ≡ s.rooms ++ room ∷ [])) c.in-Ok.is c.room-at.ensures.ok in
    let next : After (board_of s) (board_of t) = c.after.ensures.room s t room c.room-at.ensures.log c.room-at.ensures.pending rooms c.room-at.ensures.checkpoints c.requires.bytes in
    may_in p c.enter-turn.result.knows c.enter-turn.result.found (board_of s) (board_of t) c.enter-turn.ensures.knows here
    (may_leave_room p s t room finds c.requires.rests next c.room-at.ensures.log c.room-at.ensures.pending rooms)

pub returns-in-Ok-clause-room : goal.returns-in-Ok-clause-room
returns-in-Ok-clause-room g c =
    let p : Known = c.args.pass.knows in
    let s : State = c.board.result.now.board in
    let t : State = c.room-at.new.self.board in
    let room : RoomFor = room_for (option_copied c.args.doc) c.args.bytes in
    let here : c.enter-turn.result.found ≡ board_of s = sym c.enter-turn.ensures.board ∙ ap (λ (shelf : Shelved). shelf_state shelf) (sym c.board.ensures.value) in
    let finds : Finds p (board_of s) = subst (λ (b : BoardState). Finds p b) here c.enter-turn.ensures.finds in
    let rooms : t.rooms ≡ s.rooms ++ room ∷ [] = subst (λ (x : Result Room NoRoom). OnOk x (t.rooms ≡ s.rooms ++ room ∷ [])) c.in-Ok.is c.room-at.ensures.ok in
    let next : After (board_of s) (board_of t) = c.after.ensures.room s t room c.room-at.ensures.log c.room-at.ensures.pending rooms c.room-at.ensures.checkpoints c.requires.bytes in
    record {
      found = s;
      front = c.room-at.ensures.front;
      refused = subst (λ (x : Result Room NoRoom). IsRefusedBy (refusal (board_of s) c.args.bytes) x) c.in-Ok.is c.room-at.ensures.refused;
      left = (
        t,
        subst (λ (q : Known). IsRoomTurn p q s t room) (knows_in p c.enter-turn.result.knows c.leave.result.knows c.enter-turn.result.found (board_of s) (board_of t) c.enter-turn.ensures.knows here c.leave.ensures.knows)
            (made_room p s t room finds c.requires.rests next c.room-at.ensures.log c.room-at.ensures.pending rooms),
        subst (λ (x : Result Room NoRoom). IfOk x (λ made. made.made_for ≡ room)) c.in-Ok.is c.room-at.ensures.room,
      );
    }
