use Rattle.std.proofs.Common.{None, Result, ℕ, sym, subst}
use Rattle.sg_history.specs.declared.entries.Entry.{Entry}
use Rattle.sg_history.specs.declared.room.RoomFor.{RoomFor}
use Rattle.seq_gate.specs.Passes.{drawn}
use Rattle.seq_gate.specs.declared.known.Known.{Known}
use Rattle.principals.specs.Script.{entry_of}
use Rattle.doc_board.specs.declared.candidate.NoRoom.{NoRoom}
use Rattle.doc_board.specs.declared.outcome.Outcome.{Outcome}
use Rattle.doc_board.specs.declared.outcome.Outcome.TheVariants as outcome
use Rattle.doc_board.specs.declared.room.Room.{Room}
use Rattle.doc_board.specs.Boards.{board_of}
use Rattle.doc_board.specs.Limits.{IsRefusedBy, refusal}
use Rattle.doc_board.specs.Rooms.{room_for}
use Rattle.write_path.specs.Commands.{Commands}
use Rattle.write_path.specs.inner.Turns.{IsRoomLeft, IsRoomedTurn, IsStoreTurn}
use Rattle.write_path.proofs.Commanding.{command_refused, command_stored}
use Rattle.write_path.proofs.ProposalTurns.{room_there}
use Rattle.write_path.proofs.storing.command_in_turns.Goals as goal

pub returns-in-Ok-clause-commands : goal.returns-in-Ok-clause-commands
returns-in-Ok-clause-commands g c =
    let p : Known = c.args.pass.knows in
    let p1 : Known = c.room_in_turn-pass.result.0.knows in
    let q : Known = c.store_in_turn-pass.result.0.knows in
    let number : ℕ = c.draw-number.result.value in
    let at : ℕ = c.room_in_turn-pass.result.1 in
    let room : RoomFor = room_for None 0 in
    let one : IsRoomedTurn p p1 room at c.room_in_turn-pass.result.2 = c.room_in_turn-pass.ensures.room in
    let left = subst (λ (x : Result Room NoRoom). IsRoomLeft p p1 one.found room x) c.in-Ok.is one.left in
    let there = room_there (refusal (board_of one.found) 0) c.in-Ok.room (subst (λ (x : Result Room NoRoom). IsRefusedBy (refusal (board_of one.found) 0) x) c.in-Ok.is one.refused) in
    let stored = c.store_in_turn-pass.ensures.stored in
    let two : IsStoreTurn (drawn p1 number) q stored.0 stored.1 number c.into_entry-entry.result = subst (λ (k : Known). IsStoreTurn k q stored.0 stored.1 number c.into_entry-entry.result) c.draw-number.ensures.knows stored.2 in
    subst (λ (n : ℕ). Commands p.read q.read p.lowest_front q.lowest_front p.own q.own None (entry_of c.args.command) (outcome.Stored n at)) (sym c.store_in_turn-pass.ensures.sequence)
    (subst (λ (e : Entry). Commands p.read q.read p.lowest_front q.lowest_front p.own q.own None e (outcome.Stored number at)) c.into_entry-entry.ensures
    (command_stored c.boards.ensures.again c.reads.ensures.transitive p p1 q one.found left.0 stored.0 stored.1 room c.into_entry-entry.result at number left.1 c.draw-number.ensures.fresh two one.front there))

pub returns-in-Err-clause-commands : goal.returns-in-Err-clause-commands
returns-in-Err-clause-commands g c =
    let p : Known = c.args.pass.knows in
    let q : Known = c.room_in_turn-pass.result.0.knows in
    let at : ℕ = c.room_in_turn-pass.result.1 in
    let room : RoomFor = room_for None 0 in
    let one : IsRoomedTurn p q room at c.room_in_turn-pass.result.2 = c.room_in_turn-pass.ensures.room in
    subst (λ (o : Outcome). Commands p.read q.read p.lowest_front q.lowest_front p.own q.own None (entry_of c.args.command) o) (sym c.no_room_outcome.ensures)
    (command_refused c.boards.ensures.again p q one.found (entry_of c.args.command) at
    (subst (λ (x : Result Room NoRoom). IsRoomLeft p q one.found room x) c.in-Err.is one.left) one.front c.in-Err.why
    (subst (λ (x : Result Room NoRoom). IsRefusedBy (refusal (board_of one.found) 0) x) c.in-Err.is one.refused))
