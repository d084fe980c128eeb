use Rattle.std.proofs.Common.{◌≡◌, ℕ, Some, None, Result, Err, sym, subst}
use Rattle.std.specs.Prelude.{IfErr, IfOk}
use Rattle.std.specs.Option.{option_copied}
use Rattle.sg_history.specs.declared.room.RoomFor.{RoomFor}
use Rattle.seq_gate.specs.Passes.{drawn}
use Rattle.seq_gate.specs.declared.known.Known.{Known}
use Rattle.doc_board.specs.declared.candidate.NoRoom.{NoRoom}
use Rattle.doc_board.specs.declared.outcome.Outcome.{Outcome}
use Rattle.doc_board.specs.declared.room.Room.{Room}
use Rattle.doc_board.specs.Boards.{board_of}
use Rattle.doc_board.specs.Limits.{IsRefusedBy, refusal}
use Rattle.doc_board.specs.Outcomes.{IsOutcome, bytes_of}
use Rattle.doc_board.specs.Rooms.{room_for}
use Rattle.doc_board.specs.State.{State}
use Rattle.board_steps.specs.declared.accepted.Accepted.{Accepted}
use Rattle.board_steps.specs.Accepted.{IsAcceptedBy}
use Rattle.board_steps.specs.Retry.{IsTurnedDown}
use Rattle.write_path.specs.inner.Turns.{IsAcceptedFor, IsCommitted, IsProposedInTurns, IsRoomLeft, IsRoomedTurn}
use Rattle.write_path.proofs.ProposalTurns.{accepted_for, all_turns, down_first, room_refused, room_there}
use Rattle.write_path.proofs.proposing.propose_in_turns.Goals as goal

pub returns-in-Err-clause-proposed : goal.returns-in-Err-clause-proposed
returns-in-Err-clause-proposed g c =
    let s : State = c.decide-pass.ensures.decided.0 in
    let down : IsOutcome c.args.program.now c.args.strict (option_copied c.args.by) c.args.revision (board_of s) c.in-Err.outcome × IsTurnedDown c.in-Err.outcome =
    subst (λ (x : Result Accepted Outcome). IfErr x (λ answer. IsOutcome c.args.program.now c.args.strict (option_copied c.args.by) c.args.revision (board_of s) answer × IsTurnedDown answer)) c.in-Err.is c.decide-pass.ensures.decided.2.down in
    down_first c.boards.ensures.again c.args.pass.knows c.decide-pass.result.0.knows s c.args.program.now c.args.strict (option_copied c.args.by) c.args.revision c.in-Err.outcome c.decide-pass.ensures.decided.1 down.0 down.1

pub commit_in_turn-requires-clause-accepted : goal.commit_in_turn-requires-clause-accepted
commit_in_turn-requires-clause-accepted g c =
    let p : Known = c.args.pass.knows in
    let p1 : Known = c.decide-pass.result.0.knows in
    let p2 : Known = c.room_in_turn-pass.result.0.knows in
    let s1 : State = c.decide-pass.ensures.decided.0 in
    let room : RoomFor = room_for (Some c.args.revision.doc) c.stored_bytes-bytes.result in
    let accepted : IsAcceptedBy s1 c.args.program.now c.args.strict (option_copied c.args.by) c.args.revision c.in-Ok.accepted =
    subst (λ (x : Result Accepted Outcome). IfOk x (IsAcceptedBy s1 c.args.program.now c.args.strict (option_copied c.args.by) c.args.revision)) c.in-Ok.is c.decide-pass.ensures.decided.2.accepted in
    let roomed : IsRoomedTurn p1 p2 room c.room_in_turn-pass.result.1 c.room_in_turn-pass.result.2 = c.room_in_turn-pass.ensures.room in
    let left = subst (λ (x : Result Room NoRoom). IsRoomLeft p1 p2 roomed.found room x) c.in-Ok-room.is roomed.left in
    let n : ℕ = c.draw-number.result.value in (
      s1,
      subst (λ (k : Known). IsAcceptedFor k s1 c.args.program.now c.args.strict (option_copied c.args.by) c.args.revision n c.in-Ok.accepted) (sym c.draw-number.ensures.knows)
          (accepted_for p p1 p2 s1 roomed.found left.0 n room c.args.program.now c.args.strict (option_copied c.args.by) c.args.revision c.in-Ok.accepted c.decide-pass.ensures.decided.1 left.1 accepted c.draw-number.ensures.fresh),
    )

pub returns-in-Ok-room-clause-proposed : goal.returns-in-Ok-room-clause-proposed
returns-in-Ok-room-clause-proposed g c =
    let p : Known = c.args.pass.knows in
    let p1 : Known = c.decide-pass.result.0.knows in
    let p2 : Known = c.room_in_turn-pass.result.0.knows in
    let s1 : State = c.decide-pass.ensures.decided.0 in
    let room : RoomFor = room_for (Some c.args.revision.doc) c.stored_bytes-bytes.result in
    let accepted : IsAcceptedBy s1 c.args.program.now c.args.strict (option_copied c.args.by) c.args.revision c.in-Ok.accepted =
    subst (λ (x : Result Accepted Outcome). IfOk x (IsAcceptedBy s1 c.args.program.now c.args.strict (option_copied c.args.by) c.args.revision)) c.in-Ok.is c.decide-pass.ensures.decided.2.accepted in
    let roomed : IsRoomedTurn p1 p2 room c.room_in_turn-pass.result.1 c.room_in_turn-pass.result.2 = c.room_in_turn-pass.ensures.room in
    let left = subst (λ (x : Result Room NoRoom). IsRoomLeft p1 p2 roomed.found room x) c.in-Ok-room.is roomed.left in
    let n : ℕ = c.draw-number.result.value in
    let q : Known = c.commit_in_turn.result.0.knows in
    let is = accepted_for p p1 p2 s1 roomed.found left.0 n room c.args.program.now c.args.strict (option_copied c.args.by) c.args.revision c.in-Ok.accepted c.decide-pass.ensures.decided.1 left.1 accepted c.draw-number.ensures.fresh in
    let done : IsCommitted (drawn p2 n) q s1 c.args.program.now c.args.strict (option_copied c.args.by) c.args.revision c.commit_in_turn.result.1 =
    subst (λ (k : Known). IsCommitted k q s1 c.args.program.now c.args.strict (option_copied c.args.by) c.args.revision c.commit_in_turn.result.1) c.draw-number.ensures.knows
    (c.commit_in_turn.ensures.committed s1 (subst (λ (k : Known). IsAcceptedFor k s1 c.args.program.now c.args.strict (option_copied c.args.by) c.args.revision n c.in-Ok.accepted) (sym c.draw-number.ensures.knows) is)) in
    let there : refusal (board_of roomed.found) (bytes_of c.args.revision) ≡ None =
    subst (λ (bytes : ℕ). refusal (board_of roomed.found) bytes ≡ None) c.stored_bytes-bytes.ensures
    (room_there (refusal (board_of roomed.found) room.bytes) c.in-Ok-room.room (subst (λ (x : Result Room NoRoom). IsRefusedBy (refusal (board_of roomed.found) room.bytes) x) c.in-Ok-room.is roomed.refused)) in
    all_turns c.boards.ensures.again c.reads.ensures.transitive p p1 p2 q s1 roomed.found left.0 n room c.args.program.now c.args.strict (option_copied c.args.by) c.args.revision c.commit_in_turn.result.1 c.requires.left c.decide-pass.ensures.decided.1 left.1 there done

pub returns-in-Err-room-clause-proposed : goal.returns-in-Err-room-clause-proposed
returns-in-Err-room-clause-proposed g c =
    let p : Known = c.args.pass.knows in
    let p1 : Known = c.decide-pass.result.0.knows in
    let p2 : Known = c.room_in_turn-pass.result.0.knows in
    let s1 : State = c.decide-pass.ensures.decided.0 in
    let room : RoomFor = room_for (Some c.args.revision.doc) c.stored_bytes-bytes.result in
    let accepted : IsAcceptedBy s1 c.args.program.now c.args.strict (option_copied c.args.by) c.args.revision c.in-Ok.accepted =
    subst (λ (x : Result Accepted Outcome). IfOk x (IsAcceptedBy s1 c.args.program.now c.args.strict (option_copied c.args.by) c.args.revision)) c.in-Ok.is c.decide-pass.ensures.decided.2.accepted in
    let roomed : IsRoomedTurn p1 p2 room c.room_in_turn-pass.result.1 c.room_in_turn-pass.result.2 = c.room_in_turn-pass.ensures.room in
    let look = subst (λ (x : Result Room NoRoom). IsRoomLeft p1 p2 roomed.found room x) c.in-Err-room.is roomed.left in
    let refused : IsRefusedBy (refusal (board_of roomed.found) (bytes_of c.args.revision)) (Err c.in-Err-room.why) =
    subst (λ (bytes : ℕ). IsRefusedBy (refusal (board_of roomed.found) bytes) (Err c.in-Err-room.why)) c.stored_bytes-bytes.ensures
    (subst (λ (x : Result Room NoRoom). IsRefusedBy (refusal (board_of roomed.found) room.bytes) x) c.in-Err-room.is roomed.refused) in
    subst (λ (o : Outcome). IsProposedInTurns p p2 c.args.program.now c.args.strict (option_copied c.args.by) c.args.revision o) (sym c.no_room_outcome.ensures)
    (room_refused c.boards.ensures.again c.reads.ensures.transitive p p1 p2 s1 roomed.found c.args.program.now c.args.strict (option_copied c.args.by) c.args.revision c.in-Ok.accepted c.in-Err-room.why c.decide-pass.ensures.decided.1 look accepted refused)
