-- what is stored, or answered where there is no room
use Rattle.std.proofs.Common.{◌≡◌, ℕ, length, Option, Some, None, Result, Ok, Err, refl, sym, ap, subst}
use Rattle.sg_history.specs.Board.{BoardState}
use Rattle.sg_history.specs.declared.entries.Entry.{Entry}
use Rattle.doc_board.specs.declared.outcome.Outcome.{Outcome}
use Rattle.doc_board.specs.declared.candidate.NoRoom.{NoRoom}
use Rattle.doc_board.specs.declared.candidate.NoRoom.TheVariants.{Full503, LogFull509, Memory}
use Rattle.doc_board.specs.declared.room.Room.{Room}
use Rattle.doc_board.specs.Limits.{refusal, IsRefusedBy}
use Rattle.doc_board.specs.Outcomes.{IsByLimits}
use Rattle.doc_board.specs.State.{State}
use Rattle.board_steps.specs.After.{IsBoardCommanded, IsAsBefore}
use Rattle.board_steps.specs.Shape.{IsStoredBut, no_room_outcome}

-- ---- a room

abbrev reason_of : Result Room NoRoom → NoRoom
reason_of (Ok room) = Memory
reason_of (Err why) = why

pub refused_in : (o : Option NoRoom) (why : NoRoom) → IsRefusedBy o (Err why) → IsStoredBut o (Err why)
refused_in None why h = h
refused_in (Some other) why h = ap (λ (w : NoRoom). Err w) (ap reason_of h)

-- ---- the limits

pub none_refused : (o : Option NoRoom) (room : Room) → IsRefusedBy o (Ok room) → o ≡ None
none_refused None room h = refl
none_refused (Some why) room h = absurd cc

pub stored_none : (o : Option NoRoom) (sequence : ℕ) → IsStoredBut o (Ok sequence) → o ≡ None
stored_none None sequence h = refl
stored_none (Some why) sequence h = absurd cc

abbrev reason_for : Result ℕ NoRoom → NoRoom
reason_for (Ok sequence) = Memory
reason_for (Err why) = why

full_for : (o : Option NoRoom) (places : ℕ) → IsStoredBut o (Err (Full503 places)) → o ≡ Some (Full503 places)
full_for None places h = absurd cc
full_for (Some why) places h = ap (λ (w : NoRoom). Some w) (sym (ap reason_for h))

log_full_for : (o : Option NoRoom) (entries bytes : ℕ) → IsStoredBut o (Err (LogFull509 entries bytes)) → o ≡ Some (LogFull509 entries bytes)
log_full_for None entries bytes h = absurd cc
log_full_for (Some why) entries bytes h = ap (λ (w : NoRoom). Some w) (sym (ap reason_for h))

limits_for : (bytes : ℕ) (board : BoardState) (at : ℕ) (why : NoRoom) → IsStoredBut (refusal board bytes) (Err why) → IsByLimits bytes board (no_room_outcome at why)
limits_for bytes board at (Full503 places) h = full_for (refusal board bytes) places h
limits_for bytes board at (LogFull509 entries sum) h = log_full_for (refusal board bytes) entries sum h
limits_for bytes board at Memory h = tt

pub limits_without : (bytes : ℕ) (board : BoardState) (at : ℕ) (why : NoRoom) (answer : Outcome) → answer ≡ no_room_outcome at why → IsStoredBut (refusal board bytes) (Err why) → IsByLimits bytes board answer
limits_without bytes board at why answer is h = subst (λ (o : Outcome). IsByLimits bytes board o) (sym is) (limits_for bytes board at why h)

-- ---- an answer without a room

not_commanded : (s t : State) (e : Entry) (at : ℕ) (why : NoRoom) → IsAsBefore s t → at ≡ length s.log → IsBoardCommanded s t e (no_room_outcome at why)
not_commanded s t e at (Full503 places) same front = (same, front)
not_commanded s t e at (LogFull509 entries bytes) same front = (same, front)
not_commanded s t e at Memory same front = same

pub commanded_without : (s t : State) (e : Entry) (at : ℕ) (why : NoRoom) (answer : Outcome) → answer ≡ no_room_outcome at why → IsAsBefore s t → at ≡ length s.log → IsBoardCommanded s t e answer
commanded_without s t e at why answer is same front = subst (λ (o : Outcome). IsBoardCommanded s t e o) (sym is) (not_commanded s t e at why same front)
