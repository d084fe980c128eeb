-- What a second try leaves. Tests hand this on from call to call.
use Rattle.std.specs.Prelude.{◌≡◌, ℕ, IsTrue}
use Rattle.sg_history.specs.declared.entries.Entry.{Entry}
use Rattle.sg_history.specs.declared.room.RoomFor.{RoomFor}
use Rattle.doc_board.specs.declared.candidate.Candidate.{Candidate}
use Rattle.doc_board.specs.declared.candidate.Candidate.TheVariants.{Plain, Write}
use Rattle.doc_board.specs.Rooms.{is_outstanding}
use Rattle.doc_board.specs.State.{State}
use Rattle.doc_board.specs.Steps.{history_on, stored_at}
use Rattle.board_steps.specs.declared.retry.Ready.{Ready}
use Rattle.board_steps.specs.declared.retry.Retried.{Retried}
use Rattle.board_steps.specs.declared.retry.Retried.TheVariants.{Answered, Overtaken}
use Rattle.board_steps.specs.Retry.{FitsReady, IsHeldReady}

-- an entry is stored at the number, or the room, the number and the write are handed back at a board with the same log and the same that waits
abbrev pub Leaves : State → State → ℕ → Retried → Type 0
Leaves before after number (Answered answer) = (e : Entry) × (history_on after ≡ stored_at before number e)
Leaves before after number (Overtaken room held ready) =
    (held.value ≡ number) × (after.log ≡ before.log) × (after.pending ≡ before.pending)
    × IsTrue (is_outstanding after.rooms room.made_for) × FitsReady room.made_for ready × IsHeldReady after ready

-- the write of a candidate, in its room, may be stored at the board as it stands, above the document's last write
abbrev pub IsReadyAfter : State → RoomFor → ℕ → Candidate → Type 0
IsReadyAfter s room last (Write w tree base) =
    let ready : Ready = record { entry = w; tree = tree; base = last } in FitsReady room ready × IsHeldReady s ready
IsReadyAfter s room last (Plain e) = Unit {0}
