-- What the turns of a proposal and of a command hand on to one another. Only proofs need this.
use Rattle.std.specs.Prelude.{◌≡◌, ◌⊎◌, ◌<◌, ◌≤◌, ◌+◌, ℕ, Bool, List, [], ◌∷◌, length, Option, Some, None, Result, Ok, Err}
use Rattle.sg_history.specs.declared.book.Waiting.{Waiting}
use Rattle.sg_history.specs.declared.entries.Entry.{Entry}
use Rattle.sg_history.specs.declared.entries.Entry.TheVariants as kinds
use Rattle.sg_history.specs.declared.entries.Write.{Write}
use Rattle.sg_history.specs.declared.number.Number.{Number}
use Rattle.sg_history.specs.declared.room.RoomFor.{RoomFor}
use Rattle.sg_history.specs.Board.{BoardState, board_book}
use Rattle.seq_gate.specs.Passes.{Finds, drawn_in_turn, share}
use Rattle.seq_gate.specs.declared.known.Known.{Known}
use Rattle.repl_messages.specs.declared.revision.Revision.{Revision}
use Rattle.sync_syntax.specs.declared.tree.Program.{Program}
use Rattle.doc_board.specs.declared.candidate.NoRoom.{NoRoom}
use Rattle.doc_board.specs.declared.outcome.Outcome.{Outcome}
use Rattle.doc_board.specs.declared.outcome.Outcome.TheVariants as outcome
use Rattle.doc_board.specs.declared.room.Room.{Room}
use Rattle.doc_board.specs.Boards.{board_of}
use Rattle.doc_board.specs.JudgedWrites.{IsJudgedWrite}
use Rattle.doc_board.specs.Limits.{IsRefusedBy, refusal}
use Rattle.doc_board.specs.Outcomes.{IsOutcome, IsWriteOf, bytes_of}
use Rattle.doc_board.specs.State.{State, last_on}
use Rattle.board_steps.specs.declared.accepted.Accepted.{Accepted}
use Rattle.board_steps.specs.declared.retry.Ready.{Ready}
use Rattle.board_steps.specs.Accepted.{IsAcceptedBy}
use Rattle.write_path.specs.Proposals.{Stores}
use Rattle.write_path.specs.Reads.{IsOneOf}
use Rattle.board_steps.specs.Retry.{IsHandedBack, IsTurnedDown}
use Rattle.write_path.specs.Shared.{IsLookTurn, IsOvertaken, IsTurn, MayDrawInTurn, Rests}

-- ---- a turn for a room

-- a pass that rests took a turn in which it made a room, which is then its own
pub record IsRoomTurn (before after : Known) (s t : State) (room : RoomFor) : Type 0 where
  pub turn : IsTurn before after (board_of s) (board_of t)
  pub own : after.own ≡ before.own
  pub held : after.held ≡ []
  pub rooms : after.rooms ≡ room ∷ []

-- or was refused one, and left the board as it found it
abbrev pub IsRoomLeft : Known → Known → State → RoomFor → Result Room NoRoom → Type 0
IsRoomLeft before after s made_for (Ok room) = (t : State) × IsRoomTurn before after s t made_for × (room.made_for ≡ made_for)
IsRoomLeft before after s made_for (Err why) = IsLookTurn before after (board_of s)

-- the length of the log that was found, and whether there was room by its sums
pub record IsRoomedTurn (before after : Known) (made_for : RoomFor) (at : ℕ) (result : Result Room NoRoom) : Type 0 where
  pub found : State
  pub front : at ≡ length found.log
  pub refused : IsRefusedBy (refusal (board_of found) made_for.bytes) result
  pub left : IsRoomLeft before after found made_for result

-- ---- a turn in which an entry is stored

-- a pass that held one number and one room took a turn in which it stored an entry at a number
pub record IsStoreTurn (before after : Known) (s t : State) (number : ℕ) (e : Entry) : Type 0 where
  pub turn : IsTurn before after (board_of s) (board_of t)
  pub own : after.own ≡ record { number = number; entry = e } ∷ before.own
  pub rests : Rests after
  pub there : board_book (board_of t) number ≡ Some e

-- ---- the turn in which the write of a revision is stored

-- a revision was accepted by a board that the pass has read, and the number is above that board's front and the last write of the
-- revision's document there
pub record IsAcceptedFor (p : Known) (judged : State) (program : Program) (strict : Bool) (by : Option (List ℕ)) (r : Revision) (number : ℕ) (a : Accepted) : Type 0 where
  pub accepted : IsAcceptedBy judged program strict by r a
  pub was_read : IsOneOf p.read (board_of judged)
  pub front : length judged.log < number
  pub above : last_on judged r.doc < number

-- the write of the revision, judged by one board, stands in another at its sequence, as a judged write, and is own since
pub record IsStoredBy (judged t : State) (own_before own_after : List Waiting) (program : Program) (strict : Bool) (by : Option (List ℕ)) (r : Revision) (answer : Outcome) : Type 0 where
  pub sequence : ℕ
  pub at : ℕ
  pub answered : answer ≡ outcome.Stored sequence at
  pub outcome : IsOutcome program strict by r (board_of judged) (outcome.Stored sequence at)
  pub write : Write
  pub is_write : IsWriteOf program by r (board_of judged) write
  pub own : own_after ≡ record { number = sequence; entry = kinds.Write write } ∷ own_before
  pub there : board_book (board_of t) sequence ≡ Some (kinds.Write write)
  pub judged_write : IsJudgedWrite program (board_book (board_of t)) sequence write

-- the revision is turned down by a board, and nothing is own that was not
pub record IsDownBy (judged : State) (own_before own_after : List Waiting) (program : Program) (strict : Bool) (by : Option (List ℕ)) (r : Revision) (answer : Outcome) : Type 0 where
  pub own : own_after ≡ own_before
  pub outcome : IsOutcome program strict by r (board_of judged) answer
  pub down : IsTurnedDown answer

-- the turn, in which a fresh number was drawn or not
abbrev pub IsCommitTurn : Known → Known → State → State → List ℕ → Type 0
IsCommitTurn before after found left doc =
    IsTurn before after (board_of found) (board_of left)
    ⊎ ((fresh : ℕ) × IsTurn (drawn_in_turn before fresh) after (board_of found) (board_of left) × IsOvertaken (board_of found) (board_of left) doc)

-- a pass that held one number and one room took a turn in which the write of a revision was stored that an earlier board had judged, or
-- that the found one judged; or in which the found one turned it down
pub record IsCommitted (before after : Known) (judged : State) (program : Program) (strict : Bool) (by : Option (List ℕ)) (r : Revision) (answer : Outcome) : Type 0 where
  pub found : State
  pub left : State
  pub turn : IsCommitTurn before after found left r.doc
  pub rests : Rests after
  pub answered : IsStoredBy judged left before.own after.own program strict by r answer ⊎ (IsStoredBy found left before.own after.own program strict by r answer ⊎ IsDownBy found before.own after.own program strict by r answer)

-- in the turn of a pass that holds one number and one room the board handed the write back, which it had found written above the number
pub record IsOvertakenAt (p : Known) (found : BoardState) (m : State) (program : Program) (strict : Bool) (by : Option (List ℕ)) (r : Revision) (room : Room) (number : Number) (c : Ready) : Type 0 where
  pub s : State
  pub here : found ≡ board_of s
  pub finds : Finds p (board_of s)
  pub held : p.held ≡ number.value ∷ []
  pub made : p.rooms ≡ room.made_for ∷ []
  pub doc : room.made_for.doc ≡ Some r.doc
  pub bytes : bytes_of r ≤ room.made_for.bytes
  pub back : IsHandedBack s m program strict by r room number c

-- ---- all turns of a proposal

-- what a proposal in turns makes of what a pass knows
pub record IsProposedInTurns (before after : Known) (program : Program) (strict : Bool) (by : Option (List ℕ)) (r : Revision) (answer : Outcome) : Type 0 where
  pub stores : Stores before.read after.read before.lowest_front after.lowest_front before.own after.own None program strict by r answer
  pub rests : Rests after
  pub share_is : share after ≡ share before
  pub least : after.left ≤ before.left
  pub most : before.left ≤ after.left + 2
  pub in_turns : MayDrawInTurn before after r.doc
  pub turns : length before.read + 2 ≤ length after.read
