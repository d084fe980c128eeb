-- What a board with one owner is after a proposal or a command.
use Rattle.std.specs.Prelude.{◌≡◌, ◌+◌, ℕ, List, [], ◌∷◌, ◌++◌, length, Option}
use Rattle.sg_history.specs.declared.entries.Entry.{Entry}
use Rattle.sg_history.specs.declared.entries.Entry.TheVariants as entry
use Rattle.sg_history.specs.declared.entries.Write.{Write}
use Rattle.repl_messages.specs.declared.revision.Revision.{Revision}
use Rattle.sync_syntax.specs.declared.tree.Program.{Program}
use Rattle.doc_board.specs.declared.outcome.Outcome.{Outcome}
use Rattle.doc_board.specs.declared.outcome.Outcome.TheVariants as outcome
use Rattle.doc_board.specs.Boards.{board_of}
use Rattle.doc_board.specs.Outcomes.{IsWriteOf}
use Rattle.doc_board.specs.State.{State}

-- the log, what waits, the rooms and the checkpoints are as before
pub record IsAsBefore (before after : State) : Type 0 where
  pub log : after.log ≡ before.log
  pub pending : after.pending ≡ before.pending
  pub rooms : after.rooms ≡ before.rooms
  pub checkpoints : after.checkpoints ≡ before.checkpoints

-- the log has the write of the revision besides, at this sequence, which is its end; what waits, the rooms and the checkpoints are as before
pub record IsGrown (before after : State) (program : Program) (by : Option (List ℕ)) (r : Revision) (sequence : ℕ) : Type 0 where
  pub write : Write
  pub next : sequence ≡ length before.log + 1
  pub log : after.log ≡ before.log ++ entry.Write write ∷ []
  pub pending : after.pending ≡ before.pending
  pub rooms : after.rooms ≡ before.rooms
  pub checkpoints : after.checkpoints ≡ before.checkpoints
  pub is_write : IsWriteOf program by r (board_of before) write

-- what the board is after the answer: with the write where the revision was stored, else as before
abbrev pub IsBoardAfter : State → State → Program → Option (List ℕ) → Revision → Outcome → Type 0
IsBoardAfter before after program by r (outcome.Bad400 field) = IsAsBefore before after
IsBoardAfter before after program by r (outcome.TooLarge413 bytes) = IsAsBefore before after
IsBoardAfter before after program by r (outcome.UserGone401 at) = IsAsBefore before after
IsBoardAfter before after program by r (outcome.Known at) = IsAsBefore before after
IsBoardAfter before after program by r (outcome.BadHistory400 at) = IsAsBefore before after
IsBoardAfter before after program by r (outcome.Conflict409 at leaf) = IsAsBefore before after
IsBoardAfter before after program by r (outcome.Denied403 at rule) = IsAsBefore before after
IsBoardAfter before after program by r (outcome.Stored sequence at) = IsGrown before after program by r sequence
IsBoardAfter before after program by r (outcome.Full503 at places) = IsAsBefore before after
IsBoardAfter before after program by r (outcome.LogFull509 at entries bytes) = IsAsBefore before after
IsBoardAfter before after program by r outcome.Memory507 = IsAsBefore before after

-- the log has the entry besides, at this sequence, which is its end; what waits, the rooms and the checkpoints are as before
pub record IsGrownBy (before after : State) (e : Entry) (sequence at : ℕ) : Type 0 where
  pub next : sequence ≡ length before.log + 1
  pub front : at ≡ length before.log
  pub log : after.log ≡ before.log ++ e ∷ []
  pub pending : after.pending ≡ before.pending
  pub rooms : after.rooms ≡ before.rooms
  pub checkpoints : after.checkpoints ≡ before.checkpoints

-- what the board is after the answer: with the command's entry where that was stored, else as before
abbrev pub IsBoardCommanded : State → State → Entry → Outcome → Type 0
IsBoardCommanded before after e (outcome.Stored sequence at) = IsGrownBy before after e sequence at
IsBoardCommanded before after e (outcome.Full503 at places) = IsAsBefore before after × (at ≡ length before.log)
IsBoardCommanded before after e (outcome.LogFull509 at entries bytes) = IsAsBefore before after × (at ≡ length before.log)
IsBoardCommanded before after e outcome.Memory507 = IsAsBefore before after
IsBoardCommanded before after e other = ⊥
