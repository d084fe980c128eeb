-- What a board makes of a revision that it judges, and of one that was accepted. Only proofs need this.
use Rattle.std.specs.Prelude.{◌≡◌, ◌⊎◌, ◌<◌, ℕ, Bool, List, length, Option, Result, IfOk, IfErr}
use Rattle.sg_history.specs.declared.entries.Entry.TheVariants as kinds
use Rattle.sg_history.specs.declared.number.Number.{Number}
use Rattle.sg_history.specs.Book.{Later}
use Rattle.repl_messages.specs.declared.revision.Revision.{Revision}
use Rattle.rev_tree.specs.Extension.{extends_tree}
use Rattle.rev_tree.specs.Writes.{AreAccepted}
use Rattle.sync_syntax.specs.declared.tree.Program.{Program}
use Rattle.doc_board.specs.declared.outcome.Outcome.{Outcome}
use Rattle.doc_board.specs.declared.outcome.Outcome.TheVariants as outcome
use Rattle.doc_board.specs.declared.room.Room.{Room}
use Rattle.doc_board.specs.Boards.{board_of}
use Rattle.doc_board.specs.Lawful.{AreEntries}
use Rattle.doc_board.specs.Outcomes.{IsJudged, IsOutcome}
use Rattle.doc_board.specs.State.{State, book_on, last_on, writes_on}
use Rattle.board_steps.specs.declared.accepted.Accepted.{Accepted}
use Rattle.board_steps.specs.declared.accepted.Judged.{Judged}
use Rattle.board_steps.specs.declared.retry.Ready.{Ready}
use Rattle.board_steps.specs.declared.retry.Retried.{Retried}
use Rattle.board_steps.specs.declared.retry.Retried.TheVariants as retried
use Rattle.board_steps.specs.Accepted.{IsAcceptedBy}
use Rattle.board_steps.specs.Retry.{IsReady, IsSpent, IsTriedAgain, IsTurnedDown}
use Rattle.board_steps.specs.Verdicts.{IsExtensionAt}

-- a board judges a revision: what the program is to judge it on where it extends its document's tree, or the outcome by which it is
-- turned down
pub record IsJudgedAt (s : State) (strict : Bool) (by : Option (List ℕ)) (r : Revision) (result : Result Judged Outcome) : Type 0 where
  pub extends : IfOk result (IsExtensionAt s by r)
  pub judged : IfOk result (λ judged. IsJudged strict by r (board_of s) extends_tree judged.at)
  pub stopped : (program : Program) → IfErr result (λ answer. IsOutcome program strict by r (board_of s) answer × IsTurnedDown answer)
  pub entries : AreEntries (book_on s)
  pub writes : AreAccepted (writes_on s r.doc)

-- a board and the program judge it: what its write needs where it is accepted, or the outcome by which it is turned down
pub record IsDecidedAt (s : State) (program : Program) (strict : Bool) (by : Option (List ℕ)) (r : Revision) (result : Result Accepted Outcome) : Type 0 where
  pub accepted : IfOk result (IsAcceptedBy s program strict by r)
  pub down : IfErr result (λ answer. IsOutcome program strict by r (board_of s) answer × IsTurnedDown answer)

-- a revision was accepted by a board of which this one's book is later, and the number is above that board's front and the last write
-- of the revision's document there
pub record WasAccepted (judged t : State) (program : Program) (strict : Bool) (by : Option (List ℕ)) (r : Revision) (number : ℕ) (a : Accepted) : Type 0 where
  pub accepted : IsAcceptedBy judged program strict by r a
  pub later : Later (book_on judged) (book_on t)
  pub front : length judged.log < number
  pub above : last_on judged r.doc < number

-- its write is stored at the number, since its document was not written since
pub record IsStoredFirst (judged before after : State) (program : Program) (strict : Bool) (by : Option (List ℕ)) (r : Revision) (room : Room) (number : Number) (answer : Outcome) : Type 0 where
  pub ready : Ready
  pub is_ready : IsReady judged program strict by r ready
  pub last : last_on before ready.entry.doc ≡ last_on judged ready.entry.doc
  pub entries : AreEntries (book_on before)
  pub answered : answer ≡ outcome.Stored number.value ready.entry.at
  pub spent : IsSpent before after room number (kinds.Write ready.entry)

-- what comes of the turn of a commit
abbrev pub IsTried : State → State → State → Program → Bool → Option (List ℕ) → Revision → Room → Number → Retried → Type 0
IsTried judged before after program strict by r room number (retried.Answered answer) =
    IsStoredFirst judged before after program strict by r room number answer ⊎ IsTriedAgain before after program strict by r room number (retried.Answered answer)
IsTried judged before after program strict by r room number (retried.Overtaken given held ready) =
    IsTriedAgain before after program strict by r room number (retried.Overtaken given held ready)
