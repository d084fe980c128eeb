-- What running a script does: each line is a command, or a revision that the administrator proposes, to the board as it then stands.
use Rattle.std.specs.Prelude.{◌≡◌, Bool, List, [], ◌∷◌, None}
use Rattle.sg_history.specs.declared.entries.Entry.{Entry}
use Rattle.principals.specs.declared.admin_line.AdminLine.{AdminLine}
use Rattle.principals.specs.declared.admin_line.AdminLine.TheVariants as line
use Rattle.principals.specs.Script.{entry_of}
use Rattle.repl_messages.specs.declared.revision.Revision.{Revision}
use Rattle.sync_syntax.specs.declared.tree.Program.{Program}
use Rattle.doc_board.specs.declared.outcome.Outcome.{Outcome}
use Rattle.doc_board.specs.Boards.{board_of}
use Rattle.doc_board.specs.Outcomes.{IsByLimits, IsOutcome, bytes_of}
use Rattle.board_steps.specs.After.{IsBoardAfter}
use Rattle.session_threads.specs.OwnRevisions.{own_revision}
use Rattle.session_threads.specs.Opened.{IsCommandRun, alone}

-- the revision is judged by a board of the log before, as the administrator's, and stored where that is the outcome and the board has room for it
pub record IsWritten (program : Program) (strict : Bool) (before : List Entry) (r : Revision) (answer : Outcome) (after : List Entry) : Type 0 where
  pub outcome : IsOutcome program strict None r (board_of (alone before)) answer
  pub limits : IsByLimits (bytes_of r) (board_of (alone before)) answer
  pub board : IsBoardAfter (alone before) (alone after) program None r answer

-- a line, with its outcome, between the log before and the log after it
abbrev pub IsLineRun : Program → Bool → List Entry → AdminLine → Outcome → List Entry → Type 0
IsLineRun program strict before (line.Command c) answer after = IsCommandRun before (entry_of c) answer after
IsLineRun program strict before (line.Doc doc parent deleted body) answer after =
    IsWritten program strict before (own_revision doc parent deleted body) answer after

-- lines one after another, each with its outcome
abbrev pub AreLinesRun : Program → Bool → List Entry → List AdminLine → List Outcome → List Entry → Type 0
AreLinesRun program strict before [] [] after = after ≡ before
AreLinesRun program strict before (l ∷ lines) (answer ∷ answers) after =
    (between : List Entry) × IsLineRun program strict before l answer between × AreLinesRun program strict between lines answers after
AreLinesRun program strict before lines answers after = ⊥
