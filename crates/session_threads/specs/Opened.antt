-- What the calls that open a history hand on to one another. Only proofs need this.
use Rattle.std.specs.Prelude.{◌≡◌, ◌≤◌, ◌++◌, Bool, true, false, List, [], length, take}
use Rattle.sg_history.specs.declared.entries.Entry.{Entry}
use Rattle.doc_board.specs.declared.outcome.Outcome.{Outcome}
use Rattle.doc_board.specs.declared.outcome.Outcome.TheVariants as outcome
use Rattle.doc_board.specs.Boards.{board_of, bytes_stored}
use Rattle.doc_board.specs.Outcomes.{IsByLimits}
use Rattle.doc_board.specs.State.{State}
use Rattle.board_steps.specs.After.{IsBoardCommanded}
use Rattle.write_path.specs.Own.{own_in_order}
use Rattle.write_path.specs.Solo.{Solo}
use Rattle.session_threads.specs.Opening.{AreOf}

-- a board of this log that nobody else has, without checkpoints
abbrev pub alone : List Entry → State
alone log = record { log = log; pending = []; rooms = []; checkpoints = []; known = 0; reads = 0 }

-- no room is outstanding, and all entries of the log are the ground's own
pub record HasOwnLog (g : Solo) : Type 0 where
  pub pending : g.board.pending ≡ []
  pub rooms : g.board.rooms ≡ []
  pub log : g.board.log ≡ own_in_order g.own

-- a log that has no body, and no more entries than it has room for
pub record IsOpened (log : List Entry) : Type 0 where
  pub few : length log ≤ 3999999
  pub bodies : bytes_stored log ≡ 0

-- whether an opening goes on after a command: its entry is stored, or the log has no room for it
abbrev pub is_taken : Outcome → Bool
is_taken (outcome.Stored sequence at) = true
is_taken (outcome.LogFull509 at entries bytes) = true
is_taken other = false

-- the log has an entry of each of these besides, in their order, as far as it has room for them
abbrev pub IsGrownByAll : {X : Type 0} → (X → Entry → Type 0) → List X → List Entry → List Entry → Type 0
IsGrownByAll IsOf xs before after = (added : List Entry) × AreOf IsOf xs added × (after ≡ take 3999999 (before ++ added))

-- the command's entry is stored where the board of the log before has room for it
pub record IsCommandRun (before : List Entry) (e : Entry) (answer : Outcome) (after : List Entry) : Type 0 where
  pub limits : IsByLimits 0 (board_of (alone before)) answer
  pub board : IsBoardCommanded (alone before) (alone after) e answer
