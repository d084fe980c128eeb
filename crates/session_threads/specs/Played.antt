-- A script and sessions that ran at the same time over one history.
use Rattle.std.specs.Prelude.{◌≡◌, ◌<◌, ◌+◌, ◌++◌, ℕ, Bool, not, List, [], length, Option, Some}
use Rattle.std.specs.Arc.{arc_value}
use Rattle.sg_outside.specs.Wire.{Traffic}
use Rattle.sg_history.specs.declared.entries.Entry.{Entry}
use Rattle.sg_history.specs.declared.entries.Entry.TheVariants as entry
use Rattle.sg_history.specs.declared.entries.Write.{Write}
use Rattle.sg_history.specs.Board.{BoardState}
use Rattle.sg_history.specs.Book.{book_of}
use Rattle.sg_history.specs.History.{Extends}
use Rattle.seq_gate.specs.Counts.{times, total}
use Rattle.seq_gate.specs.Passes.{owed_count}
use Rattle.principals.specs.declared.admin_line.AdminLine.{AdminLine}
use Rattle.gateway_config.specs.declared.config.Config.{Config}
use Rattle.repl_messages.specs.declared.request.Version.{Version}
use Rattle.sync_syntax.specs.declared.tree.Program.{Program}
use Rattle.doc_board.specs.JudgedWrites.{IsJudgedWrite}
use Rattle.write_path.specs.Reads.{IsLaterThanAll}
use Rattle.session_run.specs.declared.ended.End.TheVariants.{WireFault}
use Rattle.session_run.specs.declared.ended.Ended.{Ended}
use Rattle.session_run.specs.declared.serve.Setup.{Setup}
use Rattle.session_run.specs.Answered.{Moment}
use Rattle.session_run.specs.Served.{IsServed}
use Rattle.session_run.specs.Turns.{steps_of, undone}
use Rattle.session_threads.specs.declared.played.LineOutcome.{LineOutcome}
use Rattle.session_threads.specs.Bounds.{AreBoundedLines, AreBoundedSteps, AreCheckpointsWithin}
use Rattle.session_threads.specs.Lines.{AreLinesAt, stored_sequences}
use Rattle.session_threads.specs.Opening.{IsOpening}
use Rattle.session_threads.specs.Pairs.{AllPairs}

-- a device before its session: whose it is, the version that it speaks, what its wire records, and how often that failed
pub record Device : Type 0 where
  pub user : List ℕ
  pub version : Version
  pub traffic : Option Traffic
  pub faults : ℕ

-- and after it: how the session ended, and its wire
pub record Leaves : Type 0 where
  pub ended : Ended
  pub traffic : Option Traffic
  pub faults : ℕ

-- the setup of a device's session
pub record IsSetup (program : Program) (strict : Bool) (device : Device) (setup : Setup) : Type 0 where
  pub user : setup.user ≡ device.user
  pub version : setup.version ≡ device.version
  pub strictness : setup.strict ≡ strict
  pub judged_by : arc_value setup.program ≡ program

-- a session of the device was served, and the board, at which all ended, has a history that is later than all boards that were read for it
pub record IsSessionOf (board : BoardState) (program : Program) (strict : Bool) (device : Device) (left : Leaves) : Type 0 where
  pub setup : Setup
  pub is_setup : IsSetup program strict device setup
  pub start : Moment
  pub final : Moment
  pub served : IsServed setup start final device.traffic left.ended left.traffic
  pub later : IsLaterThanAll final.read board.log
  -- the wire is said to have failed only where it did
  pub fault : left.ended.end ≡ WireFault → device.faults < left.faults
  pub bounded : AreBoundedSteps board.log (undone served.session.halted) × AreBoundedSteps board.log (steps_of served.session.turns)
  pub checkpoints : AreCheckpointsWithin board.side setup.user (undone served.session.halted ++ steps_of served.session.turns)

-- The history of the board, at which nothing waits, begins with the configuration's roles and users. Each line of the script has its
-- outcome by it, in order, and each device was served a session over it. Past the opening it has what the lines and the sessions are
-- said to have stored, each once, and nothing else but sequences that were given up; and all its writes were judged by the
-- configuration's program.
pub record IsPlayed (config : Config) (lines : List AdminLine) (devices : List Device) (board : BoardState) (outcomes : List LineOutcome) (left : List Leaves) : Type 0 where
  pub pending : board.pending ≡ []
  pub rooms : board.rooms ≡ []
  pub opening : List Entry
  pub is_opening : IsOpening config.roles config.users opening
  pub begins : Extends opening board.log
  pub script : AreLinesAt board.log (arc_value config.program) (not config.conflicts) [] (length opening) lines outcomes
  pub sessions : AllPairs (IsSessionOf board (arc_value config.program) (not config.conflicts)) devices left
  pub once : (k : ℕ) → times k (stored_sequences outcomes) + total (λ l. times k l.ended.stored) left ≡ owed_count (length opening) board k
  pub judged : (k : ℕ) (w : Write) → book_of board.log k ≡ Some (entry.Write w) → IsJudgedWrite (arc_value config.program) (book_of board.log) k w
  pub bounded : AreBoundedLines board.log outcomes
