-- Recorded sessions that are served one after another.
use Rattle.std.specs.Prelude.{◌≡◌, ◌∷◌, [], Bool, List, length, Some}
use Rattle.std.specs.Arc.{arc_value}
use Rattle.sg_outside.specs.Wire.{Traffic}
use Rattle.sg_outside.specs.MemWire.{traffic}
use Rattle.sg_history.specs.declared.entries.Entry.{Entry}
use Rattle.record_file.specs.declared.record.Recorded.{Recorded}
use Rattle.record_file.specs.Record.{results_of}
use Rattle.sync_syntax.specs.declared.tree.Program.{Program}
use Rattle.write_path.specs.Reads.{IsLaterThanAll}
use Rattle.write_path.specs.Solo.{Solo}
use Rattle.session_run.specs.declared.serve.Setup.{Setup}
use Rattle.session_run.specs.Answered.{Moment, moment}
use Rattle.session_run.specs.Served.{IsServed}
use Rattle.transcripts.specs.Transcript.{Run}

-- what a ground with one owner records at a moment
abbrev pub moment_of : Solo → Moment
moment_of g = moment g.read (length g.board.log) (Some (length g.board.log)) (Some g.board.checkpoints) g.own

-- the setup of a recorded session: its user and version, and the program and strictness of all
pub record IsSetup (program : Program) (strict : Bool) (recorded : Recorded) (setup : Setup) : Type 0 where
  pub user : setup.user ≡ recorded.user
  pub version : setup.version ≡ recorded.version
  pub strictness : setup.strict ≡ strict
  pub judged_by : arc_value setup.program ≡ program

-- a session was served that got what was recorded, from one moment of the ground to another, over a history that is later than all
-- boards that were read by then
pub record IsRun (history : List Entry) (program : Program) (strict : Bool) (start : Moment) (recorded : Recorded) (run : Run) (final : Moment) : Type 0 where
  pub setup : Setup
  pub is_setup : IsSetup program strict recorded setup
  pub after : Traffic
  pub served : IsServed setup start final (Some (traffic (results_of recorded.items) 0 [] [])) run.ended (Some after)
  pub user : run.user ≡ recorded.user
  pub sent : run.sent ≡ after.sent
  pub later : IsLaterThanAll final.read history

-- sessions one after another
abbrev pub AreRuns : List Entry → Program → Bool → Moment → List Recorded → List Run → Moment → Type 0
AreRuns history program strict start [] [] final = final ≡ start
AreRuns history program strict start (recorded ∷ records) (run ∷ runs) final =
    (between : Moment) × IsRun history program strict start recorded run between × AreRuns history program strict between records runs final
AreRuns history program strict start records runs final = ⊥
