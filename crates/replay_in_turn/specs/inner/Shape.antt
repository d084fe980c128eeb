-- What the functions of a replay hand on to one another. Only proofs need this.
use Rattle.std.specs.Prelude.{◌≡◌, ◌+◌, ◌++◌, ℕ, Bool, List, codes, length, Option, None, Some}
use Rattle.sg_outside.specs.Wire.{Traffic}
use Rattle.sg_history.specs.declared.book.Waiting.{Waiting}
use Rattle.sg_history.specs.declared.entries.Entry.{Entry}
use Rattle.sg_history.specs.History.{History}
use Rattle.sg_history.specs.Journal.{journal_text}
use Rattle.principals.specs.declared.admin_line.AdminLine.{AdminLine}
use Rattle.record_file.specs.declared.record.Recorded.{Recorded}
use Rattle.gateway_config.specs.declared.config.ConfigRole.{ConfigRole}
use Rattle.gateway_config.specs.declared.config.ConfigUser.{ConfigUser}
use Rattle.sync_syntax.specs.declared.tree.Program.{Program}
use Rattle.doc_board.specs.declared.outcome.Outcome.{Outcome}
use Rattle.write_path.specs.Own.{EndsWith}
use Rattle.write_path.specs.Reads.{IsLaterThanAll, Reads}
use Rattle.write_path.specs.Solo.{Solo}
use Rattle.session_run.specs.declared.ended.Ended.{Ended}
use Rattle.session_run.specs.declared.serve.Setup.{Setup}
use Rattle.session_run.specs.Answered.{Moment}
use Rattle.session_run.specs.Served.{IsServed}
use Rattle.session_threads.specs.Opened.{HasOwnLog}
use Rattle.session_threads.specs.Opening.{IsOpening}
use Rattle.replay_in_turn.specs.Script.{AreLinesRun}
use Rattle.replay_in_turn.specs.Sessions.{AreRuns, IsRun, moment_of}
use Rattle.transcripts.specs.Transcript.{Run, ended_lines, outcome_lines, run_text, runs_text}

-- the lines were run between these logs, and their outcomes printed behind this text, from the line with this number on
pub record IsScriptRun (program : Program) (strict : Bool) (number : ℕ) (lines : List AdminLine) (before after : List Entry) (text text_after : List ℕ) : Type 0 where
  pub outcomes : List Outcome
  pub run : AreLinesRun program strict before lines outcomes after
  pub printed : text_after ≡ text ++ outcome_lines number outcomes

-- a session of this setup was served between these moments with this traffic of its wire, and how it ended was printed behind this text
pub record IsServedTo (setup : Setup) (start final : Moment) (before : Option Traffic) (text text_after : List ℕ) : Type 0 where
  pub ended : Ended
  pub after : Traffic
  pub served : IsServed setup start final before ended (Some after)
  pub printed : text_after ≡ text ++ ended_lines ended after.sent

-- a session was served between these moments, over each history that is later than all boards read by then, and printed behind this text, with this number
pub record IsSessionRun (program : Program) (strict : Bool) (number : ℕ) (recorded : Recorded) (start final : Moment) (text text_after : List ℕ) : Type 0 where
  pub session : Run
  pub run : (history : List Entry) → IsLaterThanAll final.read history → IsRun history program strict start recorded session final
  pub reads : Reads start.read final.read start.lowest final.lowest
  pub added : List Waiting
  pub own : final.own ≡ added ++ start.own
  pub count : (n : ℕ) → start.recorded ≡ Some n → final.recorded ≡ Some (n + length added)
  pub printed : text_after ≡ text ++ run_text number session

-- the sessions were served between these moments, over each history that is later than all boards read by then, and printed behind this text, from the one with this number on
pub record AreSessionsRun (program : Program) (strict : Bool) (number : ℕ) (records : List Recorded) (start final : Moment) (text text_after : List ℕ) : Type 0 where
  pub runs : List Run
  pub as_many : length runs ≡ length records
  pub run : (history : List Entry) → IsLaterThanAll final.read history → AreRuns history program strict start records runs final
  pub added : List Waiting
  pub own : final.own ≡ added ++ start.own
  pub count : (n : ℕ) → start.recorded ≡ Some n → final.recorded ≡ Some (n + length added)
  pub printed : text_after ≡ text ++ runs_text number runs

-- a script was run behind the roles and users of a configuration, and its outcomes printed behind this text
pub record IsScripted (program : Program) (strict : Bool) (roles : List ConfigRole) (users : List ConfigUser) (lines : List AdminLine) (g : Solo) (text text_after : List ℕ) : Type 0 where
  pub opening : List Entry
  pub is_opening : IsOpening roles users opening
  pub run : IsScriptRun program strict 2 lines opening g.board.log text text_after
  pub own : HasOwnLog g

-- recorded sessions were served at a ground, and printed behind this text with the journal of its history in the end
pub record AreServed (program : Program) (strict : Bool) (records : List Recorded) (g : Solo) (text text_after : List ℕ) : Type 0 where
  pub final : Solo
  pub between : List ℕ
  pub sessions : AreSessionsRun program strict 1 records (moment_of g) (moment_of final) text between
  pub history : History
  pub limit : history.limit ≡ None
  pub later : IsLaterThanAll final.read history.entries
  pub log : history.entries ≡ final.board.log
  pub ends : EndsWith history.entries final.own
  pub printed : text_after ≡ between ++ codes "journal\n" ++ journal_text history

-- a transcript was printed behind this text
pub record IsReplayBy (program : Program) (strict : Bool) (roles : List ConfigRole) (users : List ConfigUser) (lines : List AdminLine) (records : List Recorded) (text text_after : List ℕ) : Type 0 where
  pub ground : Solo
  pub between : List ℕ
  pub script : IsScripted program strict roles users lines ground text between
  pub served : AreServed program strict records ground between text_after
