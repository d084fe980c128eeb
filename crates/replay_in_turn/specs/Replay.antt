-- What a replay is.
use Rattle.std.specs.Prelude.{◌≡◌, ◌++◌, ℕ, List, length, not, None, Some}
use Rattle.std.specs.Arc.{arc_value}
use Rattle.sg_history.specs.declared.book.Waiting.{Waiting}
use Rattle.sg_history.specs.declared.entries.Entry.{Entry}
use Rattle.sg_history.specs.History.{History}
use Rattle.principals.specs.declared.admin_line.AdminLine.{AdminLine}
use Rattle.record_file.specs.declared.record.Recorded.{Recorded}
use Rattle.gateway_config.specs.declared.config.Config.{Config}
use Rattle.doc_board.specs.declared.outcome.Outcome.{Outcome}
use Rattle.write_path.specs.Own.{own_in_order}
use Rattle.session_run.specs.Answered.{Moment}
use Rattle.session_threads.specs.Opening.{IsOpening}
use Rattle.replay_in_turn.specs.Script.{AreLinesRun}
use Rattle.replay_in_turn.specs.Sessions.{AreRuns}
use Rattle.transcripts.specs.Transcript.{Run, transcript}

-- The text is the transcript of one history, which begins with the configuration's roles and users. The lines of the script were run
-- one after another at the boards of the history that they made, under the configuration's program, and then the recorded sessions were
-- served one after another. All boards that were read are earlier than the history's, which has, behind the entries of the script, what
-- the sessions stored, and nothing else.
pub record IsReplay (config : Config) (lines : List AdminLine) (records : List Recorded) (text : List ℕ) : Type 0 where
  pub opening : List Entry
  pub is_opening : IsOpening config.roles config.users opening
  pub outcomes : List Outcome
  pub scripted : List Entry
  pub script : AreLinesRun (arc_value config.program) (not config.conflicts) opening lines outcomes scripted
  pub start : Moment
  pub final : Moment
  pub begins : start.recorded ≡ Some (length scripted)
  pub runs : List Run
  pub history : History
  pub limit : history.limit ≡ None
  pub sessions : AreRuns history.entries (arc_value config.program) (not config.conflicts) start records runs final
  pub added : List Waiting
  pub own : final.own ≡ added ++ start.own
  pub stored : history.entries ≡ scripted ++ own_in_order added
  pub printed : text ≡ transcript outcomes runs history
