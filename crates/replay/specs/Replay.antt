-- What a replay is.
use Rattle.std.specs.Prelude.{◌≡◌, ℕ, List, [], ◌∷◌, None, Some, map}
use Rattle.sg_outside.specs.Wire.{Traffic}
use Rattle.sg_outside.specs.MemWire.{traffic}
use Rattle.sg_history.specs.History.{History}
use Rattle.sg_history.specs.Board.{BoardState}
use Rattle.principals.specs.declared.admin_line.AdminLine.{AdminLine}
use Rattle.record_file.specs.declared.record.Recorded.{Recorded}
use Rattle.record_file.specs.Record.{results_of}
use Rattle.gateway_config.specs.declared.config.Config.{Config}
use Rattle.session_run.specs.declared.ended.End.TheVariants.{WireFault}
use Rattle.session_threads.specs.declared.played.LineOutcome.{LineOutcome}
use Rattle.session_threads.specs.Pairs.{AllOf}
use Rattle.session_threads.specs.Played.{Device, IsPlayed, Leaves}
use Rattle.transcripts.specs.Transcript.{Run, transcript}
use Rattle.replay.specs.Runs.{outcome_of}

-- the device of a recorded session: its wire gives what was recorded, and has not failed
abbrev pub device_of : Recorded → Device
device_of recorded = record {
  user = recorded.user;
  version = recorded.version;
  traffic = Some (traffic (results_of recorded.items) 0 [] []);
  faults = 0;
}

-- what is printed of a session: whose it was, what its wire sent, and how it ended
pub record IsRunOf (recorded : Recorded) (left : Leaves) (run : Run) : Type 0 where
  pub user : run.user ≡ recorded.user
  pub ended : run.ended ≡ left.ended
  pub after : Traffic
  pub traffic : left.traffic ≡ Some after
  pub sent : run.sent ≡ after.sent

abbrev pub AreRunsOf : List Recorded → List Leaves → List Run → Type 0
AreRunsOf [] [] [] = Unit {0}
AreRunsOf (recorded ∷ records) (one ∷ left) (run ∷ runs) = IsRunOf recorded one run × AreRunsOf records left runs
AreRunsOf records left runs = ⊥

-- The text is the transcript of a script and the recorded sessions that ran at the same time over one history: the outcome of each line, each
-- session, and the history that they left. No wire is said to have failed.
pub record IsReplay (config : Config) (lines : List AdminLine) (records : List Recorded) (text : List ℕ) : Type 0 where
  pub board : BoardState
  pub outcomes : List LineOutcome
  pub left : List Leaves
  pub played : IsPlayed config lines (map device_of records) board outcomes left
  pub faultless : AllOf (λ (one : Leaves). one.ended.end ≡ WireFault → ⊥) left
  pub runs : List Run
  pub are_runs : AreRunsOf records left runs
  pub history : History
  pub limit : history.limit ≡ None
  pub log : history.entries ≡ board.log
  pub printed : text ≡ transcript (map outcome_of outcomes) runs history
