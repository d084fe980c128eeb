-- What a run of `replay` answers and does.
use Rattle.std.specs.Prelude.{ℕ, List, Option}
use Rattle.gateway_config.specs.declared.config.Config.{Config}
use Rattle.principals.specs.declared.admin_line.AdminLine.{AdminLine}
use Rattle.record_file.specs.declared.record.Recorded.{Recorded}
use Rattle.command_line.specs.declared.status.Status.{Status}
use Rattle.command_line.specs.declared.status.Status.TheVariants as status
use Rattle.replay_command.specs.Inputs.{AreInputs, Contents, Inputs, IsFirstBadFile}
use Rattle.command_line.specs.Run.{Took, TookPart}

-- the text is the transcript of a replay, of this kind, of what the files hold
pub record IsTranscript (Is : Config → List AdminLine → List Recorded → List ℕ → Type 0) (contents : Contents) (text : List ℕ) : Type 0 where
  pub inputs : Inputs
  pub are_inputs : AreInputs contents inputs
  pub replay : Is inputs.config inputs.lines inputs.records text

-- each status with what it says of the files' bytes and of the sink
abbrev pub EndsReplay : (Config → List AdminLine → List Recorded → List ℕ → Type 0) → Status → Contents → Option (List ℕ) → Option (List ℕ) → Type 0
EndsReplay Is status.Ok contents before after = (text : List ℕ) × IsTranscript Is contents text × Took before after text
EndsReplay Is status.BadWords contents before after = ⊥
EndsReplay Is (status.BadInput file place why) contents before after = IsFirstBadFile contents file place why × ((i : Inputs) → ¬ AreInputs contents i)
EndsReplay Is status.ReadFault contents before after = Unit {0}
EndsReplay Is status.WriteFault contents before after = (text : List ℕ) × IsTranscript Is contents text × TookPart before after text
EndsReplay Is status.DoorFault contents before after = ⊥
EndsReplay Is status.Memory contents before after = Unit {0}
