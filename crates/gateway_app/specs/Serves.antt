-- What a run of `serve` answers and does.
use Rattle.std.specs.Prelude.{◌≡◌, ◌⊎◌, ◌<◌, ℕ, List, [], ◌∷◌, ◌++◌, Option, Some, None}
use Rattle.sg_outside.specs.declared.sink.Gave.TheVariants as gave
use Rattle.sg_outside.specs.Files.{Load}
use Rattle.sg_lines.specs.Door.{DoorRecord, opened_after}
use Rattle.sg_lines.specs.Line.{TraceRecord}
use Rattle.gateway_config.specs.declared.config.Config.{Config}
use Rattle.gateway_server.specs.declared.stop.DoorEnd.{DoorEnd}
use Rattle.gateway_server.specs.declared.stop.DoorEnd.TheVariants as end
use Rattle.session_server.specs.Served.{ServesIfRecorded}
use Rattle.command_line.specs.declared.status.Status.{Status}
use Rattle.command_line.specs.declared.status.Status.TheVariants as status
use Rattle.command_line.specs.Loads.{AreAcceptedLoads, IsStopped}
use Rattle.replay_command.specs.Inputs.{IsBadConfig, IsBadFileAt, IsConfigIn, IsGoodFile}

-- the status that serving ends with
abbrev pub status_of : DoorEnd → Status
status_of end.Ended = status.Ok
status_of end.Failed = status.DoorFault
status_of end.Memory = status.Memory

-- the statuses that serving may end with
abbrev pub EndsServing : Status → Type 0
EndsServing s = (s ≡ status.Ok) ⊎ (s ≡ status.DoorFault) ⊎ (s ≡ status.Memory)

module _ {T : Type 0} (traced : T → Option TraceRecord) where
  -- a door that records was opened with the configuration's address and number of callers, and its callers were served; or it was not
  -- opened, and is as it was
  abbrev pub OpensAndServes : Config → Option (DoorRecord T) → Status → Option (DoorRecord T) → Type 0
  OpensAndServes config None s after = after ≡ None
  OpensAndServes config (Some before) s after =
      ((after ≡ Some before) × ((s ≡ status.DoorFault) ⊎ (s ≡ status.Memory)))
      ⊎ ((ending : DoorEnd) × (s ≡ status_of ending) × ServesIfRecorded traced config (Some (opened_after before config.bind config.accepts gave.Done)) ending after)

  -- the configuration is that of the file, and by it the door was opened and its callers were served
  abbrev pub ServesFile : List ℕ → Option (DoorRecord T) → Status → Option (DoorRecord T) → Type 0
  ServesFile bytes before s after = (config : Config) × IsConfigIn bytes config × OpensAndServes config before s after

  -- each status with what it says of the configuration's bytes and of the door
  abbrev pub EndsServe : Status → List ℕ → Option (DoorRecord T) → Option (DoorRecord T) → Type 0
  EndsServe status.Ok bytes before after = ServesFile bytes before status.Ok after
  EndsServe status.BadWords bytes before after = ⊥
  EndsServe (status.BadInput file place why) bytes before after = (file ≡ 1) × IsBadConfig bytes place why × ((config : Config) → ¬ IsConfigIn bytes config) × (after ≡ before)
  EndsServe status.ReadFault bytes before after = after ≡ before
  EndsServe status.WriteFault bytes before after = ⊥
  EndsServe status.DoorFault bytes before after = ServesFile bytes before status.DoorFault after
  EndsServe status.Memory bytes before after = (after ≡ before) ⊎ ServesFile bytes before status.Memory after

-- what a run loaded of the configuration, and how it ended by it
abbrev pub LoadsConfig : Option (List ℕ → Option (List ℕ)) → List ℕ → List Load → List Load → Status → Type 0
LoadsConfig recorded config before after s =
    (done : List Load) × (after ≡ before ++ done)
    × ((AreAcceptedLoads recorded IsGoodFile IsBadFileAt 1 (config ∷ []) done × EndsServing s) ⊎ IsStopped recorded IsGoodFile IsBadFileAt 1 (config ∷ []) done s)

-- a fault that is answered was counted, of files, a sink and a door
abbrev pub CountedAll : Status → ℕ → ℕ → ℕ → ℕ → ℕ → ℕ → Type 0
CountedAll status.DoorFault read read' wrote wrote' door door' = door < door'
CountedAll status.Ok read read' wrote wrote' door door' = Unit {0}
CountedAll status.BadWords read read' wrote wrote' door door' = Unit {0}
CountedAll (status.BadInput file place why) read read' wrote wrote' door door' = Unit {0}
CountedAll status.ReadFault read read' wrote wrote' door door' = read < read'
CountedAll status.WriteFault read read' wrote wrote' door door' = wrote < wrote'
CountedAll status.Memory read read' wrote wrote' door door' = Unit {0}
