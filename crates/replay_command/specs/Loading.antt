-- What the functions of a replay's run hand on to one another. Only proofs need this.
use Rattle.std.specs.Prelude.{◌≡◌, ◌<◌, ℕ, List, Vec, Option, Result, Ok, Err}
use Rattle.std.specs.Global.{Global}
use Rattle.sg_history.specs.declared.fault.ReadLog.{ReadLog}
use Rattle.sg_history.specs.declared.fault.ReadLog.TheVariants as read
use Rattle.sg_history.specs.declared.fault.Why.{Why}
use Rattle.sg_history.specs.declared.fault.Why.TheVariants as whys
use Rattle.gateway_config.specs.declared.config.Config.{Config}
use Rattle.gateway_config.specs.declared.fault.ConfigFault.{ConfigFault}
use Rattle.gateway_config.specs.declared.fault.ConfigFault.TheVariants as config
use Rattle.principals.specs.declared.admin_line.AdminLine.{AdminLine}
use Rattle.record_file.specs.declared.record.Recorded.{Recorded}
use Rattle.replay_command.specs.declared.inputs.LoadedInputs.{LoadedInputs}
use Rattle.command_line.specs.declared.status.Status.{Status}
use Rattle.command_line.specs.declared.status.Status.TheVariants as status
use Rattle.replay_command.specs.Inputs.{AreInputs, AreSessionsIn, Contents, Inputs, IsBadAdmin, IsBadSessionAmong, IsBadConfig, IsBadSession, IsConfigIn, IsFirstBadFile, IsScriptIn, IsSessionIn}
use Rattle.command_line.specs.Run.{Took, TookPart}

-- what was read of files, of which something holds, or how the run ends: at the file with this number, where it holds of nothing, or at one
-- that was not read
abbrev pub IsRead : {X Y : Type 0} → (X → Y) → (Y → Type 0) → (ℕ → ℕ → Why → Type 0) → Result X Status → Type 0
IsRead view Is IsBad (Ok x) = Is (view x)
IsRead {Y = Y} view Is IsBad (Err (status.BadInput file place why)) = IsBad file place why × ((y : Y) → ¬ Is y)
IsRead view Is IsBad (Err status.ReadFault) = Unit {0}
IsRead view Is IsBad (Err status.Memory) = Unit {0}
IsRead view Is IsBad (Err status.Ok) = ⊥
IsRead view Is IsBad (Err status.BadWords) = ⊥
IsRead view Is IsBad (Err status.WriteFault) = ⊥
IsRead view Is IsBad (Err status.DoorFault) = ⊥

abbrev pub IsConfigRead : List ℕ → Result Config Status → Type 0
IsConfigRead bytes result = IsRead (λ (config : Config). config) (IsConfigIn bytes) (λ file place why. (file ≡ 1) × IsBadConfig bytes place why) result

abbrev pub IsScriptRead : List ℕ → Result (List AdminLine) Status → Type 0
IsScriptRead bytes result = IsRead (λ (lines : List AdminLine). lines) (IsScriptIn bytes) (λ file place why. (file ≡ 2) × IsBadAdmin bytes place why) result

abbrev pub IsSessionRead : ℕ → List ℕ → Result Recorded Status → Type 0
IsSessionRead number bytes result = IsRead (λ (recorded : Recorded). recorded) (IsSessionIn bytes) (λ file place why. (file ≡ number) × IsBadSession bytes place why) result

abbrev pub AreSessionsRead : List (List ℕ) → Result (Vec Recorded Global) Status → Type 0
AreSessionsRead contents result = IsRead (λ (v : Vec Recorded Global). v.items) (AreSessionsIn contents) (IsBadSessionAmong 3 contents) result

abbrev pub inputs_of : LoadedInputs → Inputs
inputs_of i = record { config = i.config; lines = i.lines; records = i.sessions.items }

abbrev pub AreInputsRead : Contents → Result LoadedInputs Status → Type 0
AreInputsRead contents result = IsRead inputs_of (AreInputs contents) (IsFirstBadFile contents) result

-- how the run ends where the configuration is refused
abbrev pub config_status : ConfigFault → Status
config_status (config.Bad path why) = status.BadInput 1 0 (whys.Config path why)
config_status config.Memory = status.Memory

-- a refusal of the file with this number
abbrev pub IsRefused : ℕ → ReadLog → Status → Type 0
IsRefused number (read.Bad bad) (status.BadInput file place why) = (file ≡ number) × (bad ≡ record { place = place; why = why })
IsRefused number read.Memory status.Memory = Unit {0}
IsRefused number fault other = ⊥

-- a text was printed that is the transcript of a replay of these, of this kind, with the count of the sink's faults and what it took
abbrev pub PrintsReplay : (Config → List AdminLine → List Recorded → List ℕ → Type 0) → Status → Inputs → ℕ → ℕ → Option (List ℕ) → Option (List ℕ) → Type 0
PrintsReplay Is status.Ok i faults faults' before after = (text : List ℕ) × Is i.config i.lines i.records text × Took before after text
PrintsReplay Is status.WriteFault i faults faults' before after =
    (faults < faults') × (text : List ℕ) × Is i.config i.lines i.records text × TookPart before after text
PrintsReplay Is status.DoorFault i faults faults' before after = ⊥
PrintsReplay Is status.Memory i faults faults' before after = after ≡ before
PrintsReplay Is status.BadWords i faults faults' before after = ⊥
PrintsReplay Is (status.BadInput file place why) i faults faults' before after = ⊥
PrintsReplay Is status.ReadFault i faults faults' before after = ⊥
