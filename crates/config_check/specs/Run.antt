-- What a run answers and does.
use Rattle.std.specs.Prelude.{◌≡◌, ℕ, ◌<◌, List, Option, Result, Ok, Err}
use Rattle.sg_history.specs.declared.fault.Why.TheVariants as whys
use Rattle.command_line.specs.declared.status.Status.{Status}
use Rattle.command_line.specs.declared.status.Status.TheVariants as status
use Rattle.command_line.specs.Run.{Took, TookPart}
use Rattle.config_check.specs.declared.verdict.Verdict.{Verdict}
use Rattle.config_check.specs.declared.verdict.Verdict.TheVariants.{Good, Long, Bad}
use Rattle.config_check.specs.Line.{verdict_line}
use Rattle.config_check.specs.Verdict.{IsVerdict}

-- how a run ends that has printed what is said of the configuration, which is the first of the files
abbrev pub verdict_status : Verdict → Status
verdict_status Good = status.Ok
verdict_status Long = status.BadInput 1 0 whys.Long
verdict_status (Bad r) = status.BadInput 1 0 (whys.Config r.path r.why)

-- each status with what it says of the file's bytes and of the sink
abbrev pub EndsVerdict : Status → List ℕ → Option (List ℕ) → Option (List ℕ) → Type 0
EndsVerdict status.Ok bytes before after = (v : Verdict) × IsVerdict bytes v × (status.Ok ≡ verdict_status v) × Took before after (verdict_line v)
EndsVerdict (status.BadInput file place why) bytes before after =
    (v : Verdict) × IsVerdict bytes v × (status.BadInput file place why ≡ verdict_status v) × Took before after (verdict_line v)
EndsVerdict status.WriteFault bytes before after = (v : Verdict) × IsVerdict bytes v × TookPart before after (verdict_line v)
EndsVerdict status.ReadFault bytes before after = after ≡ before
EndsVerdict status.Memory bytes before after = after ≡ before
EndsVerdict status.BadWords bytes before after = ⊥
EndsVerdict status.DoorFault bytes before after = ⊥

-- what was found of a file with these bytes
abbrev pub IsFoundVerdict : List ℕ → Result Verdict Status → Type 0
IsFoundVerdict bytes (Ok v) = IsVerdict bytes v
IsFoundVerdict bytes (Err status.ReadFault) = Unit {0}
IsFoundVerdict bytes (Err status.Memory) = Unit {0}
IsFoundVerdict bytes (Err status.Ok) = ⊥
IsFoundVerdict bytes (Err status.BadWords) = ⊥
IsFoundVerdict bytes (Err (status.BadInput file place why)) = ⊥
IsFoundVerdict bytes (Err status.WriteFault) = ⊥
IsFoundVerdict bytes (Err status.DoorFault) = ⊥

-- how a run ends at the printing, with the count of the sink's faults and what it took
abbrev pub PrintsVerdict : Status → Verdict → ℕ → ℕ → Option (List ℕ) → Option (List ℕ) → Type 0
PrintsVerdict status.Ok v faults faults' before after = (status.Ok ≡ verdict_status v) × Took before after (verdict_line v)
PrintsVerdict (status.BadInput file place why) v faults faults' before after =
    (status.BadInput file place why ≡ verdict_status v) × Took before after (verdict_line v)
PrintsVerdict status.WriteFault v faults faults' before after = (faults < faults') × TookPart before after (verdict_line v)
PrintsVerdict status.Memory v faults faults' before after = after ≡ before
PrintsVerdict status.BadWords v faults faults' before after = ⊥
PrintsVerdict status.ReadFault v faults faults' before after = ⊥
PrintsVerdict status.DoorFault v faults faults' before after = ⊥
