-- what a door and a server come to while callers are served
use Rattle.std.specs.Prelude.{◌≡◌, ℕ, ◌+◌, List, [], ◌∷◌, ◌++◌, length, reverse, Bool, true, Option, Some, None, IsSome}
use Rattle.sg_lines.specs.Door.{DoorRecord}
use Rattle.gateway_server.specs.declared.serve.NoJob.{NoJob}
use Rattle.gateway_server.specs.declared.serve.NoJob.TheVariants as refusal
use Rattle.gateway_server.specs.declared.stop.DoorEnd.{DoorEnd}
use Rattle.gateway_server.specs.declared.stop.DoorEnd.TheVariants as end
use Rattle.gateway_server.specs.declared.stop.Stop.{Stop}
use Rattle.gateway_server.specs.declared.stop.Stop.TheVariants as stop

-- serving ends where no more callers come or no more jobs are made, fails where accepting failed, and is out of memory else
abbrev pub end_of : Stop → DoorEnd
end_of stop.End = end.Ended
end_of stop.Failed = end.Failed
end_of (stop.Refused refusal.Spent) = end.Ended
end_of (stop.Refused refusal.Memory) = end.Memory
end_of stop.Memory = end.Memory

-- the last refusal of a job
abbrev pub refusal_after : Option NoJob → Option Stop → Option NoJob
refusal_after before None = before
refusal_after before (Some stop.End) = before
refusal_after before (Some stop.Failed) = before
refusal_after before (Some (stop.Refused why)) = Some why
refusal_after before (Some stop.Memory) = before

-- of how many callers the job was refused
abbrev pub refused_by : Option Stop → ℕ
refused_by None = 0
refused_by (Some stop.End) = 0
refused_by (Some stop.Failed) = 0
refused_by (Some (stop.Refused why)) = 1
refused_by (Some stop.Memory) = 0

-- whether accepting has answered its end
abbrev pub ended_after : Bool → Option Stop → Bool
ended_after before None = before
ended_after before (Some stop.End) = true
ended_after before (Some stop.Failed) = before
ended_after before (Some (stop.Refused why)) = before
ended_after before (Some stop.Memory) = before

module _ {T : Type 0} where
  -- what a door records once so many more callers came, these traces came back, the newest first, and this stopped it, if anything did
  abbrev pub served_after : DoorRecord T → ℕ → List T → Option Stop → DoorRecord T
  served_after before callers came why = record before { callers = before.callers + callers; ended = ended_after before.ended why; traces = before.traces ++ reverse came }

  -- the same where the door records
  abbrev pub served_if_recorded : Option (DoorRecord T) → ℕ → List T → Option Stop → Option (DoorRecord T)
  served_if_recorded None callers came why = None
  served_if_recorded (Some before) callers came why = Some (served_after before callers came why)

  -- each caller's trace came back, but that of one whose job was refused; what held of the traces holds of them behind these
  abbrev pub ServedIfRecorded : (List T → Type 0) → Option (DoorRecord T) → Stop → (List T → Type 0) → Option (DoorRecord T) → Type 0
  ServedIfRecorded held before why holds after =
      (came : List T) × (after ≡ served_if_recorded before (length came + refused_by (Some why)) came (Some why)) × (IsSome before → (traces : List T) → held traces → holds (came ++ traces))

  -- for proofs: the same while so many jobs were out, and so many are
  pub record Serves (held : List T → Type 0) (was_out : ℕ) (before : Option (DoorRecord T)) (why : Option Stop) (holds : List T → Type 0) (out : ℕ) (after : Option (DoorRecord T)) : Type 0 where
    pub callers : ℕ
    pub came : List T
    pub door : after ≡ served_if_recorded before callers came why
    pub all : length came + out + refused_by why ≡ callers + was_out
    pub kept : IsSome before → (traces : List T) → held traces → holds (came ++ traces)

-- for proofs: each of these is one
abbrev pub Each : {X : Type 0} → (X → Type 0) → List X → Type 0
Each Is [] = Unit {0}
Each Is (x ∷ xs) = Is x × Each Is xs
