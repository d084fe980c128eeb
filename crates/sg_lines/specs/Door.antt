-- what a door answers, and what it records
use Rattle.std.specs.Prelude.{◌≡◌, ℕ, ◌+◌, ◌-◌, ◌<◌, ◌≤◌, Bool, true, false, List, [], ◌∷◌, ◌++◌, length, Option, Some, None, slice_get}
use Rattle.sg_outside.specs.declared.sink.Gave.{Gave}
use Rattle.sg_outside.specs.declared.sink.Gave.TheVariants as gave
use Rattle.sg_outside.specs.Wire.{LinkRecord, no_line}
use Rattle.sg_lines.specs.declared.door.Met.{Met}
use Rattle.sg_lines.specs.declared.door.Met.TheVariants as met
use Rattle.sg_lines.specs.declared.door.Opening.{Opening}

-- what a door records: the words of each opening, how many callers came, whether it answered its end, and the traces that came back, in order
pub record DoorRecord (T : Type 0) : Type 0 where
  pub opened : List Opening
  pub callers : ℕ
  pub ended : Bool
  pub traces : List T

-- how many callers an opening accepts, if there is one
abbrev pub accepted_by : Option Opening → ℕ
accepted_by None = 0
accepted_by (Some opening) = opening.accepts

-- how many callers the last opening accepts
abbrev pub limit_of : List Opening → ℕ
limit_of opened = accepted_by (slice_get opened (length opened - 1))

module _ {T : Type 0} where
  -- what a door records that was not opened yet
  abbrev pub new_door : DoorRecord T
  new_door = record { opened = []; callers = 0; ended = false; traces = [] }

  -- what a door records once it was opened by these words; at a fault and out of memory it was not
  abbrev pub opened_after : DoorRecord T → List ℕ → ℕ → Gave → DoorRecord T
  opened_after before bind accepts gave.Done = record before { opened = before.opened ++ record { bind = bind; accepts = accepts } ∷ [] }
  opened_after before bind accepts gave.Failed = before
  opened_after before bind accepts gave.Memory = before

  -- the same where the door records
  abbrev pub OpensIfRecorded : Option (DoorRecord T) → List ℕ → ℕ → Gave → Option (DoorRecord T) → Type 0
  OpensIfRecorded None bind accepts answer after = after ≡ None
  OpensIfRecorded (Some before) bind accepts answer after = after ≡ Some (opened_after before bind accepts answer)

  -- what a door records once this trace came back
  abbrev pub back_after : DoorRecord T → T → DoorRecord T
  back_after before trace = record before { traces = before.traces ++ trace ∷ [] }

  -- the same where the door records
  abbrev pub BacksIfRecorded : Option (DoorRecord T) → T → Option (DoorRecord T) → Type 0
  BacksIfRecorded None trace after = after ≡ None
  BacksIfRecorded (Some before) trace after = after ≡ Some (back_after before trace)

module _ {L : Type 0} where
  -- a fault is counted, and the count never falls
  abbrev pub CountsMet : ℕ → Met L → ℕ → Type 0
  CountsMet before (met.Caller line) after = before ≤ after
  CountsMet before met.End after = before ≤ after
  CountsMet before met.Failed after = before < after
  CountsMet before met.Memory after = before ≤ after

module _ {L T : Type 0} where
  -- what a door records once accepting gave this
  abbrev pub met_after : DoorRecord T → Met L → DoorRecord T
  met_after before (met.Caller line) = record before { callers = before.callers + 1 }
  met_after before met.End = record before { ended = true }
  met_after before met.Failed = before
  met_after before met.Memory = before

  -- the same where the door records
  abbrev pub AcceptsIfRecorded : Option (DoorRecord T) → Met L → Option (DoorRecord T) → Type 0
  AcceptsIfRecorded None answer after = after ≡ None
  AcceptsIfRecorded (Some before) answer after = after ≡ Some (met_after before answer)

  -- at a door that records a caller comes only where fewer came than the last opening accepts
  abbrev pub IsWithin : Option (DoorRecord T) → Met L → Type 0
  IsWithin None answer = Unit {0}
  IsWithin (Some before) (met.Caller line) = before.callers < limit_of before.opened
  IsWithin (Some before) met.End = Unit {0}
  IsWithin (Some before) met.Failed = Unit {0}
  IsWithin (Some before) met.Memory = Unit {0}

  -- the line of a caller at a door that records has recorded nothing yet
  abbrev pub IsFresh : (L → Option LinkRecord) → Option (DoorRecord T) → Met L → Type 0
  IsFresh recorded None answer = Unit {0}
  IsFresh recorded (Some before) (met.Caller line) = recorded line ≡ Some no_line
  IsFresh recorded (Some before) met.End = Unit {0}
  IsFresh recorded (Some before) met.Failed = Unit {0}
  IsFresh recorded (Some before) met.Memory = Unit {0}
