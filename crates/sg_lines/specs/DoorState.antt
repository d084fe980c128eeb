-- what a door in memory records, and who is still to come
use Rattle.std.specs.Prelude.{◌≡◌, ◌⊎◌, ℕ, ◌<◌, ◌≤◌, List, [], ◌∷◌, Option, Some, None, Result, Ok, Err}
use Rattle.std.specs.declared.alloc.AllocError.{AllocError}
use Rattle.sg_lines.specs.declared.door.Met.{Met}
use Rattle.sg_lines.specs.declared.door.Met.TheVariants as met
use Rattle.sg_lines.specs.declared.door_state.DoorState.{DoorState}
use Rattle.sg_lines.specs.Door.{DoorRecord, limit_of}

module _ {L T : Type 0} where
  abbrev pub record_of : DoorState L T → DoorRecord T
  record_of state = record { opened = state.openings.items; callers = state.callers; ended = state.ended; traces = state.trail }

  -- the end comes only after as many callers as the last opening accepts, or where no more lines come
  abbrev pub EndsInTime : DoorRecord T → List L → Met L → Type 0
  EndsInTime before lines (met.Caller line) = Unit {0}
  EndsInTime before lines met.End = (limit_of before.opened ≤ before.callers) ⊎ (lines ≡ [])
  EndsInTime before lines met.Failed = Unit {0}
  EndsInTime before lines met.Memory = Unit {0}

module _ {L : Type 0} where
  -- a caller has the first of these lines, and the others are still to come
  abbrev pub TakesFirst : List L → Met L → List L → Type 0
  TakesFirst lines (met.Caller line) later = lines ≡ line ∷ later
  TakesFirst lines met.End later = later ≡ lines
  TakesFirst lines met.Failed later = later ≡ lines
  TakesFirst lines met.Memory later = later ≡ lines

  -- the answer to an accepting that found a line, or none, or ran out of memory
  abbrev pub met_of : Result (Option L) AllocError → Met L
  met_of (Ok (Some line)) = met.Caller line
  met_of (Ok None) = met.End
  met_of (Err error) = met.Memory

  -- for the trace of a caller, behind so many others, there is a place among so many
  abbrev pub HasPlace : ℕ → Met L → ℕ → Type 0
  HasPlace callers (met.Caller line) places = callers < places
  HasPlace callers met.End places = Unit {0}
  HasPlace callers met.Failed places = Unit {0}
  HasPlace callers met.Memory places = Unit {0}

module _ {L : Type 0} (renewed : L → L) where
  -- a caller has the first of these lines, renewed, and the others are still to come
  abbrev pub ComesNext : List L → Met L → List L → Type 0
  ComesNext lines (met.Caller line) later = (first : L) × (lines ≡ first ∷ later) × (line ≡ renewed first)
  ComesNext lines met.End later = later ≡ lines
  ComesNext lines met.Failed later = later ≡ lines
  ComesNext lines met.Memory later = later ≡ lines
