-- The bytes of frames, as they arrive.
use Rattle.std.specs.Prelude.{◌≡◌, ℕ, List, [], ◌∷◌, Result, Ok, Err}
use Rattle.blip_frame.specs.Frame.{FrameParts, IsWrittenAfter, payload_sent_after, frame_at}
use Rattle.blip_frame.specs.declared.frame.FrameFault.{FrameFault}
use Rattle.blip_mux.specs.Joining.{Event, came, expected}

-- the bytes of a frame arrive, or a reply to the request of a number is expected from now on
pub data Arrival : Type 0 where
  bytes : List ℕ → Arrival
  awaits : ℕ → Arrival

-- each frame is written in its place, where these payload bytes were sent before
abbrev pub AreSentAfter : List ℕ → List Arrival → List Event → Type 0
AreSentAfter sent [] [] = Unit {0}
AreSentAfter sent [] (event ∷ events) = ⊥
AreSentAfter sent (arrival ∷ arrivals) [] = ⊥
AreSentAfter sent (bytes text ∷ arrivals) (came f ∷ events) = IsWrittenAfter sent text f × AreSentAfter (payload_sent_after sent f) arrivals events
AreSentAfter sent (bytes text ∷ arrivals) (expected number ∷ events) = ⊥
AreSentAfter sent (awaits number ∷ arrivals) (came f ∷ events) = ⊥
AreSentAfter sent (awaits number ∷ arrivals) (expected other ∷ events) = (number ≡ other) × AreSentAfter sent arrivals events

-- an event before those that were read after it
abbrev pub with_event : Event → Result (List Event) FrameFault → Result (List Event) FrameFault
with_event event (Ok events) = Ok (event ∷ events)
with_event event (Err fault) = Err fault

abbrev pub read_before : Result (FrameParts × ℕ) FrameFault → (ℕ → Result (List Event) FrameFault) → Result (List Event) FrameFault
read_before (Ok found) rest = with_event (came found.0) (rest found.1)
read_before (Err fault) rest = Err fault

-- what is read of the bytes in a direction whose checksum so far is this, or the first fault
abbrev pub events_at : ℕ → List Arrival → Result (List Event) FrameFault
events_at value [] = Ok []
events_at value (bytes text ∷ arrivals) = read_before (frame_at value text) (λ after. events_at after arrivals)
events_at value (awaits number ∷ arrivals) = with_event (expected number) (events_at value arrivals)
