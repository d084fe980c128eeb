-- Events read from the bytes that were written of them.
use Rattle.std.proofs.Common.{◌≡◌, ℕ, List, [], ◌∷◌, Result, Ok, refl, sym, ap, subst, ◌∙◌}
use Rattle.std.specs.Prelude.{IsOkAnd}
use Rattle.blip_frame.specs.Checksum.{checksum}
use Rattle.blip_frame.specs.Frame.{FrameParts, IsWrittenAfter, payload_sent_after, frame_at}
use Rattle.blip_frame.specs.declared.frame.FrameFault.{FrameFault}
use Rattle.blip_mux.specs.Joining.{Event, came, expected}
use Rattle.blip_mux.specs.Arriving.{Arrival, bytes, awaits, AreSentAfter, with_event, read_before, events_at}

-- what is written of a frame is read again
abbrev pub ReadsFrames : Type 0
ReadsFrames = (sent text : List ℕ) (f : FrameParts) → IsWrittenAfter sent text f → frame_at (checksum sent) text ≡ Ok (f, checksum (payload_sent_after sent f))

read_again : ReadsFrames → (sent : List ℕ) (arrivals : List Arrival) (events : List Event) → AreSentAfter sent arrivals events → events_at (checksum sent) arrivals ≡ Ok events
read_again again sent [] [] are = refl
read_again again sent [] (event ∷ events) are = absurd are
read_again again sent (bytes text ∷ arrivals) [] are = absurd are
read_again again sent (awaits number ∷ arrivals) [] are = absurd are
read_again again sent (bytes text ∷ arrivals) (came f ∷ events) are =
    ap (λ (r : Result (FrameParts × ℕ) FrameFault). read_before r (λ after. events_at after arrivals)) (again sent text f are.0)
    ∙ ap (with_event (came f)) (read_again again (payload_sent_after sent f) arrivals events are.1)
read_again again sent (bytes text ∷ arrivals) (expected number ∷ events) are = absurd are
read_again again sent (awaits number ∷ arrivals) (came f ∷ events) are = absurd are
read_again again sent (awaits number ∷ arrivals) (expected other ∷ events) are =
    ap (with_event (expected number)) (read_again again sent arrivals events are.1) ∙ ap (λ (n : ℕ). Ok (expected n ∷ events)) are.0

pub read_all : ReadsFrames → checksum [] ≡ 0 → (arrivals : List Arrival) (events : List Event) → AreSentAfter [] arrivals events → events_at 0 arrivals ≡ Ok events
read_all again start arrivals events are = ap (λ (n : ℕ). events_at n arrivals) (sym start) ∙ read_again again [] arrivals events are

-- what holds of the events holds of what is read
pub of_read : (r : Result (List Event) FrameFault) (events : List Event) (P : List Event → Type 0) → r ≡ Ok events → P events → IsOkAnd r P
of_read r events P e h = subst (λ (x : Result (List Event) FrameFault). IsOkAnd x P) (sym e) h
