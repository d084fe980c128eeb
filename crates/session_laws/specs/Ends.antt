-- How sessions end, by what was received and sent.
use Rattle.std.specs.Prelude.{◌≡◌, Bool, true, false, List, [], ◌∷◌, ◌++◌, Result, Ok, Err}
use Rattle.sg_outside.specs.declared.wire.Got.{Got}
use Rattle.sg_outside.specs.declared.wire.Got.TheVariants as got
use Rattle.blip_frame.specs.Frame.{FrameParts, frames_at}
use Rattle.blip_frame.specs.declared.frame.FrameFault.{FrameFault}
use Rattle.blip_mux.specs.declared.inbox.Taken.{Taken}
use Rattle.blip_mux.specs.Joining.{answer_in}
use Rattle.blip_mux.specs.Sending.{Sending}
use Rattle.session_mux.specs.Muxed.{IsNoBadAck}
use Rattle.session_run.specs.Served.{frame_bytes}
use Rattle.session_run.specs.Turns.{SessionTurn, turn_frames, events_of}

-- a fault of the wire, or a text message
abbrev pub is_faulty : Got → Bool
is_faulty (got.Frame bytes) = false
is_faulty got.Text = true
is_faulty got.Idle = false
is_faulty got.End = false
is_faulty got.Failed = true
is_faulty got.Memory = false

-- after these turns, which left this to be sent, a frame gives something, and is no acknowledgement that can't be true of what was sent
abbrev pub IsInOrder : List SessionTurn → Sending → FrameParts → Type 0
IsInOrder turns left f = (given : Taken) × (answer_in (events_of turns) f ≡ Ok given) × IsNoBadAck given left

-- what was received are frames, and where one stands behind those of the turns, it is in order
abbrev pub AreInOrder : List SessionTurn → Sending → Result (List FrameParts) FrameFault → Type 0
AreInOrder turns left (Ok frames) = (f : FrameParts) → frames ≡ turn_frames turns ++ f ∷ [] → IsInOrder turns left f
AreInOrder turns left (Err fault) = ⊥

abbrev pub AreAcksInOrder : List SessionTurn → Sending → List Got → Type 0
AreAcksInOrder turns left results = AreInOrder turns left (frames_at 0 (frame_bytes results))
