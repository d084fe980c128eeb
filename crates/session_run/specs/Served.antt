-- What a session was, from the first result of the wire to its end.
use Rattle.std.specs.Prelude.{◌≡◌, ◌⊎◌, ◌≤◌, ℕ, ◌+◌, Bool, true, false, List, [], ◌∷◌, ◌++◌, length, Option, None, Result, Ok, Err}
use Rattle.std.specs.Arc.{arc_value}
use Rattle.sg_outside.specs.Wire.{Traffic}
use Rattle.sg_outside.specs.declared.sink.Gave.{Gave}
use Rattle.sg_outside.specs.declared.sink.Gave.TheVariants as gave
use Rattle.sg_outside.specs.declared.wire.Got.{Got}
use Rattle.sg_outside.specs.declared.wire.Got.TheVariants as got
use Rattle.blip_frame.specs.Frame.{FrameParts, frames_at, AreWrittenAfter}
use Rattle.blip_frame.specs.declared.frame.FrameFault.{FrameFault}
use Rattle.blip_mux.specs.Joining.{answer_in}
use Rattle.blip_mux.specs.Sending.{Sending, picked}
use Rattle.session_core.specs.declared.event.Event.{Event}
use Rattle.session_core.specs.declared.machine.Pending.TheVariants as pending
use Rattle.session_core.specs.Fronts.{looks_of, stored_of}
use Rattle.session_core.specs.State.{Machine, new_machine}
use Rattle.session_core.specs.Steps.{SessionStep}
use Rattle.session_mux.specs.declared.frame_why.FrameWhy.{FrameWhy}
use Rattle.session_mux.specs.declared.frame_why.FrameWhy.TheVariants as why
use Rattle.session_mux.specs.Frames.{IsBadTaken, why_of}
use Rattle.session_mux.specs.Sent.{Records}
use Rattle.session_run.specs.declared.ended.End.{End}
use Rattle.session_run.specs.declared.ended.End.TheVariants as end
use Rattle.session_run.specs.declared.ended.Ended.{Ended}
use Rattle.session_run.specs.declared.serve.Setup.{Setup}
use Rattle.session_run.specs.Answered.{Moment, HasReadGround, AreAnswered}
use Rattle.session_run.specs.Spent.{most_looks, spent_of, NeedsMore}
use Rattle.session_run.specs.Turns.{SessionTurn, undone, steps_of, turn_frames, framed, framed_by, events_of, AreLed, AreJoined, AreSent}

-- ---- what was received

-- whether all are frames, or moments at which nothing was there
abbrev pub are_frames : List Got → Bool
are_frames [] = true
are_frames (got.Frame bytes ∷ results) = are_frames results
are_frames (got.Text ∷ results) = false
are_frames (got.Idle ∷ results) = are_frames results
are_frames (got.End ∷ results) = false
are_frames (got.Failed ∷ results) = false
are_frames (got.Memory ∷ results) = false

-- the bytes of the frames
abbrev pub frame_bytes : List Got → List (List ℕ)
frame_bytes [] = []
frame_bytes (got.Frame bytes ∷ results) = bytes ∷ frame_bytes results
frame_bytes (got.Text ∷ results) = frame_bytes results
frame_bytes (got.Idle ∷ results) = frame_bytes results
frame_bytes (got.End ∷ results) = frame_bytes results
frame_bytes (got.Failed ∷ results) = frame_bytes results
frame_bytes (got.Memory ∷ results) = frame_bytes results

-- ---- how it ended

-- the last of these frames is at fault: its bytes are none, or after these turns, which left this to be sent, it gives nothing that can be
abbrev pub IsBadAfter : List SessionTurn → Sending → Result (List FrameParts) FrameFault → FrameWhy → Type 0
IsBadAfter turns left (Err fault) w = w ≡ why_of fault
IsBadAfter turns left (Ok frames) w = (f : FrameParts) × (frames ≡ turn_frames turns ++ f ∷ []) × IsBadTaken (answer_in (events_of turns) f) left w

-- the result that ended it is a frame at fault, or a text message
abbrev pub IsBad : List SessionTurn → Sending → List (List ℕ) → Got → FrameWhy → Type 0
IsBad turns left before (got.Frame bytes) w = IsBadAfter turns left (frames_at 0 (before ++ bytes ∷ [])) w
IsBad turns left before got.Text w = w ≡ why.NotBinary
IsBad turns left before got.Idle w = ⊥
IsBad turns left before got.End w = ⊥
IsBad turns left before got.Failed w = ⊥
IsBad turns left before got.Memory w = ⊥

-- how many results a session receives at most
abbrev pub most_results : ℕ
most_results = 1099511627776

-- The end, by the results that were taken in these turns, the last one, and the sending that failed: the wire's end; its fault as it
-- received or as it sent; the frame after those of the turns, which is at fault; none, where all looks that a session takes are spent
-- and one more is needed, or all results that it receives were taken; out of memory a frame or none.
abbrev pub EndsBy : List SessionTurn → Sending → End → List Got → List Got → List Gave → Type 0
EndsBy turns left end.Closed taken last failed = (last ≡ got.End ∷ []) × (failed ≡ [])
EndsBy turns left end.WireFault taken last failed = ((last ≡ got.Failed ∷ []) × (failed ≡ [])) ⊎ ((last ≡ []) × (failed ≡ gave.Failed ∷ []))
EndsBy turns left (end.BadFrame index w) taken last failed =
    (index ≡ length (turn_frames turns) + 1) × (bad : Got) × (last ≡ bad ∷ []) × IsBad turns left (frame_bytes taken) bad w × (failed ≡ [])
EndsBy turns left end.LooksFull taken last failed = (last ≡ []) × (failed ≡ [])
EndsBy turns left end.TurnsFull taken last failed = (last ≡ []) × (length taken ≡ most_results) × (failed ≡ [])
EndsBy turns left end.Memory taken last failed = (((bytes : List ℕ) × (last ≡ got.Frame bytes ∷ [])) ⊎ (last ≡ [])) × (failed ≡ [])

-- all was sent that may be sent, unless the wire failed or memory ran out
abbrev pub IsSentAt : End → Sending → Type 0
IsSentAt end.Closed left = picked left ≡ None
IsSentAt end.WireFault left = Unit {0}
IsSentAt (end.BadFrame index w) left = picked left ≡ None
IsSentAt end.LooksFull left = picked left ≡ None
IsSentAt end.TurnsFull left = picked left ≡ None
IsSentAt end.Memory left = Unit {0}

-- Each event was dealt with, unless memory ran out. Where the looks are full, one more is needed than a session takes; where the wire
-- failed, that, or no answer is awaited; at each other end none is.
abbrev pub IsClosedAt : End → List SessionStep → Machine → Option Event → Type 0
IsClosedAt end.Memory steps m halted = Unit {0}
IsClosedAt end.LooksFull steps m halted = NeedsMore (spent_of steps) steps × (halted ≡ None)
IsClosedAt end.WireFault steps m halted = ((m.pending ≡ pending.Nothing) ⊎ NeedsMore (spent_of steps) steps) × (halted ≡ None)
IsClosedAt other steps m halted = (m.pending ≡ pending.Nothing) × (halted ≡ None)

-- the ground is as it was at the last step, unless memory ran out
abbrev pub IsStillAt : End → Moment → Moment → Type 0
IsStillAt end.Memory now final = Unit {0}
IsStillAt other now final = final ≡ now

-- ---- the whole

-- A session: of the results that were received those before the last are the frames and idle moments of turns; each message that
-- they gave, and each idle moment, was dealt with as a session of this setup does, by answers of boards that were read one after another
-- and each for its step; what was sent are the frames of what was put, after each turn as many as may be sent; the looks and the stored
-- sequences are those of the steps, which spent no more looks than a session takes. Behind its last step it read no more. Where memory ran out it may have, and the last event may be one for which nothing was done: its look is listed, and
-- what it stored, but nothing is put or wanted for it.
pub record IsSession (setup : Setup) (start final : Moment) (ended : Ended) (results : List Got) (sent : List (List ℕ)) (failed : List Gave) : Type 0 where
  pub turns : List SessionTurn
  pub halted : Option Event
  pub taken : List Got
  pub last : List Got
  pub frames : List FrameParts
  pub left : Sending
  pub machine : Machine
  pub now : Moment
  pub results_are : results ≡ taken ++ last
  pub count : length results ≤ most_results
  pub taken_are : are_frames taken ≡ true
  pub kinds : framed_by taken ≡ framed turns
  pub read : frames_at 0 (frame_bytes taken) ≡ Ok (turn_frames turns)
  pub joined : AreJoined turns
  pub led : AreLed (new_machine setup.user setup.version setup.strict) halted turns machine
  pub closed : IsClosedAt ended.end (steps_of turns) machine halted
  pub answered : AreAnswered start setup.user (arc_value setup.program) setup.strict (undone halted ++ steps_of turns) now
  pub reads : HasReadGround now final
  pub still : IsStillAt ended.end now final
  pub looks : ended.looks ≡ looks_of (undone halted ++ steps_of turns)
  pub stored : ended.stored ≡ stored_of (undone halted ++ steps_of turns)
  pub few : spent_of (undone halted ++ steps_of turns) ≤ most_looks
  pub put : AreSent turns frames left
  pub written : AreWrittenAfter [] sent frames
  pub whole : IsSentAt ended.end left
  pub ends : EndsBy turns left ended.end taken last failed

-- The wire, as far as it records, was served with a session.
pub record IsServed (setup : Setup) (start final : Moment) (traffic : Option Traffic) (ended : Ended) (traffic_after : Option Traffic) : Type 0 where
  pub results : List Got
  pub sent : List (List ℕ)
  pub failed : List Gave
  pub session : IsSession setup start final ended results sent failed
  pub records : Records traffic results sent failed traffic_after
