-- What only proofs need: what a session that runs has, and what one result of the wire changes.
use Rattle.std.specs.Prelude.{◌≡◌, ◌⊎◌, ◌≤◌, ℕ, ◌+◌, ◌*◌, Bool, true, false, List, [], ◌∷◌, ◌++◌, length, Option, Some, None, Ok}
use Rattle.sg_outside.specs.Wire.{Traffic}
use Rattle.sg_outside.specs.declared.sink.Gave.{Gave}
use Rattle.sg_outside.specs.declared.sink.Gave.TheVariants as gave
use Rattle.sg_outside.specs.declared.wire.Got.{Got}
use Rattle.sg_outside.specs.declared.wire.Got.TheVariants as got
use Rattle.blip_frame.specs.Checksum.{checksum}
use Rattle.blip_frame.specs.Frame.{FrameParts, frame_at, frames_at, with_front, AreWrittenAfter, all_sent}
use Rattle.blip_mux.specs.declared.inbox.Taken.{Taken}
use Rattle.blip_mux.specs.declared.inbox.Taken.TheVariants as takens
use Rattle.blip_mux.specs.Apart.{AreApart}
use Rattle.blip_mux.specs.Cutting.{ArePicked, after_outbox_steps}
use Rattle.blip_mux.specs.Remembered.{InboxState}
use Rattle.blip_mux.specs.InboxStates.{answer_at, taken_after, StandsFor}
use Rattle.blip_mux.specs.Sending.{Sending, picked}
use Rattle.std.specs.Arc.{arc_value}
use Rattle.sync_syntax.specs.declared.tree.Program.{Program}
use Rattle.session_core.specs.declared.act.Want.{Want}
use Rattle.session_core.specs.declared.event.Event.{Event}
use Rattle.session_core.specs.declared.machine.Pending.TheVariants as pending
use Rattle.session_core.specs.Conduct.{due_with, feed_front, most_answers, WantsFor, AreWithin}
use Rattle.session_core.specs.Fronts.{looks_of, stored_of, front_by}
use Rattle.session_core.specs.State.{new_machine, most_puts}
use Rattle.session_core.specs.Steps.{SessionStep, Steps, Leads, put_by, wanted_after}
use Rattle.session_mux.specs.declared.mux.Mux.{Mux}
use Rattle.session_mux.specs.Frames.{IsBadFrame}
use Rattle.session_mux.specs.Muxed.{IsNoBadAck}
use Rattle.session_mux.specs.Sent.{AreWrittenFrom, Records, expecting_all}
use Rattle.session_run.specs.declared.ended.End.{End}
use Rattle.session_run.specs.declared.ended.End.TheVariants as end
use Rattle.session_run.specs.declared.serve.Setup.{Setup}
use Rattle.session_run.specs.declared.session.Session.{Session}
use Rattle.session_run.specs.Answered.{Moment, HasReadGround, AreAnswered}
use Rattle.session_run.specs.inner.Putting.{put_as, MayReply}
use Rattle.session_run.specs.Spent.{most_looks, spent_of, NeedsMore}
use Rattle.session_run.specs.Served.{are_frames, frame_bytes, IsServed}
use Rattle.session_run.specs.Turns.{SessionTurn, undone, steps_of, turn_frames, framed, framed_by, events_of, IsExchange, IsFor, AreLed, AreJoined, AreSent, puts_all, done_in}

-- ---- steps

-- machine and outbox count the same requests, and the replies that wait are to requests that have come
pub record IsReady (s : Session) : Type 0 where
  pub requests : s.mux.outbox.requests ≡ s.core.requests
  pub apart : AreApart s.mux.inbox s.mux.outbox

-- an event was taken, and what is put for it was put
pub record Makes (old new : Session) (event : Event) (want : Option Want) : Type 0 where
  pub step : SessionStep
  pub steps : Steps old.core step new.core
  pub event_is : step.event ≡ event
  pub want_is : step.want ≡ want
  pub mux : new.mux ≡ put_as old.mux step.puts
  pub user : new.core.user ≡ old.core.user
  pub strict : new.core.strict ≡ old.core.strict
  pub front : (most : ℕ) → feed_front old.core.feed ≤ most → AreWithin most (front_by event) → feed_front new.core.feed ≤ most

-- memory ran out as an event was taken: nothing was done for it, or it was taken and not all was put
abbrev pub Halts : Session → Session → Event → Type 0
Halts old new event = (new.core ≡ old.core) ⊎ ((s : SessionStep) × Steps old.core s new.core × (s.event ≡ event))

-- steps were made for an event; in the last one, where memory ran out, nothing more was done
pub record Conversed (program : Program) (old new : Session) (first : Event) (before now : Moment) (steps : List SessionStep) (halted : Option Event) : Type 0 where
  pub leads : Leads old.core steps new.core
  pub exchange : IsExchange first (undone halted ++ steps)
  pub answered : AreAnswered before old.core.user program old.core.strict (undone halted ++ steps) now
  pub looks : new.listing.looks ≡ old.listing.looks ++ looks_of (undone halted ++ steps)
  pub stored : new.listing.stored ≡ old.listing.stored ++ stored_of (undone halted ++ steps)
  pub spent : new.listing.spent ≡ old.listing.spent + spent_of (undone halted ++ steps)

-- so far all went well, and this is wanted
pub record Conversing (program : Program) (old new : Session) (first : Event) (before now : Moment) (want : Option Want) (steps : List SessionStep) : Type 0 where
  pub conversed : Conversed program old new first before now steps None
  pub user : new.core.user ≡ old.core.user
  pub strict : new.core.strict ≡ old.core.strict
  pub want_is : wanted_after steps ≡ want
  pub wants : WantsFor new.core.feed new.core.pending want
  pub mux : new.mux ≡ put_as old.mux (put_by steps)
  pub ready : IsReady new
  pub may : MayReply new.mux (due_with new.core.pending)
  pub front : feed_front new.core.feed ≤ now.lowest
  pub room : new.core.requests + most_puts * most_answers new.core.pending ≤ old.core.requests + 3 * most_puts

-- ---- turns

-- nothing waits that may be sent, no answer is awaited, and session and wire agree
pub record IsAtRest (s : Session) : Type 0 where
  pub pending : s.core.pending ≡ pending.Nothing
  pub ready : IsReady s
  pub idle : picked s.mux.outbox ≡ None

abbrev pub IsCalled : Option Event → List SessionStep → Type 0
IsCalled None steps = steps ≡ []
IsCalled (Some first) steps = IsExchange first steps

-- steps were made for an event, if there was one, and frames were sent, until this was left
pub record Went (program : Program) (old new : Session) (first : Option Event) (before final : Moment) (traffic traffic_after : Option Traffic) (steps : List SessionStep) (halted : Option Event) (left : Sending) (failed : List Gave) : Type 0 where
  pub now : Moment
  pub frames : List FrameParts
  pub sent : List (List ℕ)
  pub value : ℕ
  pub leads : Leads old.core steps new.core
  pub called : IsCalled first (undone halted ++ steps)
  pub answered : AreAnswered before old.core.user program old.core.strict (undone halted ++ steps) now
  pub reads : HasReadGround now final
  pub looks : new.listing.looks ≡ old.listing.looks ++ looks_of (undone halted ++ steps)
  pub stored : new.listing.stored ≡ old.listing.stored ++ stored_of (undone halted ++ steps)
  pub spent : new.listing.spent ≡ old.listing.spent + spent_of (undone halted ++ steps)
  pub go : ArePicked (after_outbox_steps old.mux.outbox (puts_all (put_by steps))) frames left
  pub written : AreWrittenFrom old.mux.sent.value frames sent value
  pub records : Records traffic [] sent failed traffic_after

-- all was sent that may be sent, or the session ends
abbrev pub GoesOn : Program → Session → Session → Option Event → Moment → Moment → Option Traffic → Option Traffic → Option End → Type 0
GoesOn program old new first before final traffic traffic_after None =
    (steps : List SessionStep) × (went : Went program old new first before final traffic traffic_after steps None new.mux.outbox []) × (went.value ≡ new.mux.sent.value) × IsAtRest new
    × (went.now ≡ final) × (new.mux.inbox ≡ expecting_all (put_by steps) old.mux.inbox) × (feed_front new.core.feed ≤ final.lowest)
    × (new.core.requests ≤ old.core.requests + 3 * most_puts)
GoesOn program old new first before final traffic traffic_after (Some end.WireFault) =
    (steps : List SessionStep) × (left : Sending) × (went : Went program old new first before final traffic traffic_after steps None left (gave.Failed ∷ []))
    × ((new.core.pending ≡ pending.Nothing) ⊎ NeedsMore new.listing.spent steps) × (went.now ≡ final)
GoesOn program old new first before final traffic traffic_after (Some end.LooksFull) =
    (steps : List SessionStep) × (left : Sending) × (went : Went program old new first before final traffic traffic_after steps None left []) × (picked left ≡ None)
    × NeedsMore new.listing.spent steps × (went.now ≡ final)
GoesOn program old new first before final traffic traffic_after (Some end.Memory) =
    (steps : List SessionStep) × (halted : Option Event) × (left : Sending) × Went program old new first before final traffic traffic_after steps halted left []
GoesOn program old new first before final traffic traffic_after (Some other) = ⊥

-- the frame was read and gave this, or the moment was idle
abbrev pub IsRead : Got → Mux → Mux → Option FrameParts → Taken → Type 0
IsRead (got.Frame bytes) old new (Some f) given = (frame_at old.received.value bytes ≡ Ok (f, new.received.value)) × (answer_at old.inbox f ≡ Ok given)
IsRead got.Idle old new None given = (new.received ≡ old.received) × (given ≡ takens.Nothing)
IsRead other old new frame given = ⊥

-- how many frames a turn has taken
abbrev pub counted : Option FrameParts → ℕ
counted None = 0
counted (Some f) = 1

-- a result of the wire was taken in a turn, and this is left of what was to be sent
pub record Turned (program : Program) (old new : Session) (result : Got) (before final : Moment) (traffic traffic_after : Option Traffic) (t : SessionTurn) (halted : Option Event) (left : Sending) (failed : List Gave) : Type 0 where
  pub now : Moment
  pub frames : List FrameParts
  pub sent : List (List ℕ)
  pub value : ℕ
  pub read : IsRead result old.mux new.mux t.frame t.given
  pub leads : Leads old.core t.steps new.core
  pub called : IsFor old.core t.frame t.given (undone halted ++ t.steps)
  pub answered : AreAnswered before old.core.user program old.core.strict (undone halted ++ t.steps) now
  pub reads : HasReadGround now final
  pub looks : new.listing.looks ≡ old.listing.looks ++ looks_of (undone halted ++ t.steps)
  pub stored : new.listing.stored ≡ old.listing.stored ++ stored_of (undone halted ++ t.steps)
  pub spent : new.listing.spent ≡ old.listing.spent + spent_of (undone halted ++ t.steps)
  pub count : new.frames ≡ old.frames + counted t.frame
  pub no_bad_ack : IsNoBadAck t.given old.mux.outbox
  pub go : ArePicked (after_outbox_steps old.mux.outbox (done_in t)) frames left
  pub written : AreWrittenFrom old.mux.sent.value frames sent value
  pub records : Records traffic [] sent failed traffic_after

-- the inbox once a frame was taken
abbrev pub inbox_after : InboxState → Option FrameParts → InboxState
inbox_after s None = s
inbox_after s (Some f) = taken_after s f

-- the result did nothing that shows
pub record Leaves (old new : Session) (before final : Moment) (traffic traffic_after : Option Traffic) : Type 0 where
  pub core : new.core ≡ old.core
  pub looks : new.listing.looks ≡ old.listing.looks
  pub stored : new.listing.stored ≡ old.listing.stored
  pub spent : new.listing.spent ≡ old.listing.spent
  pub same : final ≡ before
  pub records : Records traffic [] [] [] traffic_after

-- a result was taken and all was sent that may be sent, or the session ends by it
abbrev pub Takes : Program → Session → Session → Got → Moment → Moment → Option Traffic → Option Traffic → Option End → Type 0
Takes program old new result before final traffic traffic_after None =
    (t : SessionTurn) × (did : Turned program old new result before final traffic traffic_after t None new.mux.outbox []) × (did.value ≡ new.mux.sent.value) × IsAtRest new
    × (did.now ≡ final) × (new.mux.inbox ≡ expecting_all (put_by t.steps) (inbox_after old.mux.inbox t.frame)) × (feed_front new.core.feed ≤ final.lowest)
    × (new.core.requests ≤ old.core.requests + 3 * most_puts)
Takes program old new result before final traffic traffic_after (Some end.WireFault) =
    (t : SessionTurn) × (left : Sending) × (did : Turned program old new result before final traffic traffic_after t None left (gave.Failed ∷ []))
    × ((new.core.pending ≡ pending.Nothing) ⊎ NeedsMore new.listing.spent t.steps) × (did.now ≡ final)
Takes program old new result before final traffic traffic_after (Some end.LooksFull) =
    (t : SessionTurn) × (left : Sending) × (did : Turned program old new result before final traffic traffic_after t None left []) × (picked left ≡ None)
    × NeedsMore new.listing.spent t.steps × (did.now ≡ final)
Takes program old new result before final traffic traffic_after (Some (end.BadFrame index w)) =
    (bytes : List ℕ) × (result ≡ got.Frame bytes) × (index ≡ old.frames + 1)
    × IsBadFrame (frame_at old.mux.received.value bytes) (answer_at old.mux.inbox) old.mux.outbox w × Leaves old new before final traffic traffic_after
Takes program old new result before final traffic traffic_after (Some end.Memory) =
    ((t : SessionTurn) × (halted : Option Event) × (left : Sending) × Turned program old new result before final traffic traffic_after t halted left [])
    ⊎ ((bytes : List ℕ) × (result ≡ got.Frame bytes) × Leaves old new before final traffic traffic_after)
Takes program old new result before final traffic traffic_after (Some other) = ⊥

-- ---- from the beginning

-- a session that runs, after these turns, which took these results and sent these frames
pub record Holds (setup : Setup) (start now : Moment) (s : Session) (turns : List SessionTurn) (frames : List FrameParts) (results : List Got) (sent : List (List ℕ)) : Type 0 where
  pub user : s.core.user ≡ setup.user
  pub strict : s.core.strict ≡ setup.strict
  pub led : AreLed (new_machine setup.user setup.version setup.strict) None turns s.core
  pub rest : IsAtRest s
  pub wanted : wanted_after (steps_of turns) ≡ None
  pub answered : AreAnswered start setup.user (arc_value setup.program) setup.strict (steps_of turns) now
  pub joined : AreJoined turns
  pub inbox : StandsFor s.mux.inbox (events_of turns)
  pub looks : s.listing.looks ≡ looks_of (steps_of turns)
  pub stored : s.listing.stored ≡ stored_of (steps_of turns)
  pub spent : s.listing.spent ≡ spent_of (steps_of turns)
  pub few : s.listing.spent ≤ most_looks
  pub count : s.frames ≡ length (turn_frames turns)
  pub taken : are_frames results ≡ true
  pub kinds : framed_by results ≡ framed turns
  pub read : (later : List (List ℕ)) → frames_at 0 (frame_bytes results ++ later) ≡ with_front (turn_frames turns) (frames_at s.mux.received.value later)
  pub put : AreSent turns frames s.mux.outbox
  pub written : AreWrittenAfter [] sent frames
  pub checked : s.mux.sent.value ≡ checksum (all_sent [] frames)

-- the session runs, after so many results, which the wire records
pub record Runs (setup : Setup) (start now : Moment) (traffic : Option Traffic) (s : Session) (traffic_now : Option Traffic) (count : ℕ) : Type 0 where
  pub turns : List SessionTurn
  pub frames : List FrameParts
  pub results : List Got
  pub sent : List (List ℕ)
  pub holds : Holds setup start now s turns frames results sent
  pub records : Records traffic results sent [] traffic_now
  pub counted : length results ≡ count

-- and goes on, or ends
abbrev pub RunsOn : Setup → Moment → Moment → Option Traffic → Session → Option Traffic → ℕ → Option End → Type 0
RunsOn setup start final traffic s traffic_now count None = Runs setup start final traffic s traffic_now (count + 1)
RunsOn setup start final traffic s traffic_now count (Some e) =
    IsServed setup start final traffic (record { end = e; looks = s.listing.looks; stored = s.listing.stored }) traffic_now

-- a frame that was not sent ends the session, and else that a look is needed where none is left
abbrev pub IsEndOf : Gave → Bool → Option End → Type 0
IsEndOf gave.Done true result = result ≡ None
IsEndOf gave.Done false result = result ≡ Some end.LooksFull
IsEndOf gave.Failed met result = result ≡ Some end.WireFault
IsEndOf gave.Memory met result = result ≡ Some end.Memory
