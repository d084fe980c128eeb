-- One result of the wire, from what is done for it to the frames that went.
use Rattle.std.proofs.Common.{◌≡◌, ◌⊎◌, inl, inr, ℕ, ◌+◌, ◌*◌, ◌≤◌, Bool, true, false, List, [], ◌∷◌, ◌++◌, Option, Some, None, Ok, refl, sym, ◌∙◌, ap, subst, arith, le_refl}
use Rattle.std.specs.List.{list_any}
use Rattle.sg_outside.specs.Wire.{Traffic}
use Rattle.sg_outside.specs.declared.sink.Gave.{Gave}
use Rattle.sg_outside.specs.declared.sink.Gave.TheVariants as gave
use Rattle.sg_outside.specs.declared.wire.Got.TheVariants as got
use Rattle.blip_frame.specs.declared.crc.Crc.{Crc}
use Rattle.blip_frame.specs.declared.frame.Kind.{Kind}
use Rattle.blip_frame.specs.Frame.{FrameParts, frame_at}
use Rattle.blip_mux.specs.declared.message.Message.{Message}
use Rattle.blip_mux.specs.declared.inbox.Taken.{Taken}
use Rattle.blip_mux.specs.declared.inbox.Taken.TheVariants as takens
use Rattle.blip_mux.specs.Apart.{AreApart, HasCome}
use Rattle.blip_mux.specs.Cutting.{after_outbox_steps, ArePicked}
use Rattle.blip_mux.specs.Joining.{is_request}
use Rattle.blip_mux.specs.Remembered.{InboxState}
use Rattle.blip_mux.specs.InboxStates.{answer_at, taken_after}
use Rattle.blip_mux.specs.Sending.{Sending, picked, acked_in, is_reply_to}
use Rattle.session_core.specs.declared.event.Event.{Event}
use Rattle.session_core.specs.declared.event.Event.TheVariants as event
use Rattle.session_core.specs.declared.machine.Pending.{Pending}
use Rattle.session_core.specs.declared.machine.Pending.TheVariants as pending
use Rattle.session_core.specs.declared.act.Want.{Want}
use Rattle.session_core.specs.Conduct.{due_at, feed_front, WantsFor}
use Rattle.session_core.specs.Fronts.{looks_of, stored_of}
use Rattle.session_core.specs.Running.{waits}
use Rattle.session_core.specs.State.{Machine, most_puts}
use Rattle.session_core.specs.Steps.{SessionStep, Leads, put_by}
use Rattle.sync_syntax.specs.declared.tree.Program.{Program}
use Rattle.session_mux.specs.declared.mux.Mux.{Mux}
use Rattle.session_mux.specs.Muxed.{GivesFrame, IsPartOfMessage, acknowledged_by, HaveGone}
use Rattle.session_mux.specs.Sent.{AreWrittenFrom, Records, expecting_all}
use Rattle.session_run.specs.declared.ended.End.{End}
use Rattle.session_run.specs.declared.ended.End.TheVariants as end
use Rattle.session_run.specs.declared.session.Session.{Session}
use Rattle.session_run.specs.Answered.{Moment, HasReadGround, AreAnswered}
use Rattle.session_run.specs.inner.Held.{IsReady, IsAtRest, IsCalled, Conversed, Conversing, Went, GoesOn, IsEndOf, Turned, Takes}
use Rattle.session_run.specs.inner.Putting.{MayReply, put_as}
use Rattle.session_run.specs.Spent.{spent_of, NeedsMore, IsMet}
use Rattle.session_run.specs.Turns.{undone, IsForTaken, IsForIdle, puts_all}
use Rattle.session_run.proofs.Conversing.{at_rest, outbox_steps_on}
use Rattle.session_run.proofs.ActsPut.{PicksApart, picked_apart, picked_requests}

-- to read nothing
pub read_nothing : (now : Moment) → HasReadGround now now
read_nothing now = record { reads = record { added = []; read = refl; later = tt; lengths = tt; rises = le_refl now.lowest }; recorded = refl; checkpoints = refl; own = refl }

-- ---- frames that go

none_written : (value : ℕ) → AreWrittenFrom value [] [] value
none_written value sent e = (tt, e)

-- what went is what may go after what was put
abbrev went_with : (program : Program) (old middle new : Session) (first : Option Event) (before now final : Moment) (traffic traffic_after : Option Traffic) (steps : List SessionStep) (halted : Option Event) (failed : List Gave)
    → Leads old.core steps middle.core → IsCalled first (undone halted ++ steps) → AreAnswered before old.core.user program old.core.strict (undone halted ++ steps) now → HasReadGround now final
    → middle.listing.looks ≡ old.listing.looks ++ looks_of (undone halted ++ steps) → middle.listing.stored ≡ old.listing.stored ++ stored_of (undone halted ++ steps)
    → middle.listing.spent ≡ old.listing.spent + spent_of (undone halted ++ steps)
    → new.core ≡ middle.core → new.listing ≡ middle.listing
    → (out : Sending) → out ≡ after_outbox_steps old.mux.outbox (puts_all (put_by steps)) → (crc : Crc) → crc ≡ old.mux.sent
    → (frames : List FrameParts) (texts : List (List ℕ)) (left : Sending) (value : ℕ)
    → ArePicked out frames left → AreWrittenFrom crc.value frames texts value → Records traffic [] texts failed traffic_after
    → Went program old new first before final traffic traffic_after steps halted left failed
went_with program old middle new first before now final traffic traffic_after steps halted failed leads called answered reads looks stored spent core listing out out_is crc crc_is frames texts left value go written records = record {
  now = now;
  frames = frames;
  sent = texts;
  value = value;
  leads = subst (Leads old.core steps) (sym core) leads;
  called = called;
  answered = answered;
  reads = reads;
  looks = ap (λ l. l.looks) listing ∙ looks;
  stored = ap (λ l. l.stored) listing ∙ stored;
  spent = ap (λ l. l.spent) listing ∙ spent;
  go = subst (λ o. ArePicked o frames left) out_is go;
  written = subst (λ (c : Crc). AreWrittenFrom c.value frames texts value) crc_is written;
  records = records;
}

-- a session once all went
rested : PicksApart → (middle new : Session) (frames : List FrameParts) (left : Sending) → middle.core.pending ≡ pending.Nothing → IsReady middle → new.core ≡ middle.core → new.mux.inbox ≡ middle.mux.inbox
    → ArePicked middle.mux.outbox frames left → picked left ≡ None → left ≡ new.mux.outbox → IsAtRest new
rested law middle new frames left rest ready core inbox go idle left_is = record {
  pending = ap (λ (m : Machine). m.pending) core ∙ rest;
  ready = record {
    requests = ap (λ (s : Sending). s.requests) (sym left_is) ∙ picked_requests middle.mux.outbox frames left go ∙ ready.requests ∙ ap (λ (m : Machine). m.requests) (sym core);
    apart = subst (λ s. AreApart s new.mux.outbox) (sym inbox) (subst (AreApart middle.mux.inbox) left_is (picked_apart law middle.mux.inbox middle.mux.outbox frames left go ready.apart));
  };
  idle = ap picked (sym left_is) ∙ idle;
}

-- no answer is awaited, or one more look is needed than a session takes
abbrev Rests : Bool → Session → List SessionStep → Type 0
Rests true s steps = s.core.pending ≡ pending.Nothing
Rests false s steps = NeedsMore s.listing.spent steps

-- what a session has before it sends
record Puts (program : Program) (old middle : Session) (first : Option Event) (before final : Moment) (met : Bool) (steps : List SessionStep) : Type 0 where
  pub leads : Leads old.core steps middle.core
  pub called : IsCalled first steps
  pub answered : AreAnswered before old.core.user program old.core.strict steps final
  pub looks : middle.listing.looks ≡ old.listing.looks ++ looks_of steps
  pub stored : middle.listing.stored ≡ old.listing.stored ++ stored_of steps
  pub spent : middle.listing.spent ≡ old.listing.spent + spent_of steps
  pub mux : middle.mux ≡ put_as old.mux (put_by steps)
  pub ready : IsReady middle
  pub rest : Rests met middle steps
  pub front : feed_front middle.core.feed ≤ final.lowest
  pub few : middle.core.requests ≤ old.core.requests + 3 * most_puts

abbrev puts_went : (program : Program) (old middle new : Session) (first : Option Event) (before final : Moment) (traffic traffic_after : Option Traffic) (met : Bool) (steps : List SessionStep) (failed : List Gave)
    → Puts program old middle first before final met steps → HasReadGround final final → new.core ≡ middle.core → new.listing ≡ middle.listing → middle.mux.sent ≡ old.mux.sent
    → (frames : List FrameParts) (texts : List (List ℕ)) (left : Sending) (value : ℕ)
    → ArePicked middle.mux.outbox frames left → AreWrittenFrom middle.mux.sent.value frames texts value → Records traffic [] texts failed traffic_after
    → Went program old new first before final traffic traffic_after steps None left failed
puts_went program old middle new first before final traffic traffic_after met steps failed put read core listing sent frames texts left value go written records =
    went_with program old middle new first before final final traffic traffic_after steps None failed put.leads put.called put.answered read put.looks put.stored put.spent core listing
    middle.mux.outbox (ap (λ (m : Mux). m.outbox) put.mux) middle.mux.sent sent frames texts left value go written records

still_rests : (met : Bool) (middle new : Session) (steps : List SessionStep) → new.core ≡ middle.core → new.listing ≡ middle.listing → Rests met middle steps
    → (new.core.pending ≡ pending.Nothing) ⊎ NeedsMore new.listing.spent steps
still_rests true middle new steps core listing rest = inl (ap (λ (m : Machine). m.pending) core ∙ rest)
still_rests false middle new steps core listing rest = inr (subst (λ l. NeedsMore l.spent steps) (sym listing) rest)

goes_by : (program : Program) → PicksApart → (old middle new : Session) (first : Option Event) (before final : Moment) (traffic traffic_after : Option Traffic) (steps : List SessionStep) (g : Gave) (met : Bool) (result : Option End)
    → Puts program old middle first before final met steps → HasReadGround final final → new.core ≡ middle.core → new.listing ≡ middle.listing → middle.mux.sent ≡ old.mux.sent
    → new.mux.inbox ≡ middle.mux.inbox
    → HaveGone middle.mux.outbox middle.mux.sent.value traffic traffic_after g new.mux.outbox new.mux.sent.value → IsEndOf g met result
    → GoesOn program old new first before final traffic traffic_after result
goes_by program law old middle new first before final traffic traffic_after steps gave.Done true result put read core listing sent inbox (frames, texts, left, value, go, written, records, (idle, left_is, value_is)) e =
    let gone : ArePicked middle.mux.outbox frames new.mux.outbox = subst (ArePicked middle.mux.outbox frames) left_is go in
    subst (GoesOn program old new first before final traffic traffic_after) (sym e) (
      steps,
      puts_went program old middle new first before final traffic traffic_after true steps [] put read core listing sent frames texts new.mux.outbox value gone written records,
      value_is,
      rested law middle new frames left put.rest put.ready core inbox go idle left_is,
      refl,
      inbox ∙ ap (λ (m : Mux). m.inbox) put.mux,
      subst (λ (m : Machine). feed_front m.feed ≤ final.lowest) (sym core) put.front,
      subst (λ (m : Machine). m.requests ≤ old.core.requests + 3 * most_puts) (sym core) put.few,
    )
goes_by program law old middle new first before final traffic traffic_after steps gave.Done false result put read core listing sent inbox (frames, texts, left, value, go, written, records, (idle, left_is, value_is)) e =
    subst (GoesOn program old new first before final traffic traffic_after) (sym e) (
      steps,
      left,
      puts_went program old middle new first before final traffic traffic_after false steps [] put read core listing sent frames texts left value go written records,
      idle,
      subst (λ l. NeedsMore l.spent steps) (sym listing) put.rest,
      refl,
    )
goes_by program law old middle new first before final traffic traffic_after steps gave.Failed met result put read core listing sent inbox (frames, texts, left, value, go, written, records, is_left) e =
    subst (GoesOn program old new first before final traffic traffic_after) (sym e) (
      steps,
      left,
      puts_went program old middle new first before final traffic traffic_after met steps (gave.Failed ∷ []) put read core listing sent frames texts left value go written records,
      still_rests met middle new steps core listing put.rest,
      refl,
    )
goes_by program law old middle new first before final traffic traffic_after steps gave.Memory met result put read core listing sent inbox (frames, texts, left, value, go, written, records, is_left) e =
    subst (GoesOn program old new first before final traffic traffic_after) (sym e)
    (steps, None, left, puts_went program old middle new first before final traffic traffic_after met steps [] put read core listing sent frames texts left value go written records)

-- ---- an event

rests_by : (program : Program) (old middle : Session) (first : Event) (before final : Moment) (met : Bool) (want : Option Want) (steps : List SessionStep) → Conversing program old middle first before final want steps
    → IsMet met want middle.listing.spent → Rests met middle steps
rests_by program old middle first before final true want steps so_far none = at_rest middle.core.feed middle.core.pending (subst (λ w. WantsFor middle.core.feed middle.core.pending w) none so_far.wants)
rests_by program old middle first before final false want steps so_far (wanted, is, full, look) = (full, wanted, so_far.want_is ∙ is, look)

conversing_puts : (program : Program) (old middle : Session) (first : Event) (before final : Moment) (met : Bool) (want : Option Want) (steps : List SessionStep) → Conversing program old middle first before final want steps
    → IsMet met want middle.listing.spent → Puts program old middle (Some first) before final met steps
conversing_puts program old middle first before final met want steps so_far is_met = record {
  leads = so_far.conversed.leads;
  called = so_far.conversed.exchange;
  answered = so_far.conversed.answered;
  looks = so_far.conversed.looks;
  stored = so_far.conversed.stored;
  spent = so_far.conversed.spent;
  mux = so_far.mux;
  ready = so_far.ready;
  rest = rests_by program old middle first before final met want steps so_far is_met;
  front = so_far.front;
  few = omega (arith, so_far.room);
}

pub event_goes : (program : Program) → PicksApart → (old middle new : Session) (first : Event) (before final : Moment) (traffic traffic_after : Option Traffic) (g : Gave) (met : Bool) (result : Option End)
    → ((steps : List SessionStep) × (want : Option Want) × Conversing program old middle first before final want steps × IsMet met want middle.listing.spent) → HasReadGround final final → new.core ≡ middle.core → new.listing ≡ middle.listing → middle.mux.sent ≡ old.mux.sent
    → new.mux.inbox ≡ middle.mux.inbox
    → HaveGone middle.mux.outbox middle.mux.sent.value traffic traffic_after g new.mux.outbox new.mux.sent.value → IsEndOf g met result
    → GoesOn program old new (Some first) before final traffic traffic_after result
event_goes program law old middle new first before final traffic traffic_after g met result (steps, want, so_far, is_met) read core listing sent inbox gone e =
    goes_by program law old middle new (Some first) before final traffic traffic_after steps g met result (conversing_puts program old middle first before final met want steps so_far is_met) read core listing sent inbox gone e

-- memory ran out
pub event_halts : (program : Program) (old new : Session) (first : Event) (before final : Moment) (traffic : Option Traffic) → Records traffic [] [] [] traffic
    → ((steps : List SessionStep) × (halted : Option Event) × (now : Moment) × Conversed program old new first before now steps halted × HasReadGround now final)
    → GoesOn program old new (Some first) before final traffic traffic (Some end.Memory)
event_halts program old new first before final traffic records (steps, halted, now, so_far, read) = (
  steps,
  halted,
  after_outbox_steps old.mux.outbox (puts_all (put_by steps)),
  went_with program old new new (Some first) before now final traffic traffic steps halted [] so_far.leads so_far.exchange so_far.answered read so_far.looks so_far.stored so_far.spent refl refl
      (after_outbox_steps old.mux.outbox (puts_all (put_by steps))) refl old.mux.sent refl [] [] (after_outbox_steps old.mux.outbox (puts_all (put_by steps))) old.mux.sent.value refl (none_written old.mux.sent.value) records,
)

-- no event
pub nothing_goes : (program : Program) → PicksApart → (old new : Session) (now : Moment) (traffic traffic_after : Option Traffic) (g : Gave) (result : Option End)
    → old.core.pending ≡ pending.Nothing → IsReady old → feed_front old.core.feed ≤ now.lowest → HasReadGround now now → new.core ≡ old.core → new.listing ≡ old.listing
    → new.mux.inbox ≡ old.mux.inbox
    → old.listing.looks ≡ old.listing.looks ++ [] → old.listing.stored ≡ old.listing.stored ++ []
    → HaveGone old.mux.outbox old.mux.sent.value traffic traffic_after g new.mux.outbox new.mux.sent.value → IsEndOf g true result
    → GoesOn program old new None now now traffic traffic_after result
nothing_goes program law old new now traffic traffic_after g result rest ready front read core listing inbox looks stored gone e =
    goes_by program law old old new None now now traffic traffic_after [] g true result
    (record {
      leads = refl;
      called = refl;
      answered = refl;
      looks = looks;
      stored = stored;
      spent = omega arith;
      mux = refl;
      ready = ready;
      rest = rest;
      front = front;
      few = omega arith;
    })
    read core listing refl inbox gone e

-- ---- what a frame gives

-- what the laws of the multiplexer say
abbrev pub TakesApart : Type 0
TakesApart = (s : InboxState) (out : Sending) (f : FrameParts) (taken : Taken) → answer_at s f ≡ Ok taken → AreApart s out → AreApart (taken_after s f) out

abbrev pub AcksApart : Type 0
AcksApart = (s : InboxState) (out : Sending) (kind : Kind) (number bytes : ℕ) → AreApart s out → AreApart s (record out { waiting = acked_in kind number bytes out.waiting })

acknowledged_apart : AcksApart → (s : InboxState) (out : Sending) (given : Taken) → AreApart s out → AreApart s (after_outbox_steps out (acknowledged_by given))
acknowledged_apart law s out takens.Nothing apart = apart
acknowledged_apart law s out (takens.Ack kind number bytes) apart = law s out kind number bytes apart
acknowledged_apart law s out (takens.Owed kind number bytes) apart = apart
acknowledged_apart law s out (takens.Whole message) apart = apart

acknowledged_requests : (out : Sending) (given : Taken) → (after_outbox_steps out (acknowledged_by given)).requests ≡ out.requests
acknowledged_requests out takens.Nothing = refl
acknowledged_requests out (takens.Ack kind number bytes) = refl
acknowledged_requests out (takens.Owed kind number bytes) = refl
acknowledged_requests out (takens.Whole message) = refl

-- session and wire still agree
pub gives_ready : TakesApart → AcksApart → (old middle : Session) (bytes : List ℕ) (given : Taken) → GivesFrame old.mux bytes given middle.mux → middle.core ≡ old.core → IsReady old → IsReady middle
gives_ready takes acks_apart old middle bytes given gives core ready = record {
  requests = ap (λ (s : Sending). s.requests) gives.outbox ∙ acknowledged_requests old.mux.outbox given ∙ ready.requests ∙ ap (λ (m : Machine). m.requests) (sym core);
  apart = subst (λ s. AreApart s middle.mux.outbox) (sym gives.inbox) (subst (AreApart (taken_after old.mux.inbox gives.frame)) (sym gives.outbox)
      (acknowledged_apart acks_apart (taken_after old.mux.inbox gives.frame) old.mux.outbox given (takes old.mux.inbox old.mux.outbox gives.frame given gives.answer ready.apart)));
}

pub part_ready : TakesApart → AcksApart → (old middle : Session) (bytes : List ℕ) → ((given : Taken) × IsPartOfMessage given × GivesFrame old.mux bytes given middle.mux) → middle.core ≡ old.core → IsReady old → IsReady middle
part_ready takes acks_apart old middle bytes (given, part, gives) core ready = gives_ready takes acks_apart old middle bytes given gives core ready

-- the reply to its message may be put
may_by : (m : Mux) (message : Message) (p : Pending) (b : Bool) → is_request message.kind ≡ b
    → (is_request message.kind ≡ true → (list_any (is_reply_to message.number) m.outbox.waiting ≡ false) × HasCome m.inbox message.number)
    → MayReply m (due_at p (event.Whole message))
may_by m message p true is may = rw is (may is)
may_by m message p false is may = rw is tt

-- ---- the turn of a frame

-- what a frame gave calls for what was done
abbrev Calls : Taken → Option Event → Type 0
Calls given first = (steps : List SessionStep) → IsCalled first steps → IsForTaken given steps

abbrev turn_of : (program : Program) (old middle new : Session) (bytes : List ℕ) (given : Taken) (first : Option Event) (before final : Moment) (traffic traffic_after : Option Traffic) (steps : List SessionStep) (halted : Option Event) (left : Sending) (failed : List Gave)
    → (gives : GivesFrame old.mux bytes given middle.mux) → Calls given first → middle.core ≡ old.core → middle.listing ≡ old.listing → middle.mux.sent ≡ old.mux.sent
    → new.mux.received ≡ middle.mux.received → new.frames ≡ old.frames + 1
    → Went program middle new first before final traffic traffic_after steps halted left failed
    → Turned program old new (got.Frame bytes) before final traffic traffic_after (record { frame = Some gives.frame; given = given; steps = steps }) halted left failed
turn_of program old middle new bytes given first before final traffic traffic_after steps halted left failed gives calls core listing sent received count went = record {
  now = went.now;
  frames = went.frames;
  sent = went.sent;
  value = went.value;
  read = (subst (λ (c : Crc). frame_at old.mux.received.value bytes ≡ Ok (gives.frame, c.value)) (sym received) gives.read, gives.answer);
  leads = subst (λ (m : Machine). Leads m steps new.core) core went.leads;
  called = calls (undone halted ++ steps) went.called;
  answered = subst (λ (m : Machine). AreAnswered before m.user program m.strict (undone halted ++ steps) went.now) core went.answered;
  reads = went.reads;
  looks = went.looks ∙ ap (λ l. l.looks ++ looks_of (undone halted ++ steps)) listing;
  stored = went.stored ∙ ap (λ l. l.stored ++ stored_of (undone halted ++ steps)) listing;
  spent = went.spent ∙ ap (λ l. l.spent + spent_of (undone halted ++ steps)) listing;
  count = count;
  no_bad_ack = gives.no_bad_ack;
  go = subst (λ s. ArePicked s went.frames left) (ap (λ s. after_outbox_steps s (puts_all (put_by steps))) gives.outbox ∙ sym (outbox_steps_on old.mux.outbox (acknowledged_by given) (puts_all (put_by steps)))) went.go;
  written = subst (λ (c : Crc). AreWrittenFrom c.value went.frames went.sent went.value) sent went.written;
  records = went.records;
}

frame_goes : (program : Program) (old middle new : Session) (bytes : List ℕ) (given : Taken) (first : Option Event) (before final : Moment) (traffic traffic_after : Option Traffic) (result : Option End)
    → (gives : GivesFrame old.mux bytes given middle.mux) → Calls given first → middle.core ≡ old.core → middle.listing ≡ old.listing → middle.mux.sent ≡ old.mux.sent
    → new.mux.received ≡ middle.mux.received → new.frames ≡ old.frames + 1
    → GoesOn program middle new first before final traffic traffic_after result
    → Takes program old new (got.Frame bytes) before final traffic traffic_after result
frame_goes program old middle new bytes given first before final traffic traffic_after None gives calls core listing sent received count (steps, went, value, rest, now, inbox, front, few) = (
  record { frame = Some gives.frame; given = given; steps = steps },
  turn_of program old middle new bytes given first before final traffic traffic_after steps None new.mux.outbox [] gives calls core listing sent received count went,
  value,
  rest,
  now,
  inbox ∙ ap (expecting_all (put_by steps)) gives.inbox,
  front,
  subst (λ (m : Machine). new.core.requests ≤ m.requests + 3 * most_puts) core few,
)
frame_goes program old middle new bytes given first before final traffic traffic_after (Some end.Closed) gives calls core listing sent received count goes = absurd goes
frame_goes program old middle new bytes given first before final traffic traffic_after (Some end.WireFault) gives calls core listing sent received count (steps, left, went, rest, now) = (
  record { frame = Some gives.frame; given = given; steps = steps },
  left,
  turn_of program old middle new bytes given first before final traffic traffic_after steps None left (gave.Failed ∷ []) gives calls core listing sent received count went,
  rest,
  now,
)
frame_goes program old middle new bytes given first before final traffic traffic_after (Some (end.BadFrame index w)) gives calls core listing sent received count goes = absurd goes
frame_goes program old middle new bytes given first before final traffic traffic_after (Some end.LooksFull) gives calls core listing sent received count (steps, left, went, idle, more, now) = (
  record { frame = Some gives.frame; given = given; steps = steps },
  left,
  turn_of program old middle new bytes given first before final traffic traffic_after steps None left [] gives calls core listing sent received count went,
  idle,
  more,
  now,
)
frame_goes program old middle new bytes given first before final traffic traffic_after (Some end.TurnsFull) gives calls core listing sent received count goes = absurd goes
frame_goes program old middle new bytes given first before final traffic traffic_after (Some end.Memory) gives calls core listing sent received count (steps, halted, left, went) =
    inl (
      record { frame = Some gives.frame; given = given; steps = steps },
      halted,
      left,
      turn_of program old middle new bytes given first before final traffic traffic_after steps halted left [] gives calls core listing sent received count went,
    )

-- a frame whose message was answered
pub whole_takes : (program : Program) (old middle new : Session) (bytes : List ℕ) (message : Message) (before final : Moment) (traffic traffic_after : Option Traffic) (result : Option End)
    → GivesFrame old.mux bytes (takens.Whole message) middle.mux → middle.core ≡ old.core → middle.listing ≡ old.listing → middle.mux.sent ≡ old.mux.sent
    → new.mux.received ≡ middle.mux.received → new.frames ≡ old.frames + 1
    → GoesOn program middle new (Some (event.Whole message)) before final traffic traffic_after result
    → Takes program old new (got.Frame bytes) before final traffic traffic_after result
whole_takes program old middle new bytes message before final traffic traffic_after result gives core listing sent received count goes =
    frame_goes program old middle new bytes (takens.Whole message) (Some (event.Whole message)) before final traffic traffic_after result gives (λ steps called. called) core listing sent received count goes

part_calls : (given : Taken) → IsPartOfMessage given → Calls given None
part_calls takens.Nothing part steps called = called
part_calls (takens.Ack kind number bytes) part steps called = called
part_calls (takens.Owed kind number bytes) part steps called = called
part_calls (takens.Whole message) part steps called = absurd part

-- a frame that gave none
pub part_takes : (program : Program) (old middle new : Session) (bytes : List ℕ) (before final : Moment) (traffic traffic_after : Option Traffic) (result : Option End)
    → ((given : Taken) × IsPartOfMessage given × GivesFrame old.mux bytes given middle.mux) → middle.core ≡ old.core → middle.listing ≡ old.listing → middle.mux.sent ≡ old.mux.sent
    → new.mux.received ≡ middle.mux.received → new.frames ≡ old.frames + 1
    → GoesOn program middle new None before final traffic traffic_after result
    → Takes program old new (got.Frame bytes) before final traffic traffic_after result
part_takes program old middle new bytes before final traffic traffic_after result (given, part, gives) core listing sent received count goes =
    frame_goes program old middle new bytes given None before final traffic traffic_after result gives (part_calls given part) core listing sent received count goes

-- ---- the turn of an idle moment

abbrev idle_turn : (program : Program) (old new : Session) (front : ℕ) (before final : Moment) (traffic traffic_after : Option Traffic) (steps : List SessionStep) (halted : Option Event) (left : Sending) (failed : List Gave)
    → waits old.core.feed ≡ true → new.mux.received ≡ old.mux.received → new.frames ≡ old.frames
    → Went program old new (Some (event.Idle front)) before final traffic traffic_after steps halted left failed
    → Turned program old new got.Idle before final traffic traffic_after (record { frame = None; given = takens.Nothing; steps = steps }) halted left failed
idle_turn program old new front before final traffic traffic_after steps halted left failed waiting received count went = record {
  now = went.now;
  frames = went.frames;
  sent = went.sent;
  value = went.value;
  read = (received, refl);
  leads = went.leads;
  called = (refl, subst (λ b. IsForIdle b (undone halted ++ steps)) (sym waiting) (front, went.called));
  answered = went.answered;
  reads = went.reads;
  looks = went.looks;
  stored = went.stored;
  spent = went.spent;
  count = omega (arith, count);
  no_bad_ack = tt;
  go = went.go;
  written = went.written;
  records = went.records;
}

-- a feed waits, and the front was loaded
pub idle_takes : (program : Program) (old new : Session) (front : ℕ) (before final : Moment) (traffic traffic_after : Option Traffic) (result : Option End)
    → waits old.core.feed ≡ true → new.mux.received ≡ old.mux.received → new.frames ≡ old.frames
    → GoesOn program old new (Some (event.Idle front)) before final traffic traffic_after result
    → Takes program old new got.Idle before final traffic traffic_after result
idle_takes program old new front before final traffic traffic_after None waiting received count (steps, went, value, rest, now, inbox, at, few) = (
  record { frame = None; given = takens.Nothing; steps = steps },
  idle_turn program old new front before final traffic traffic_after steps None new.mux.outbox [] waiting received count went,
  value,
  rest,
  now,
  inbox,
  at,
  few,
)
idle_takes program old new front before final traffic traffic_after (Some end.Closed) waiting received count goes = absurd goes
idle_takes program old new front before final traffic traffic_after (Some end.WireFault) waiting received count (steps, left, went, rest, now) = (
  record { frame = None; given = takens.Nothing; steps = steps },
  left,
  idle_turn program old new front before final traffic traffic_after steps None left (gave.Failed ∷ []) waiting received count went,
  rest,
  now,
)
idle_takes program old new front before final traffic traffic_after (Some (end.BadFrame index w)) waiting received count goes = absurd goes
idle_takes program old new front before final traffic traffic_after (Some end.LooksFull) waiting received count (steps, left, went, idle, more, now) = (
  record { frame = None; given = takens.Nothing; steps = steps },
  left,
  idle_turn program old new front before final traffic traffic_after steps None left [] waiting received count went,
  idle,
  more,
  now,
)
idle_takes program old new front before final traffic traffic_after (Some end.TurnsFull) waiting received count goes = absurd goes
idle_takes program old new front before final traffic traffic_after (Some end.Memory) waiting received count (steps, halted, left, went) =
    inl (
      record { frame = None; given = takens.Nothing; steps = steps },
      halted,
      left,
      idle_turn program old new front before final traffic traffic_after steps halted left [] waiting received count went,
    )

-- no feed waits
pub idle_passes : (program : Program) (old : Session) (now : Moment) (traffic : Option Traffic) → waits old.core.feed ≡ false → IsAtRest old → feed_front old.core.feed ≤ now.lowest → HasReadGround now now → Records traffic [] [] [] traffic
    → old.listing.looks ≡ old.listing.looks ++ [] → old.listing.stored ≡ old.listing.stored ++ []
    → Takes program old old got.Idle now now traffic traffic None
idle_passes program old now traffic waiting rest front read records looks stored = (
  record { frame = None; given = takens.Nothing; steps = [] },
  record {
    now = now;
    frames = [];
    sent = [];
    value = old.mux.sent.value;
    read = (refl, refl);
    leads = refl;
    called = (refl, subst (λ b. IsForIdle b []) (sym waiting) refl);
    answered = refl;
    reads = read;
    looks = looks;
    stored = stored;
    spent = omega arith;
    count = omega arith;
    no_bad_ack = tt;
    go = refl;
    written = none_written old.mux.sent.value;
    records = records;
  },
  refl,
  rest,
  refl,
  refl,
  front,
  omega arith,
)
