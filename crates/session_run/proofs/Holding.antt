-- A session that runs, from turn to turn.
use Rattle.std.proofs.Common.{◌≡◌, ◌≤◌, ℕ, ◌+◌, Bool, true, false, ◌&&◌, not, List, [], ◌∷◌, ◌++◌, length, Option, Some, None, Result, Ok, Err, refl, sym, ◌∙◌, ap, subst, if◌then◌else◌, arith, append-nil}
use Rattle.std.proofs.lemmas.Bool.{false≢true}
use Rattle.std.proofs.lemmas.List.{append_assoc, length-append}
use Rattle.std.specs.Arc.{arc_value}
use Rattle.sg_outside.specs.Wire.{Traffic}
use Rattle.sg_outside.specs.declared.wire.Got.{Got}
use Rattle.sg_outside.specs.declared.wire.Got.TheVariants as got
use Rattle.blip_frame.specs.Checksum.{checksum, after_bits}
use Rattle.blip_frame.specs.Frame as frame
use Rattle.blip_frame.specs.Frame.{FrameParts, ◌>>=◌, frame_at, frames_at, with_first, with_front, AreWrittenAfter, all_sent}
use Rattle.blip_frame.specs.declared.frame.FrameFault.{FrameFault}
use Rattle.blip_mux.specs.declared.message.Message.{Message}
use Rattle.blip_mux.specs.declared.inbox.Taken.{Taken}
use Rattle.blip_mux.specs.Apart.{AreApart}
use Rattle.blip_mux.specs.Joining.{Event, came, expected, is_request, answer_in}
use Rattle.blip_mux.specs.Remembered.{InboxState}
use Rattle.blip_mux.specs.InboxStates.{new_inbox, expecting, answer_at, taken_after, StandsFor}
use Rattle.blip_mux.specs.Sending.{Sending, new_sending, picked}
use Rattle.session_core.specs.declared.act.Want.{Want}
use Rattle.session_core.specs.declared.machine.Pending.{Pending}
use Rattle.session_core.specs.declared.machine.Pending.TheVariants as pending
use Rattle.session_core.specs.Conduct.{WantsFor}
use Rattle.session_core.specs.Fronts.{look_of, stored_by, looks_of, stored_of}
use Rattle.session_core.specs.Running.{Running}
use Rattle.session_core.specs.State.{Machine, new_machine}
use Rattle.session_core.specs.Steps.{SessionStep, Steps, Leads, put_by, wanted_after}
use Rattle.sync_syntax.specs.declared.tree.Program.{Program}
use Rattle.session_mux.specs.Sent.{expecting_by, expecting_all}
use Rattle.session_run.specs.declared.serve.Setup.{Setup}
use Rattle.session_run.specs.declared.session.Session.{Session}
use Rattle.session_run.specs.Answered.{Moment, IsEventAnswered, AreAnswered}
use Rattle.session_run.specs.inner.Held.{IsAtRest, IsRead, Holds, Turned, inbox_after, counted}
use Rattle.session_run.specs.Served.{are_frames, frame_bytes}
use Rattle.session_run.specs.Spent.{most_looks, spent_of}
use Rattle.session_run.specs.Turns.{SessionTurn, steps_of, frame_in, turn_frames, is_frame, framed, framed_by, events_of, came_after, put_after, all_put_after, IsJoined}
use Rattle.session_run.proofs.Taking.{Kept, Wants}

-- ---- what is expected

-- what the inbox keeps of what came, as its laws say
abbrev pub Came : Type 0
Came = (s : InboxState) (before : List Event) (f : FrameParts) → StandsFor s before → StandsFor (taken_after s f) (came f ∷ before)

abbrev pub Expects : Type 0
Expects = (s : InboxState) (before : List Event) (number : ℕ) → StandsFor s before → StandsFor (expecting s number) (expected number ∷ before)

abbrev pub Joins : Type 0
Joins = (s : InboxState) (before : List Event) (f : FrameParts) → StandsFor s before → answer_at s f ≡ answer_in before f

one_stands : Expects → (s : InboxState) (before : List Event) (m : Message) (b : Bool) → StandsFor s before
    → StandsFor (if b then expecting s m.number else s) (if b then expected m.number ∷ before else before)
one_stands law s before m true stands = law s before m.number stands
one_stands law s before m false stands = stands

all_stand : Expects → (messages : List Message) (s : InboxState) (before : List Event) → StandsFor s before → StandsFor (expecting_all messages s) (all_put_after messages before)
all_stand law [] s before stands = stands
all_stand law (m ∷ messages) s before stands =
    all_stand law messages (expecting_by m s) (put_after m before) (one_stands law s before m (is_request m.kind && not m.no_reply) stands)

-- ---- what was read

front_end : (frames : List FrameParts) (f : FrameParts) (read : Result (List FrameParts) FrameFault) → with_front (frames ++ f ∷ []) read ≡ with_front frames (with_first f read)
front_end [] f read = refl
front_end (g ∷ frames) f read = ap (with_first g) (front_end frames f read)

pub front_ok : (frames more : List FrameParts) → with_front frames (Ok more) ≡ Ok (frames ++ more)
front_ok [] more = refl
front_ok (g ∷ frames) more = ap (with_first g) (front_ok frames more)

pub front_err : (frames : List FrameParts) (fault : FrameFault) → with_front frames (Err fault) ≡ Err fault
front_err [] fault = refl
front_err (g ∷ frames) fault = ap (with_first g) (front_err frames fault)

frames_on : (results more : List Got) → are_frames results ≡ true → are_frames more ≡ true → are_frames (results ++ more) ≡ true
frames_on [] more e f = f
frames_on (got.Frame first ∷ results) more e f = frames_on results more e f
frames_on (got.Text ∷ results) more e f = absurd (false≢true e)
frames_on (got.Idle ∷ results) more e f = frames_on results more e f
frames_on (got.End ∷ results) more e f = absurd (false≢true e)
frames_on (got.Failed ∷ results) more e f = absurd (false≢true e)
frames_on (got.Memory ∷ results) more e f = absurd (false≢true e)

bytes_on : (results more : List Got) → frame_bytes (results ++ more) ≡ frame_bytes results ++ frame_bytes more
bytes_on [] more = refl
bytes_on (got.Frame first ∷ results) more = ap (λ bs. first ∷ bs) (bytes_on results more)
bytes_on (got.Text ∷ results) more = bytes_on results more
bytes_on (got.Idle ∷ results) more = bytes_on results more
bytes_on (got.End ∷ results) more = bytes_on results more
bytes_on (got.Failed ∷ results) more = bytes_on results more
bytes_on (got.Memory ∷ results) more = bytes_on results more

kinds_on : (results more : List Got) → framed_by (results ++ more) ≡ framed_by results ++ framed_by more
kinds_on [] more = refl
kinds_on (got.Frame first ∷ results) more = ap (λ bs. true ∷ bs) (kinds_on results more)
kinds_on (got.Text ∷ results) more = ap (λ bs. false ∷ bs) (kinds_on results more)
kinds_on (got.Idle ∷ results) more = ap (λ bs. false ∷ bs) (kinds_on results more)
kinds_on (got.End ∷ results) more = ap (λ bs. false ∷ bs) (kinds_on results more)
kinds_on (got.Failed ∷ results) more = ap (λ bs. false ∷ bs) (kinds_on results more)
kinds_on (got.Memory ∷ results) more = ap (λ bs. false ∷ bs) (kinds_on results more)

-- one frame more is read
read_on : (results : List Got) (frames : List FrameParts) (f : FrameParts) (bytes : List ℕ) (value value_after : ℕ)
    → ((later : List (List ℕ)) → frames_at 0 (frame_bytes results ++ later) ≡ with_front frames (frames_at value later))
    → frame_at value bytes ≡ Ok (f, value_after)
    → (later : List (List ℕ)) → frames_at 0 (frame_bytes (results ++ got.Frame bytes ∷ []) ++ later) ≡ with_front (frames ++ f ∷ []) (frames_at value_after later)
read_on results frames f bytes value value_after read one later =
    ap (λ bs. frames_at 0 (bs ++ later)) (bytes_on results (got.Frame bytes ∷ []))
    ∙ ap (frames_at 0) (append_assoc (frame_bytes results) (bytes ∷ []) later)
    ∙ read (bytes ∷ later)
    ∙ ap (λ r. with_front frames (r >>= λ found. with_first found.0 (frames_at found.1 later))) one
    ∙ sym (front_end frames f (frames_at value_after later))

-- what holds of one result more
pub record Received (old new : Session) (turns : List SessionTurn) (results : List Got) (result : Got) (f : Option FrameParts) (given : Taken) : Type 0 where
  pub taken : are_frames (results ++ result ∷ []) ≡ true
  pub kinds : framed_by (results ++ result ∷ []) ≡ framed turns ++ is_frame f ∷ []
  pub read : (later : List (List ℕ)) → frames_at 0 (frame_bytes (results ++ result ∷ []) ++ later) ≡ with_front (turn_frames turns ++ frame_in f) (frames_at new.mux.received.value later)
  pub joined : IsJoined f given (events_of turns)
  pub inbox : StandsFor (inbox_after old.mux.inbox f) (came_after f (events_of turns))

pub received_on : Came → Joins → (setup : Setup) (start now : Moment) (old new : Session) (turns : List SessionTurn) (frames : List FrameParts) (results : List Got) (sent : List (List ℕ)) (result : Got) (f : Option FrameParts) (given : Taken)
    → Holds setup start now old turns frames results sent → IsRead result old.mux new.mux f given → Received old new turns results result f given
received_on came_law joins setup start now old new turns frames results sent (got.Frame bytes) (Some f) given held (read, answer) = record {
  taken = frames_on results (got.Frame bytes ∷ []) held.taken refl;
  kinds = kinds_on results (got.Frame bytes ∷ []) ∙ ap (λ bs. bs ++ true ∷ []) held.kinds;
  read = read_on results (turn_frames turns) f bytes old.mux.received.value new.mux.received.value held.read read;
  joined = sym (joins old.mux.inbox (events_of turns) f held.inbox) ∙ answer;
  inbox = came_law old.mux.inbox (events_of turns) f held.inbox;
}
received_on came_law joins setup start now old new turns frames results sent (got.Frame bytes) None given held read = absurd read
received_on came_law joins setup start now old new turns frames results sent got.Idle None given held (same, none) = record {
  taken = frames_on results (got.Idle ∷ []) held.taken refl;
  kinds = kinds_on results (got.Idle ∷ []) ∙ ap (λ bs. bs ++ false ∷ []) held.kinds;
  read = λ later. ap (λ bs. frames_at 0 (bs ++ later)) (bytes_on results (got.Idle ∷ []) ∙ append-nil (frame_bytes results)) ∙ held.read later
      ∙ ap (λ fs. with_front fs (frames_at old.mux.received.value later)) (sym (append-nil (turn_frames turns)))
      ∙ ap (λ c. with_front (turn_frames turns ++ []) (frames_at c.value later)) (sym same);
  joined = none;
  inbox = held.inbox;
}
received_on came_law joins setup start now old new turns frames results sent got.Idle (Some f) given held read = absurd read
received_on came_law joins setup start now old new turns frames results sent got.Text f given held read = absurd read
received_on came_law joins setup start now old new turns frames results sent got.End f given held read = absurd read
received_on came_law joins setup start now old new turns frames results sent got.Failed f given held read = absurd read
received_on came_law joins setup start now old new turns frames results sent got.Memory f given held read = absurd read

-- ---- what was sent

pub written_more : (sent : List ℕ) (texts more : List (List ℕ)) (frames others : List FrameParts)
    → AreWrittenAfter sent texts frames → AreWrittenAfter (all_sent sent frames) more others → AreWrittenAfter sent (texts ++ more) (frames ++ others)
written_more sent [] more [] others a b = b
written_more sent [] more (f ∷ frames) others a b = absurd a
written_more sent (text ∷ texts) more [] others a b = absurd a
written_more sent (text ∷ texts) more (f ∷ frames) others (first, a) b = (first, written_more (frame.payload_sent_after sent f) texts more frames others a b)

sent_more : (sent : List ℕ) (frames others : List FrameParts) → all_sent sent (frames ++ others) ≡ all_sent (all_sent sent frames) others
sent_more sent [] others = refl
sent_more sent (f ∷ frames) others = sent_more (frame.payload_sent_after sent f) frames others

-- ---- steps after steps

pub looks_after : (steps earlier : List SessionStep) → looks_of (steps ++ earlier) ≡ looks_of earlier ++ looks_of steps
looks_after [] earlier = sym (append-nil (looks_of earlier))
looks_after (s ∷ steps) earlier = ap (λ l. l ++ look_of s.event) (looks_after steps earlier) ∙ append_assoc (looks_of earlier) (looks_of steps) (look_of s.event)

pub stored_after : (steps earlier : List SessionStep) → stored_of (steps ++ earlier) ≡ stored_of earlier ++ stored_of steps
stored_after [] earlier = sym (append-nil (stored_of earlier))
stored_after (s ∷ steps) earlier = ap (λ l. l ++ stored_by s.event) (stored_after steps earlier) ∙ append_assoc (stored_of earlier) (stored_of steps) (stored_by s.event)

pub spent_after : (steps earlier : List SessionStep) → spent_of (steps ++ earlier) ≡ spent_of earlier + spent_of steps
spent_after [] earlier = omega arith
spent_after (s ∷ steps) earlier = omega (arith, spent_after steps earlier)

still_wanted : (steps earlier : List SessionStep) → wanted_after earlier ≡ None → wanted_after (steps ++ earlier) ≡ wanted_after steps
still_wanted [] earlier none = none
still_wanted (s ∷ steps) earlier none = refl

pub answered_after : (start between now : Moment) (user : List ℕ) (program : Program) (strict : Bool) (steps earlier : List SessionStep) → wanted_after earlier ≡ None
    → AreAnswered start user program strict earlier between → AreAnswered between user program strict steps now → AreAnswered start user program strict (steps ++ earlier) now
answered_after start between now user program strict [] earlier none a b = subst (AreAnswered start user program strict earlier) (sym b) a
answered_after start between now user program strict (s ∷ steps) earlier none a (middle, b, one) =
    (middle, answered_after start between middle user program strict steps earlier none a b, subst (λ w. IsEventAnswered middle user program strict w s.event now) (sym (still_wanted steps earlier none)) one)

-- ---- where nothing is awaited

none_wanted : (feed : Option Running) (p : Pending) (want : Option Want) → p ≡ pending.Nothing → WantsFor feed p want → want ≡ None
none_wanted feed pending.Nothing None e w = refl
none_wanted feed pending.Nothing (Some want) e w = absurd w
none_wanted feed (pending.Feed asked) want e w = cc
none_wanted feed pending.More want e w = cc
none_wanted feed (pending.Bodies rows) want e w = cc
none_wanted feed (pending.Reply asker to) want e w = cc

step_wants : Wants → (m : Machine) (s : SessionStep) (after : Machine) → Steps m s after → after.pending ≡ pending.Nothing → s.want ≡ None
step_wants law m s after made rest =
    made.want ∙ none_wanted made.done.after.feed made.done.after.pending made.done.want (ap (λ (m : Machine). m.pending) (sym made.leads) ∙ rest) (law m s.event made.done made.awaited made.does)

pub nothing_wanted : Wants → (m : Machine) (steps earlier : List SessionStep) (after : Machine) → Leads m steps after → after.pending ≡ pending.Nothing → wanted_after earlier ≡ None → wanted_after (steps ++ earlier) ≡ None
nothing_wanted law m [] earlier after leads rest none = none
nothing_wanted law m (s ∷ steps) earlier after (before, leads, made) rest none = step_wants law before s after made rest

pub users_stay : Kept → (m : Machine) (steps : List SessionStep) (after : Machine) → Leads m steps after → (after.user ≡ m.user) × (after.strict ≡ m.strict)
users_stay law m [] after leads = (ap (λ (m : Machine). m.user) leads, ap (λ (m : Machine). m.strict) leads)
users_stay law m (s ∷ steps) after (before, leads, made) =
    let kept = law before s.event made.done made.awaited made.does in
    let earlier : (before.user ≡ m.user) × (before.strict ≡ m.strict) = users_stay law m steps before leads in
    (ap (λ (m : Machine). m.user) made.leads ∙ kept.user ∙ earlier.0, ap (λ (m : Machine). m.strict) made.leads ∙ kept.strict ∙ earlier.1)

-- ---- from turn to turn

counted_frames : (f : Option FrameParts) → length (frame_in f) ≡ counted f
counted_frames None = refl
counted_frames (Some f) = refl

counted_on : (old new : Session) (turns : List SessionTurn) (t : SessionTurn) → new.frames ≡ old.frames + counted t.frame → old.frames ≡ length (turn_frames turns) → new.frames ≡ length (turn_frames (t ∷ turns))
counted_on old new turns t more count = omega (arith, more, count, counted_frames t.frame, length-append (turn_frames turns) (frame_in t.frame))

-- a turn's steps were answered after all before it
pub turn_answered : (setup : Setup) (start now final : Moment) (old : Session) (turns : List SessionTurn) (steps : List SessionStep) (frames : List FrameParts) (results : List Got) (sent : List (List ℕ))
    → Holds setup start now old turns frames results sent → AreAnswered now old.core.user (arc_value setup.program) old.core.strict steps final
    → AreAnswered start setup.user (arc_value setup.program) setup.strict (steps ++ steps_of turns) final
turn_answered setup start now final old turns steps frames results sent held a =
    answered_after start now final setup.user (arc_value setup.program) setup.strict steps (steps_of turns) held.wanted held.answered
    (subst (λ s. AreAnswered now setup.user (arc_value setup.program) s steps final) held.strict (subst (λ u. AreAnswered now u (arc_value setup.program) old.core.strict steps final) held.user a))

pub holds_on : Came → Expects → Joins → Kept → Wants
    → (setup : Setup) (start now final : Moment) (old new : Session) (turns : List SessionTurn) (frames : List FrameParts) (results : List Got) (sent : List (List ℕ))
    (result : Got) (traffic traffic_after : Option Traffic) (t : SessionTurn)
    → Holds setup start now old turns frames results sent
    → (did : Turned (arc_value setup.program) old new result now final traffic traffic_after t None new.mux.outbox []) → did.value ≡ new.mux.sent.value → IsAtRest new → did.now ≡ final
    → new.mux.inbox ≡ expecting_all (put_by t.steps) (inbox_after old.mux.inbox t.frame) → new.listing.spent ≤ most_looks
    → Holds setup start final new (t ∷ turns) (frames ++ did.frames) (results ++ result ∷ []) (sent ++ did.sent)
holds_on came_law expects joins kept_law wants setup start now final old new turns frames results sent result traffic traffic_after t held did value rest now_is inbox few =
    let written : AreWrittenAfter (all_sent [] frames) did.sent did.frames × (did.value ≡ checksum (all_sent (all_sent [] frames) did.frames)) = did.written (all_sent [] frames) held.checked in
    let got : Received old new turns results result t.frame t.given = received_on came_law joins setup start now old new turns frames results sent result t.frame t.given held did.read in
    let users : (new.core.user ≡ old.core.user) × (new.core.strict ≡ old.core.strict) = users_stay kept_law old.core t.steps new.core did.leads in
    record {
      user = users.0 ∙ held.user;
      strict = users.1 ∙ held.strict;
      led = (old.core, held.led, did.leads, did.called);
      rest = rest;
      wanted = nothing_wanted wants old.core t.steps (steps_of turns) new.core did.leads rest.pending held.wanted;
      answered = turn_answered setup start now final old turns t.steps frames results sent held (subst (AreAnswered now old.core.user (arc_value setup.program) old.core.strict t.steps) now_is did.answered);
      joined = (got.joined, held.joined);
      inbox = subst (λ s. StandsFor s (events_of (t ∷ turns))) (sym inbox)
          (all_stand expects (put_by t.steps) (inbox_after old.mux.inbox t.frame) (came_after t.frame (events_of turns)) got.inbox);
      looks = did.looks ∙ ap (λ l. l ++ looks_of t.steps) held.looks ∙ sym (looks_after t.steps (steps_of turns));
      stored = did.stored ∙ ap (λ l. l ++ stored_of t.steps) held.stored ∙ sym (stored_after t.steps (steps_of turns));
      spent = did.spent ∙ ap (λ n. n + spent_of t.steps) held.spent ∙ sym (spent_after t.steps (steps_of turns));
      few = few;
      count = counted_on old new turns t did.count held.count;
      taken = got.taken;
      kinds = got.kinds;
      read = got.read;
      put = (frames, did.frames, old.mux.outbox, refl, held.put, held.rest.idle, did.no_bad_ack, did.go);
      written = written_more [] sent did.sent frames did.frames held.written written.0;
      checked = sym value ∙ written.1 ∙ ap checksum (sym (sent_more [] frames did.frames));
    }

-- ---- the beginning

nothing_checked : 0 ≡ checksum []
unfolding checksum after_bits
nothing_checked = refl

-- a session to which nothing has come
pub holds_new : (setup : Setup) (now : Moment) (s : Session)
    → StandsFor new_inbox [] → AreApart new_inbox new_sending
    → s.core ≡ new_machine setup.user setup.version setup.strict
    → s.mux.inbox ≡ new_inbox → s.mux.outbox ≡ new_sending → s.mux.received.value ≡ 0 → s.mux.sent.value ≡ 0 → s.listing.looks ≡ [] → s.listing.stored ≡ [] → s.listing.spent ≡ 0 → s.frames ≡ 0
    → Holds setup now now s [] [] [] []
holds_new setup now s stands apart core inbox outbox received sent looks stored spent frames = record {
  user = ap (λ (m : Machine). m.user) core;
  strict = ap (λ (m : Machine). m.strict) core;
  led = (core, refl);
  rest = record {
    pending = ap (λ (m : Machine). m.pending) core;
    ready = record {
      requests = ap (λ (o : Sending). o.requests) outbox ∙ sym (ap (λ (m : Machine). m.requests) core);
      apart = subst (λ i. AreApart i s.mux.outbox) (sym inbox) (subst (AreApart new_inbox) (sym outbox) apart);
    };
    idle = ap picked outbox;
  };
  wanted = refl;
  answered = refl;
  joined = tt;
  inbox = subst (λ s. StandsFor s []) (sym inbox) stands;
  looks = looks;
  stored = stored;
  spent = spent;
  few = omega (arith, spent);
  count = frames;
  taken = refl;
  kinds = refl;
  read = λ later. ap (λ v. frames_at v later) (sym received);
  put = (refl, outbox);
  written = tt;
  checked = sent ∙ nothing_checked;
}
