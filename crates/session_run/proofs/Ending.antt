-- A session that ends.
use Rattle.std.proofs.Common.{◌≡◌, ◌⊎◌, inl, inr, ◌≤◌, ◌<◌, ℕ, ◌+◌, ◌*◌, Bool, true, false, List, [], ◌∷◌, ◌++◌, length, Option, Some, None, Result, Ok, Err, refl, sym, ◌∙◌, ap, subst, arith, append-nil}
use Rattle.std.proofs.lemmas.Bool.{false≢true}
use Rattle.std.proofs.lemmas.List.{length-append, append_assoc}
use Rattle.std.proofs.lemmas.Option.{none-some}
use Rattle.std.specs.Arc.{arc_value}
use Rattle.sync_syntax.specs.declared.tree.Program.{Program}
use Rattle.sg_outside.specs.Wire.{Traffic}
use Rattle.sg_outside.specs.declared.sink.Gave.{Gave}
use Rattle.sg_outside.specs.declared.sink.Gave.TheVariants as gave
use Rattle.sg_outside.specs.declared.wire.Got.{Got}
use Rattle.sg_outside.specs.declared.wire.Got.TheVariants as got
use Rattle.blip_frame.specs.Frame.{FrameParts, ◌>>=◌, frame_at, frames_at, with_first, with_front, all_sent}
use Rattle.blip_frame.specs.declared.frame.FrameFault.{FrameFault}
use Rattle.blip_mux.specs.declared.inbox.Taken.{Taken}
use Rattle.blip_mux.specs.declared.inbox.TakeFault.{TakeFault}
use Rattle.blip_mux.specs.Joining.{answer_in}
use Rattle.blip_mux.specs.InboxStates.{answer_at}
use Rattle.blip_mux.specs.Sending.{Sending, picked}
use Rattle.session_core.specs.declared.act.Want.{Want}
use Rattle.session_core.specs.declared.event.Event.{Event}
use Rattle.session_core.specs.declared.machine.Pending.TheVariants as pending
use Rattle.session_core.specs.Conduct.{feed_front}
use Rattle.session_core.specs.Fronts.{looks_of, stored_of}
use Rattle.session_core.specs.State.{Machine, most_puts}
use Rattle.session_core.specs.Steps.{SessionStep, wanted_after}
use Rattle.session_mux.specs.declared.frame_why.FrameWhy.{FrameWhy}
use Rattle.session_mux.specs.Frames.{IsBadFrame, IsBadTaken}
use Rattle.session_mux.specs.Sent.{Records}
use Rattle.session_run.specs.declared.ended.End.{End}
use Rattle.session_run.specs.declared.ended.End.TheVariants as end
use Rattle.session_run.specs.declared.ended.Ended.{Ended}
use Rattle.session_run.specs.declared.serve.Setup.{Setup}
use Rattle.session_run.specs.declared.session.Session.{Session}
use Rattle.session_run.specs.Answered.{Moment, HasReadGround, AreAnswered}
use Rattle.session_run.specs.inner.Held.{IsAtRest, Holds, Turned, Leaves, Takes, Runs, RunsOn}
use Rattle.session_run.specs.Served.{frame_bytes, IsBadAfter, EndsBy, IsSentAt, IsClosedAt, IsStillAt, IsSession, IsServed}
use Rattle.session_run.specs.Spent.{most_looks, spent_of, NeedsMore}
use Rattle.session_run.specs.Turns.{SessionTurn, undone, steps_of, turn_frames, events_of}
use Rattle.session_run.proofs.Holding.{Came, Expects, Joins, Received, received_on, front_ok, front_err, written_more, looks_after, stored_after, spent_after, turn_answered, holds_on}
use Rattle.session_run.proofs.Taking.{Kept, Wants}

abbrev is_memory : Got → Bool
is_memory (got.Frame bytes) = false
is_memory got.Text = false
is_memory got.Idle = false
is_memory got.End = false
is_memory got.Failed = false
is_memory got.Memory = true

pub not_memory : (result : Got) → is_memory result ≡ false → result ≡ got.Memory → ⊥
not_memory result e is = false≢true (sym e ∙ ap is_memory is)

-- what the law of traffic says
abbrev pub RecordsOn : Type 0
RecordsOn = (traffic between after : Option Traffic) (got more_got : List Got) (sent more_sent : List (List ℕ)) (failed : List Gave)
    → Records traffic got sent [] between → Records between more_got more_sent failed after → Records traffic (got ++ more_got) (sent ++ more_sent) failed after

-- ---- the whole

-- all that was put was sent
none_left : (e : End) (left : Sending) → picked left ≡ None → IsSentAt e left
none_left end.Closed left idle = idle
none_left end.WireFault left idle = tt
none_left (end.BadFrame index w) left idle = idle
none_left end.LooksFull left idle = idle
none_left end.TurnsFull left idle = idle
none_left end.Memory left idle = tt

-- an end at which nothing more is needed
abbrev pub IsMetBy : End → Type 0
IsMetBy end.LooksFull = ⊥
IsMetBy other = Unit {0}

closed : (e : End) (steps : List SessionStep) (m : Machine) → IsMetBy e → m.pending ≡ pending.Nothing → IsClosedAt e steps m None
closed end.Closed steps m met rest = (rest, refl)
closed end.WireFault steps m met rest = (inl rest, refl)
closed (end.BadFrame index w) steps m met rest = (rest, refl)
closed end.LooksFull steps m met rest = absurd met
closed end.TurnsFull steps m met rest = (rest, refl)
closed end.Memory steps m met rest = tt

still : (e : End) (now : Moment) → IsStillAt e now now
still end.Closed now = refl
still end.WireFault now = refl
still (end.BadFrame index w) now = refl
still end.LooksFull now = refl
still end.TurnsFull now = refl
still end.Memory now = tt

abbrev pub ended_as : End → Session → Ended
ended_as e s = record { end = e; looks = s.listing.looks; stored = s.listing.stored }

-- a session that ends after its turns, by these last results
session_after : (setup : Setup) (start now : Moment) (s : Session) (turns : List SessionTurn) (frames : List FrameParts) (results last : List Got) (sent : List (List ℕ)) (e : End) (failed : List Gave)
    → Holds setup start now s turns frames results sent → HasReadGround now now → length (results ++ last) ≤ 1099511627776 → IsMetBy e → EndsBy turns s.mux.outbox e results last failed
    → IsSession setup start now (ended_as e s) (results ++ last) sent failed
session_after setup start now s turns frames results last sent e failed held read count met by = record {
  turns = turns;
  halted = None;
  taken = results;
  last = last;
  frames = frames;
  left = s.mux.outbox;
  machine = s.core;
  now = now;
  results_are = refl;
  count = count;
  taken_are = held.taken;
  kinds = held.kinds;
  read = ap (frames_at 0) (sym (append-nil (frame_bytes results))) ∙ held.read [] ∙ front_ok (turn_frames turns) [] ∙ ap Ok (append-nil (turn_frames turns));
  joined = held.joined;
  led = held.led;
  closed = closed e (steps_of turns) s.core met held.rest.pending;
  answered = held.answered;
  reads = read;
  still = still e now;
  looks = held.looks;
  stored = held.stored;
  few = subst (λ n. n ≤ most_looks) held.spent held.few;
  put = held.put;
  written = held.written;
  whole = none_left e s.mux.outbox held.rest.idle;
  ends = by;
}

counted_on : (results : List Got) (g : Got) (count : ℕ) → length results ≡ count → length (results ++ g ∷ []) ≡ count + 1
counted_on results g count e = omega (arith, length-append results (g ∷ []), e)

at_most_one : (results last : List Got) (count : ℕ) → length results ≡ count → count < 1099511627776 → length last ≤ 1 → length (results ++ last) ≤ 1099511627776
at_most_one results last count e below few = omega (arith, length-append results last, e, below, few)

-- by these last results, at most one, in which no turn is
pub run_ends : RecordsOn → (setup : Setup) (start now final : Moment) (traffic traffic_now traffic_after : Option Traffic) (s new : Session) (count : ℕ) (e : End) (last : List Got)
    → final ≡ now → HasReadGround now now → new.listing.looks ≡ s.listing.looks → new.listing.stored ≡ s.listing.stored
    → count + length last ≤ 1099511627776 → IsMetBy e
    → ((turns : List SessionTurn) (frames : List FrameParts) (results : List Got) (sent : List (List ℕ)) → Holds setup start now s turns frames results sent → length results ≡ count → EndsBy turns s.mux.outbox e results last [])
    → Records traffic_now last [] [] traffic_after
    → Runs setup start now traffic s traffic_now count → IsServed setup start final traffic (ended_as e new) traffic_after
run_ends law setup start now final traffic traffic_now traffic_after s new count e last same read looks stored few met by records runs =
    subst (λ m. IsServed setup start m traffic (ended_as e new) traffic_after) (sym same)
    (subst (λ l. IsServed setup start now traffic (record { end = e; looks = l; stored = new.listing.stored }) traffic_after) (sym looks)
    (subst (λ l. IsServed setup start now traffic (record { end = e; looks = s.listing.looks; stored = l }) traffic_after) (sym stored)
    (record {
      results = runs.results ++ last;
      sent = runs.sent;
      failed = [];
      session = session_after setup start now s runs.turns runs.frames runs.results last runs.sent e [] runs.holds read (omega (arith, few, runs.counted, length-append runs.results last)) met (by runs.turns runs.frames runs.results runs.sent runs.holds runs.counted);
      records = subst (λ t. Records traffic (runs.results ++ last) t [] traffic_after) (append-nil runs.sent) (law traffic traffic_now traffic_after runs.results last runs.sent [] [] runs.records records);
    })))

-- ---- in a turn

-- a session that ends in a turn, of which this is left
turn_session : Came → Joins → (setup : Setup) (start now final : Moment) (old new : Session) (turns : List SessionTurn) (frames : List FrameParts) (results : List Got) (sent : List (List ℕ)) (e : End)
    (result : Got) (traffic traffic_after : Option Traffic) (t : SessionTurn) (halted : Option Event) (left : Sending) (failed : List Gave)
    → Holds setup start now old turns frames results sent → (did : Turned (arc_value setup.program) old new result now final traffic traffic_after t halted left failed)
    → length (results ++ result ∷ []) ≤ 1099511627776
    → IsClosedAt e (steps_of (t ∷ turns)) new.core halted → new.listing.spent ≤ most_looks → IsSentAt e left → IsStillAt e did.now final → EndsBy (t ∷ turns) left e (results ++ result ∷ []) [] failed
    → IsSession setup start final (ended_as e new) (results ++ result ∷ []) (sent ++ did.sent) failed
turn_session came_law joins setup start now final old new turns frames results sent e result traffic traffic_after t halted left failed held did count is_closed few whole is_still by =
    let got : Received old new turns results result t.frame t.given = received_on came_law joins setup start now old new turns frames results sent result t.frame t.given held did.read in
    record {
      turns = t ∷ turns;
      halted = halted;
      taken = results ++ result ∷ [];
      last = [];
      frames = frames ++ did.frames;
      left = left;
      machine = new.core;
      now = did.now;
      results_are = sym (append-nil (results ++ result ∷ []));
      count = count;
      taken_are = got.taken;
      kinds = got.kinds;
      read = ap (frames_at 0) (sym (append-nil (frame_bytes (results ++ result ∷ [])))) ∙ got.read [] ∙ front_ok (turn_frames (t ∷ turns)) [] ∙ ap Ok (append-nil (turn_frames (t ∷ turns)));
      joined = (got.joined, held.joined);
      led = (old.core, held.led, did.leads, did.called);
      closed = is_closed;
      answered = subst (λ steps. AreAnswered start setup.user (arc_value setup.program) setup.strict steps did.now) (append_assoc (undone halted) t.steps (steps_of turns))
          (turn_answered setup start now did.now old turns (undone halted ++ t.steps) frames results sent held did.answered);
      reads = did.reads;
      still = is_still;
      looks = did.looks ∙ ap (λ l. l ++ looks_of (undone halted ++ t.steps)) held.looks ∙ sym (looks_after (undone halted ++ t.steps) (steps_of turns)) ∙ ap looks_of (append_assoc (undone halted) t.steps (steps_of turns));
      stored = did.stored ∙ ap (λ l. l ++ stored_of (undone halted ++ t.steps)) held.stored ∙ sym (stored_after (undone halted ++ t.steps) (steps_of turns)) ∙ ap stored_of (append_assoc (undone halted) t.steps (steps_of turns));
      few = subst (λ n. n ≤ most_looks) (did.spent ∙ ap (λ n. n + spent_of (undone halted ++ t.steps)) held.spent ∙ sym (spent_after (undone halted ++ t.steps) (steps_of turns)) ∙ ap spent_of (append_assoc (undone halted) t.steps (steps_of turns))) few;
      put = (frames, did.frames, old.mux.outbox, refl, held.put, held.rest.idle, did.no_bad_ack, did.go);
      written = written_more [] sent did.sent frames did.frames held.written (did.written (all_sent [] frames) held.checked).0;
      whole = whole;
      ends = by;
    }

-- ---- a frame at fault

bad_bytes : (turns : List SessionTurn) (left : Sending) (found : Result (FrameParts × ℕ) FrameFault) (answer : FrameParts → Result Taken TakeFault) (w : FrameWhy)
    → ((f : FrameParts) → answer f ≡ answer_in (events_of turns) f)
    → IsBadFrame found answer left w
    → IsBadAfter turns left (with_front (turn_frames turns) (found >>= λ one. with_first one.0 (frames_at one.1 []))) w
bad_bytes turns left (Err fault) answer w same bad = subst (λ r. IsBadAfter turns left r w) (sym (front_err (turn_frames turns) fault)) bad
bad_bytes turns left (Ok one) answer w same bad =
    subst (λ r. IsBadAfter turns left r w) (sym (front_ok (turn_frames turns) (one.0 ∷ []))) (one.0, refl, subst (λ r. IsBadTaken r left w) (same one.0) bad)

bad_after : Joins → (setup : Setup) (start now : Moment) (s : Session) (turns : List SessionTurn) (frames : List FrameParts) (results : List Got) (sent : List (List ℕ)) (bytes : List ℕ) (w : FrameWhy)
    → Holds setup start now s turns frames results sent
    → IsBadFrame (frame_at s.mux.received.value bytes) (answer_at s.mux.inbox) s.mux.outbox w
    → IsBadAfter turns s.mux.outbox (frames_at 0 (frame_bytes results ++ bytes ∷ [])) w
bad_after joins setup start now s turns frames results sent bytes w held bad =
    subst (λ r. IsBadAfter turns s.mux.outbox r w) (sym (held.read (bytes ∷ [])))
    (bad_bytes turns s.mux.outbox (frame_at s.mux.received.value bytes) (answer_at s.mux.inbox) w (λ f. joins s.mux.inbox (events_of turns) f held.inbox) bad)

-- ---- by one result more

-- all of whose turn went
turn_runs : RecordsOn → Came → Expects → Joins → Kept → Wants → (setup : Setup) (start now final : Moment) (traffic traffic_now traffic_between traffic_after : Option Traffic) (old new : Session) (count : ℕ) (result : Got)
    → Records traffic_now (result ∷ []) [] [] traffic_between
    → Takes (arc_value setup.program) old new result now final traffic_between traffic_after None → new.listing.spent ≤ most_looks
    → Runs setup start now traffic old traffic_now count → Runs setup start final traffic new traffic_after (count + 1)
turn_runs law came_law expects joins kept wants setup start now final traffic traffic_now traffic_between traffic_after old new count result records (t, did, value, rest, now_is, inbox, front, few) few_looks runs = record {
  turns = t ∷ runs.turns;
  frames = runs.frames ++ did.frames;
  results = runs.results ++ result ∷ [];
  sent = runs.sent ++ did.sent;
  holds = holds_on came_law expects joins kept wants setup start now final old new runs.turns runs.frames runs.results runs.sent result traffic_between traffic_after t runs.holds did value rest now_is inbox few_looks;
  records = law traffic traffic_now traffic_after runs.results (result ∷ []) runs.sent did.sent [] runs.records (law traffic_now traffic_between traffic_after (result ∷ []) [] [] did.sent [] records did.records);
  counted = counted_on runs.results result count runs.counted;
}

-- in whose turn the session ends
turn_ends : RecordsOn → Came → Joins → (setup : Setup) (start now final : Moment) (traffic traffic_now traffic_between traffic_after : Option Traffic) (old new : Session) (count : ℕ) (result : Got) (e : End) (t : SessionTurn) (halted : Option Event) (left : Sending) (failed : List Gave)
    → count < 1099511627776
    → Records traffic_now (result ∷ []) [] [] traffic_between
    → (did : Turned (arc_value setup.program) old new result now final traffic_between traffic_after t halted left failed)
    → ((turns : List SessionTurn) → old.listing.spent ≡ spent_of (steps_of turns) → IsClosedAt e (steps_of (t ∷ turns)) new.core halted) → new.listing.spent ≤ most_looks → IsSentAt e left → IsStillAt e did.now final → ((turns : List SessionTurn) (results : List Got) → EndsBy turns left e results [] failed)
    → Runs setup start now traffic old traffic_now count → IsServed setup start final traffic (ended_as e new) traffic_after
turn_ends law came_law joins setup start now final traffic traffic_now traffic_between traffic_after old new count result e t halted left failed below records did is_closed few whole is_still by runs = record {
  results = runs.results ++ result ∷ [];
  sent = runs.sent ++ did.sent;
  failed = failed;
  session = turn_session came_law joins setup start now final old new runs.turns runs.frames runs.results runs.sent e result traffic_between traffic_after t halted left failed runs.holds did
      (omega (arith, below, counted_on runs.results result count runs.counted)) (is_closed runs.turns runs.holds.spent) few whole is_still (by (t ∷ runs.turns) (runs.results ++ result ∷ []));
  records = law traffic traffic_now traffic_after runs.results (result ∷ []) runs.sent did.sent failed runs.records (law traffic_now traffic_between traffic_after (result ∷ []) [] [] did.sent failed records did.records);
}

-- that takes part in no turn
leaves_ends : RecordsOn → (setup : Setup) (start now final : Moment) (traffic traffic_now traffic_between traffic_after : Option Traffic) (old new : Session) (count : ℕ) (bytes : List ℕ) (e : End)
    → count < 1099511627776 → HasReadGround now now → IsMetBy e
    → Records traffic_now (got.Frame bytes ∷ []) [] [] traffic_between
    → ((turns : List SessionTurn) (frames : List FrameParts) (results : List Got) (sent : List (List ℕ)) → Holds setup start now old turns frames results sent → length results ≡ count → EndsBy turns old.mux.outbox e results (got.Frame bytes ∷ []) [])
    → Leaves old new now final traffic_between traffic_after
    → Runs setup start now traffic old traffic_now count → IsServed setup start final traffic (ended_as e new) traffic_after
leaves_ends law setup start now final traffic traffic_now traffic_between traffic_after old new count bytes e below read met records by leaves runs =
    run_ends law setup start now final traffic traffic_now traffic_after old new count e (got.Frame bytes ∷ []) leaves.same read leaves.looks leaves.stored (omega (arith, below)) met by
    (law traffic_now traffic_between traffic_after (got.Frame bytes ∷ []) [] [] [] [] records leaves.records) runs

memory_ends : RecordsOn → Came → Joins → (setup : Setup) (start now final : Moment) (traffic traffic_now traffic_between traffic_after : Option Traffic) (old new : Session) (count : ℕ) (result : Got)
    → count < 1099511627776 → HasReadGround now now
    → Records traffic_now (result ∷ []) [] [] traffic_between
    → Takes (arc_value setup.program) old new result now final traffic_between traffic_after (Some end.Memory) → new.listing.spent ≤ most_looks
    → Runs setup start now traffic old traffic_now count → IsServed setup start final traffic (ended_as end.Memory new) traffic_after
memory_ends law came_law joins setup start now final traffic traffic_now traffic_between traffic_after old new count result below read records (inl (t, halted, left, did)) few runs =
    turn_ends law came_law joins setup start now final traffic traffic_now traffic_between traffic_after old new count result end.Memory t halted left [] below records did (λ turns e. tt) few tt tt (λ turns results. (inr refl, refl)) runs
memory_ends law came_law joins setup start now final traffic traffic_now traffic_between traffic_after old new count result below read records (inr (bytes, is, leaves)) few runs =
    leaves_ends law setup start now final traffic traffic_now traffic_between traffic_after old new count bytes end.Memory below read tt
    (subst (λ r. Records traffic_now (r ∷ []) [] [] traffic_between) is records)
    (λ turns frames results sent held counted. (inl (bytes, refl), refl)) leaves runs

-- what is wanted after a turn's steps is wanted after all
wanted_in : (steps earlier : List SessionStep) (want : Want) → wanted_after steps ≡ Some want → wanted_after (steps ++ earlier) ≡ Some want
wanted_in [] earlier want e = absurd (none-some want e)
wanted_in (s ∷ steps) earlier want e = e

more_in : (old new : Session) (turns : List SessionTurn) (t : SessionTurn) → new.listing.spent ≡ old.listing.spent + spent_of t.steps → old.listing.spent ≡ spent_of (steps_of turns)
    → NeedsMore new.listing.spent t.steps → NeedsMore (spent_of (steps_of (t ∷ turns))) (steps_of (t ∷ turns))
more_in old new turns t did held (full, want, is, look) =
    (omega (arith, full, did, held, spent_after t.steps (steps_of turns)), want, wanted_in t.steps (steps_of turns) want is, look)

rests_in : (old new : Session) (turns : List SessionTurn) (t : SessionTurn) → new.listing.spent ≡ old.listing.spent + spent_of t.steps → old.listing.spent ≡ spent_of (steps_of turns)
    → (new.core.pending ≡ pending.Nothing) ⊎ NeedsMore new.listing.spent t.steps → (new.core.pending ≡ pending.Nothing) ⊎ NeedsMore (spent_of (steps_of (t ∷ turns))) (steps_of (t ∷ turns))
rests_in old new turns t did held (inl rest) = inl rest
rests_in old new turns t did held (inr more) = inr (more_in old new turns t did held more)

taken_by : RecordsOn → Came → Expects → Joins → Kept → Wants → (setup : Setup) (start now final : Moment) (traffic traffic_now traffic_between traffic_after : Option Traffic) (old new : Session) (count : ℕ) (result : Got) (ends : Option End)
    → count < 1099511627776 → HasReadGround now now
    → Records traffic_now (result ∷ []) [] [] traffic_between
    → Takes (arc_value setup.program) old new result now final traffic_between traffic_after ends → new.listing.spent ≤ most_looks
    → Runs setup start now traffic old traffic_now count → RunsOn setup start final traffic new traffic_after count ends
taken_by law came_law expects joins kept wants setup start now final traffic traffic_now traffic_between traffic_after old new count result None below read records takes few runs =
    turn_runs law came_law expects joins kept wants setup start now final traffic traffic_now traffic_between traffic_after old new count result records takes few runs
taken_by law came_law expects joins kept wants setup start now final traffic traffic_now traffic_between traffic_after old new count result (Some end.Closed) below read records takes few runs = absurd takes
taken_by law came_law expects joins kept wants setup start now final traffic traffic_now traffic_between traffic_after old new count result (Some end.WireFault) below read records (t, left, did, rest, now_is) few runs =
    turn_ends law came_law joins setup start now final traffic traffic_now traffic_between traffic_after old new count result end.WireFault t None left (gave.Failed ∷ []) below records did
    (λ turns spent. (rests_in old new turns t did.spent spent rest, refl)) few tt (sym now_is) (λ turns results. inr (refl, refl)) runs
taken_by law came_law expects joins kept wants setup start now final traffic traffic_now traffic_between traffic_after old new count result (Some end.LooksFull) below read records (t, left, did, idle, more, now_is) few runs =
    turn_ends law came_law joins setup start now final traffic traffic_now traffic_between traffic_after old new count result end.LooksFull t None left [] below records did
    (λ turns spent. (more_in old new turns t did.spent spent more, refl)) few idle (sym now_is) (λ turns results. (refl, refl)) runs
taken_by law came_law expects joins kept wants setup start now final traffic traffic_now traffic_between traffic_after old new count result (Some (end.BadFrame index w)) below read records (bytes, is, at, bad, leaves) few runs =
    leaves_ends law setup start now final traffic traffic_now traffic_between traffic_after old new count bytes (end.BadFrame index w) below read tt
    (subst (λ r. Records traffic_now (r ∷ []) [] [] traffic_between) is records)
    (λ turns frames results sent held counted. (at ∙ ap (λ n. n + 1) held.count, got.Frame bytes, refl, bad_after joins setup start now old turns frames results sent bytes w held bad, refl))
    leaves runs
taken_by law came_law expects joins kept wants setup start now final traffic traffic_now traffic_between traffic_after old new count result (Some end.TurnsFull) below read records takes few runs = absurd takes
taken_by law came_law expects joins kept wants setup start now final traffic traffic_now traffic_between traffic_after old new count result (Some end.Memory) below read records takes few runs =
    memory_ends law came_law joins setup start now final traffic traffic_now traffic_between traffic_after old new count result below read records takes few runs

pub result_taken : (program : Program) → RecordsOn → Came → Expects → Joins → Kept → Wants → (setup : Setup) (start now final : Moment) (traffic traffic_now traffic_between traffic_after : Option Traffic) (old new : Session) (count : ℕ) (result : Got) (ends : Option End)
    → arc_value setup.program ≡ program → count < 1099511627776 → HasReadGround now now
    → Records traffic_now (result ∷ []) [] [] traffic_between
    → Takes program old new result now final traffic_between traffic_after ends → new.listing.spent ≤ most_looks
    → Runs setup start now traffic old traffic_now count → RunsOn setup start final traffic new traffic_after count ends
result_taken program law came_law expects joins kept wants setup start now final traffic traffic_now traffic_between traffic_after old new count result ends same below read records takes few runs =
    taken_by law came_law expects joins kept wants setup start now final traffic traffic_now traffic_between traffic_after old new count result ends below read records
    (subst (λ p. Takes p old new result now final traffic_between traffic_after ends) (sym same) takes) few runs

-- ---- after a step

pub rest_after : (program : Program) (old new : Session) (result : Got) (now final : Moment) (traffic traffic_after : Option Traffic) (ends : Option End) → Takes program old new result now final traffic traffic_after ends → ends ≡ None → IsAtRest new
rest_after program old new result now final traffic traffic_after None (t, did, value, rest, now_is, inbox, front, few) e = rest
rest_after program old new result now final traffic traffic_after (Some other) takes e = cc

pub front_after : (program : Program) (old new : Session) (result : Got) (now final : Moment) (traffic traffic_after : Option Traffic) (ends : Option End) → Takes program old new result now final traffic traffic_after ends → ends ≡ None → feed_front new.core.feed ≤ final.lowest
front_after program old new result now final traffic traffic_after None (t, did, value, rest, now_is, inbox, front, few) e = front
front_after program old new result now final traffic traffic_after (Some other) takes e = cc

pub few_after : (program : Program) (old new : Session) (result : Got) (now final : Moment) (traffic traffic_after : Option Traffic) (ends : Option End) → Takes program old new result now final traffic traffic_after ends → ends ≡ None → new.core.requests ≤ old.core.requests + 3 * most_puts
few_after program old new result now final traffic traffic_after None (t, did, value, rest, now_is, inbox, front, few) e = few
few_after program old new result now final traffic traffic_after (Some other) takes e = cc

-- ---- the beginning

pub runs_new : (setup : Setup) (now : Moment) (traffic : Option Traffic) (s : Session) → Records traffic [] [] [] traffic → Holds setup now now s [] [] [] [] → Runs setup now now traffic s traffic 0
runs_new setup now traffic s records held = record { turns = []; frames = []; results = []; sent = []; holds = held; records = records; counted = refl }
