-- One event, and what is put for it.
use Rattle.std.proofs.Common.{◌≡◌, inr, ◌≤◌, ◌<◌, ℕ, ◌+◌, Result, Ok, Err, refl, sym, ◌∙◌, ap, subst, arith}
use Rattle.std.specs.Prelude.{OnErr}
use Rattle.session_core.specs.declared.act.Acts.{Acts}
use Rattle.session_core.specs.declared.event.Event.{Event}
use Rattle.session_core.specs.Acts.{messages_from}
use Rattle.session_core.specs.Conduct.{AreAnswers, due_at, WantsFor, IsKept, requests_among, feed_front, AreWithin}
use Rattle.session_core.specs.Fronts.{front_by}
use Rattle.session_core.specs.State.{Machine, Awaits, most_puts, most_requests}
use Rattle.session_core.specs.Steps.{SessionStep, Steps}
use Rattle.session_core.specs.Transitions.{Done, DoesForEvent, IsDoneBy}
use Rattle.session_mux.specs.declared.mux.Mux.{Mux}
use Rattle.blip_mux.specs.Apart.{AreApart}
use Rattle.session_run.specs.declared.session.Session.{Session}
use Rattle.session_run.specs.inner.Held.{IsReady, Makes, Halts}
use Rattle.session_run.specs.inner.Putting.{MayReply, put_all, put_as}
use Rattle.session_run.proofs.ActsPut.{PutsApart, acts_put, acts_counted, answers_apart}

-- what the laws of a session say
abbrev pub Puts : Type 0
Puts = (m : Machine) (event : Event) (done : Done) → Awaits m event → DoesForEvent m event done → AreAnswers (due_at m.pending event) done.acts

abbrev pub Wants : Type 0
Wants = (m : Machine) (event : Event) (done : Done) → Awaits m event → DoesForEvent m event done → WantsFor done.after.feed done.after.pending done.want

abbrev pub Kept : Type 0
Kept = (m : Machine) (event : Event) (done : Done) → Awaits m event → DoesForEvent m event done → IsKept m event done

-- what the machine's step answers
abbrev pub Stepped : Machine → Event → Machine → Acts → Type 0
Stepped old event new acts = IsDoneBy (λ (done : Done). DoesForEvent old event done) new acts

pub answers_of : Puts → (old new : Machine) (event : Event) (acts : Acts) → Awaits old event → Stepped old event new acts → AreAnswers (due_at old.pending event) acts.puts.items
answers_of law old new event acts awaits (done, does, (after, puts, want)) = subst (AreAnswers (due_at old.pending event)) puts (law old event done awaits does)

pub counted_of : Kept → (old new : Machine) (event : Event) (acts : Acts) → Awaits old event → Stepped old event new acts → new.requests ≡ old.requests + requests_among acts.puts.items
counted_of law old new event acts awaits (done, does, (after, puts, want)) =
    ap (λ (m : Machine). m.requests) (sym after) ∙ (law old event done awaits does).requests ∙ ap (λ acts. old.requests + requests_among acts) puts

-- the step
abbrev StepOf : Machine → Event → Machine → Acts → Type 0
StepOf old event new acts =
    (s : SessionStep) × Steps old s new × (s.event ≡ event) × (s.want ≡ acts.want) × (s.puts ≡ messages_from (old.requests + 1) acts.puts.items)

step_of : (old new : Machine) (event : Event) (acts : Acts) → Awaits old event → Stepped old event new acts → StepOf old event new acts
step_of old new event acts awaits (done, does, (after, puts, want)) = (
  record { event = event; puts = messages_from (old.requests + 1) done.acts; want = done.want },
  record { awaited = awaits; done = done; does = does; leads = sym after; puts = refl; want = refl },
  refl,
  want,
  ap (messages_from (old.requests + 1)) puts,
)

-- what stays
abbrev KeptBy : Machine → Event → Machine → Type 0
KeptBy old event new =
    (new.user ≡ old.user) × (new.strict ≡ old.strict)
    × ((most : ℕ) → feed_front old.feed ≤ most → AreWithin most (front_by event) → feed_front new.feed ≤ most)

kept_by : Kept → (old new : Machine) (event : Event) (acts : Acts) → Awaits old event → Stepped old event new acts → KeptBy old event new
kept_by law old new event acts awaits (done, does, (after, puts, want)) =
    let kept : IsKept old event done = law old event done awaits does in
    subst (λ (m : Machine). KeptBy old event m) after (kept.user, kept.strict, kept.front)

-- not all was put
pub halts_after : (old new : Session) (event : Event) (acts : Acts) → Awaits old.core event → Stepped old.core event new.core acts → Halts old new event
halts_after old new event acts awaits stepped =
    let found : StepOf old.core event new.core acts = step_of old.core new.core event acts awaits stepped in
    inr (found.0, found.1, found.2)

-- all was put
made : (old new : Session) (event : Event) (acts : Acts) → KeptBy old.core event new.core → StepOf old.core event new.core acts → AreAnswers (due_at old.core.pending event) acts.puts.items → old.mux.outbox.requests ≡ old.core.requests
    → new.mux ≡ put_all acts.puts.items old.mux → Makes old new event acts.want
made old new event acts (user, strict, front) (s, steps, event_is, want_is, puts) answers requests mux = record {
  user = user;
  strict = strict;
  front = front;
  step = s;
  steps = steps;
  event_is = event_is;
  want_is = want_is;
  mux = mux ∙ acts_put (due_at old.core.pending event) acts.puts.items old.mux answers
      ∙ ap (λ n. put_as old.mux (messages_from (n + 1) acts.puts.items)) requests ∙ ap (put_as old.mux) (sym puts);
}

pub makes_after : Puts → Kept → (old new : Session) (event : Event) (acts : Acts) → Awaits old.core event → Stepped old.core event new.core acts → IsReady old
    → new.mux ≡ put_all acts.puts.items old.mux → Makes old new event acts.want
makes_after law kept old new event acts awaits stepped ready mux =
    made old new event acts (kept_by kept old.core new.core event acts awaits stepped) (step_of old.core new.core event acts awaits stepped) (answers_of law old.core new.core event acts awaits stepped) ready.requests mux

pub ready_after : Puts → Kept → PutsApart → (old new : Session) (event : Event) (acts : Acts) → Awaits old.core event → Stepped old.core event new.core acts → IsReady old → MayReply old.mux (due_at old.core.pending event)
    → new.mux ≡ put_all acts.puts.items old.mux → IsReady new
ready_after law kept apart_law old new event acts awaits stepped ready may mux =
    let answers : AreAnswers (due_at old.core.pending event) acts.puts.items = answers_of law old.core new.core event acts awaits stepped in
    record {
      requests = ap (λ (m : Mux). m.outbox.requests) mux ∙ acts_counted (due_at old.core.pending event) acts.puts.items old.mux answers
          ∙ omega (arith, ready.requests, counted_of kept old.core new.core event acts awaits stepped);
      apart = subst (λ (m : Mux). AreApart m.inbox m.outbox) (sym mux) (answers_apart apart_law (due_at old.core.pending event) acts.puts.items old.mux answers may ready.apart);
    }

pub room_for : Kept → (old : Session) (new : Machine) (event : Event) (acts : Acts) → Awaits old.core event → Stepped old.core event new acts → IsReady old
    → old.core.requests ≤ most_requests → new.requests ≤ old.core.requests + most_puts → old.mux.outbox.requests + requests_among acts.puts.items < 18446744073709551615
room_for law old new event acts awaits stepped ready room few = omega (arith, ready.requests, room, few, counted_of law old.core new event acts awaits stepped)

-- where it failed
pub on_err : {A B : Type 0} (r : Result A B) (P : Type 0) → P → OnErr r P
on_err (Ok x) P p = tt
on_err (Err e) P p = p
