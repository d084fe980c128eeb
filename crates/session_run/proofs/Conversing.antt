-- An event and the answers of all reads that are wanted for it.
use Rattle.std.proofs.Common.{◌≡◌, inl, inr, ◌≤◌, ◌<◌, ℕ, ◌+◌, Bool, true, false, List, [], ◌∷◌, ◌++◌, Option, Some, None, refl, sym, ◌∙◌, ap, subst, arith, append-nil}
use Rattle.std.proofs.lemmas.Bool.{false≢true}
use Rattle.std.proofs.lemmas.List.{append_assoc, map-append}
use Rattle.blip_mux.specs.declared.message.Message.{Message}
use Rattle.blip_mux.specs.Cutting.{OutboxStep, after_outbox_step, after_outbox_steps}
use Rattle.blip_mux.specs.Remembered.{InboxState}
use Rattle.blip_mux.specs.Sending.{Sending}
use Rattle.session_core.specs.declared.act.Want.{Want}
use Rattle.session_core.specs.declared.event.Event.{Event}
use Rattle.session_core.specs.declared.event.Event.TheVariants as event
use Rattle.session_core.specs.declared.look.Look.{Look}
use Rattle.session_core.specs.declared.machine.Pending.{Pending}
use Rattle.session_core.specs.declared.machine.Pending.TheVariants as pending
use Rattle.session_core.specs.Conduct.{due_with, WantsFor, most_answers, is_answer, feed_front, AreWithin}
use Rattle.session_core.specs.Fronts.{look_of, stored_by, front_by, looks_of, stored_of}
use Rattle.session_core.specs.Running.{Running}
use Rattle.session_core.specs.State.{Machine, most_puts}
use Rattle.session_core.specs.Steps.{SessionStep, Steps, Leads, put_by, wanted_after}
use Rattle.sync_syntax.specs.declared.tree.Program.{Program}
use Rattle.session_mux.specs.declared.mux.Mux.{Mux}
use Rattle.session_mux.specs.Sent.{expecting_by, expecting_all}
use Rattle.session_run.specs.declared.session.Session.{Session}
use Rattle.session_run.specs.Answered.{Moment, HasReadGround, IsEventAnswered}
use Rattle.session_run.specs.inner.Held.{IsReady, Makes, Halts, Conversed, Conversing}
use Rattle.session_run.specs.inner.Putting.{MayReply, put_as}
use Rattle.session_run.specs.Spent.{spent_by, spent_of}
use Rattle.session_run.specs.Turns.{IsExchange, puts_all}

-- ---- messages put one after another

expecting_on : (first second : List Message) (s : InboxState) → expecting_all (first ++ second) s ≡ expecting_all second (expecting_all first s)
expecting_on [] second s = refl
expecting_on (m ∷ first) second s = expecting_on first second (expecting_by m s)

pub outbox_steps_on : (s : Sending) (first second : List OutboxStep) → after_outbox_steps s (first ++ second) ≡ after_outbox_steps (after_outbox_steps s first) second
outbox_steps_on s [] second = refl
outbox_steps_on s (step ∷ first) second = outbox_steps_on (after_outbox_step s step) first second

put_on : (m : Mux) (first second : List Message) → put_as (put_as m first) second ≡ put_as m (first ++ second)
put_on m first second =
    ap (λ s. record m { inbox = s; outbox = after_outbox_steps (after_outbox_steps m.outbox (puts_all first)) (puts_all second) }) (sym (expecting_on first second m.inbox))
    ∙ ap (λ s. record m { inbox = expecting_all (first ++ second) m.inbox; outbox = s })
    (sym (outbox_steps_on m.outbox (puts_all first) (puts_all second)) ∙ ap (after_outbox_steps m.outbox) (sym (map-append _ first second)))

-- ---- the first event

-- it answers by no look, and stores nothing
no_look : (e : Event) → is_answer e ≡ false → look_of e ≡ []
no_look (event.Whole message) is = refl
no_look (event.Idle front) is = refl
no_look (event.Fed answer) is = absurd (false≢true (sym is))
no_look (event.Bodies b) is = absurd (false≢true (sym is))
no_look (event.Asked answer) is = absurd (false≢true (sym is))
no_look (event.Judged outcome) is = absurd (false≢true (sym is))
no_look (event.Got kept) is = absurd (false≢true (sym is))
no_look (event.Set answer) is = absurd (false≢true (sym is))

none_stored : (e : Event) → is_answer e ≡ false → stored_by e ≡ []
none_stored (event.Whole message) is = refl
none_stored (event.Idle front) is = refl
none_stored (event.Fed answer) is = absurd (false≢true (sym is))
none_stored (event.Bodies b) is = absurd (false≢true (sym is))
none_stored (event.Asked answer) is = absurd (false≢true (sym is))
none_stored (event.Judged outcome) is = absurd (false≢true (sym is))
none_stored (event.Got kept) is = absurd (false≢true (sym is))
none_stored (event.Set answer) is = absurd (false≢true (sym is))

none_spent : (e : Event) → is_answer e ≡ false → spent_by e ≡ 0
none_spent (event.Whole message) is = refl
none_spent (event.Idle front) is = refl
none_spent (event.Fed answer) is = absurd (false≢true (sym is))
none_spent (event.Bodies b) is = absurd (false≢true (sym is))
none_spent (event.Asked answer) is = absurd (false≢true (sym is))
none_spent (event.Judged outcome) is = absurd (false≢true (sym is))
none_spent (event.Got kept) is = absurd (false≢true (sym is))
none_spent (event.Set answer) is = absurd (false≢true (sym is))

same_looks : (e : Event) (old new : List Look) → is_answer e ≡ false → new ≡ old → new ≡ old ++ look_of e
same_looks e old new is same = same ∙ sym (append-nil old) ∙ ap (λ l. old ++ l) (sym (no_look e is))

same_stored : (e : Event) (old new : List ℕ) → is_answer e ≡ false → new ≡ old → new ≡ old ++ stored_by e
same_stored e old new is same = same ∙ sym (append-nil old) ∙ ap (λ l. old ++ l) (sym (none_stored e is))

same_spent : (e : Event) (old new : ℕ) → is_answer e ≡ false → new ≡ old → new ≡ old + spent_by e
same_spent e old new is same = omega (arith, same, none_spent e is)

pub at_most_two : (p : Pending) → most_answers p ≤ 2
at_most_two pending.Nothing = omega arith
at_most_two (pending.Feed asked) = omega arith
at_most_two pending.More = omega arith
at_most_two (pending.Bodies rows) = omega arith
at_most_two (pending.Reply asker to) = omega arith

-- the one step by the first event
first_step : (program : Program) (old new : Session) (first : Event) (before now : Moment) (s : SessionStep) (user : List ℕ) (strict : Bool) → is_answer first ≡ false → s.event ≡ first → Leads old.core (s ∷ []) new.core
    → new.listing.looks ≡ old.listing.looks → new.listing.stored ≡ old.listing.stored → new.listing.spent ≡ old.listing.spent
    → IsEventAnswered before old.core.user program old.core.strict None first now
    → Conversed program old new first before now (s ∷ []) None
first_step program old new first before now s user strict is event_is leads looks stored spent answered = record {
  leads = leads;
  exchange = event_is;
  answered = (before, refl, subst (λ e. IsEventAnswered before old.core.user program old.core.strict None e now) (sym event_is) answered);
  looks = same_looks first old.listing.looks new.listing.looks is looks ∙ ap (λ e. old.listing.looks ++ look_of e) (sym event_is);
  stored = same_stored first old.listing.stored new.listing.stored is stored ∙ ap (λ e. old.listing.stored ++ stored_by e) (sym event_is);
  spent = omega (arith, same_spent first old.listing.spent new.listing.spent is spent, ap spent_by event_is);
}

pub begun : (program : Program) (old new : Session) (first : Event) (before now : Moment) (want : Option Want) → is_answer first ≡ false
    → (made : Makes old new first want) → new.listing.looks ≡ old.listing.looks → new.listing.stored ≡ old.listing.stored → new.listing.spent ≡ old.listing.spent
    → IsEventAnswered before old.core.user program old.core.strict None first now
    → WantsFor new.core.feed new.core.pending want → IsReady new → MayReply new.mux (due_with new.core.pending)
    → feed_front old.core.feed ≤ now.lowest → AreWithin now.lowest (front_by first)
    → new.core.requests ≤ old.core.requests + most_puts
    → Conversing program old new first before now want (made.step ∷ [])
begun program old new first before now want is made looks stored spent answered wants ready may front within few = record {
  conversed = first_step program old new first before now made.step old.core.user old.core.strict is made.event_is (old.core, refl, made.steps) looks stored spent answered;
  user = made.user;
  strict = made.strict;
  want_is = made.want_is;
  wants = wants;
  mux = made.mux;
  ready = ready;
  may = may;
  front = made.front now.lowest front within;
  room = omega (arith, few, at_most_two new.core.pending);
}

-- ---- an answer

exchange_on : (first : Event) (s : SessionStep) (steps : List SessionStep) → is_answer s.event ≡ true → IsExchange first steps → IsExchange first (s ∷ steps)
exchange_on first s [] is x = absurd x
exchange_on first s (t ∷ earlier) is x = (is, x)

looks_on : (old middle new more : List Look) (one : List Look) → middle ≡ old ++ more → new ≡ middle ++ one → new ≡ old ++ (more ++ one)
looks_on old middle new more one a b = b ∙ ap (λ l. l ++ one) a ∙ append_assoc old more one

stored_on : (old middle new more : List ℕ) (one : List ℕ) → middle ≡ old ++ more → new ≡ middle ++ one → new ≡ old ++ (more ++ one)
stored_on old middle new more one a b = b ∙ ap (λ l. l ++ one) a ∙ append_assoc old more one

spent_on : (old middle new more one : ℕ) → middle ≡ old + more → new ≡ middle + one → new ≡ old + (more + one)
spent_on old middle new more one a b = omega (arith, a, b)

-- one step more, by an answer
next_step : (program : Program) (old middle new : Session) (first : Event) (before now after : Moment) (steps : List SessionStep) (s : SessionStep) (answer : Event) (wanted : Want)
    → Conversed program old middle first before now steps None → wanted_after steps ≡ Some wanted
    → s.event ≡ answer → is_answer answer ≡ true → IsEventAnswered now old.core.user program old.core.strict (Some wanted) answer after
    → Steps middle.core s new.core
    → new.listing.looks ≡ middle.listing.looks ++ look_of answer → new.listing.stored ≡ middle.listing.stored ++ stored_by answer
    → new.listing.spent ≡ middle.listing.spent + spent_by answer
    → Conversed program old new first before after (s ∷ steps) None
next_step program old middle new first before now after steps s answer wanted so_far want_is event_is is answered made looks stored spent = record {
  leads = (middle.core, so_far.leads, made);
  exchange = exchange_on first s steps (ap is_answer event_is ∙ is) so_far.exchange;
  answered = (now, so_far.answered, subst (λ w. IsEventAnswered now old.core.user program old.core.strict w s.event after) (sym want_is) (subst (λ e. IsEventAnswered now old.core.user program old.core.strict (Some wanted) e after) (sym event_is) answered));
  looks = looks_on old.listing.looks middle.listing.looks new.listing.looks (looks_of steps) (look_of s.event) so_far.looks (looks ∙ ap (λ e. middle.listing.looks ++ look_of e) (sym event_is));
  stored = stored_on old.listing.stored middle.listing.stored new.listing.stored (stored_of steps) (stored_by s.event) so_far.stored (stored ∙ ap (λ e. middle.listing.stored ++ stored_by e) (sym event_is));
  spent = spent_on old.listing.spent middle.listing.spent new.listing.spent (spent_of steps) (spent_by s.event) so_far.spent (spent ∙ ap (λ e. middle.listing.spent + spent_by e) (sym event_is));
}

-- an event for which nothing more was done
abbrev unmade : Event → SessionStep
unmade e = record { event = e; puts = []; want = None }

halted_step : (program : Program) (old middle new : Session) (first : Event) (before now after : Moment) (steps : List SessionStep) (answer : Event) (wanted : Want)
    → Conversed program old middle first before now steps None → wanted_after steps ≡ Some wanted
    → is_answer answer ≡ true → IsEventAnswered now old.core.user program old.core.strict (Some wanted) answer after
    → new.core ≡ middle.core
    → new.listing.looks ≡ middle.listing.looks ++ look_of answer → new.listing.stored ≡ middle.listing.stored ++ stored_by answer
    → new.listing.spent ≡ middle.listing.spent + spent_by answer
    → Conversed program old new first before after steps (Some answer)
halted_step program old middle new first before now after steps answer wanted so_far want_is is answered same looks stored spent = record {
  leads = subst (Leads old.core steps) (sym same) so_far.leads;
  exchange = exchange_on first (unmade answer) steps is so_far.exchange;
  answered = (now, so_far.answered, subst (λ w. IsEventAnswered now old.core.user program old.core.strict w answer after) (sym want_is) answered);
  looks = looks_on old.listing.looks middle.listing.looks new.listing.looks (looks_of steps) (look_of answer) so_far.looks looks;
  stored = stored_on old.listing.stored middle.listing.stored new.listing.stored (stored_of steps) (stored_by answer) so_far.stored stored;
  spent = spent_on old.listing.spent middle.listing.spent new.listing.spent (spent_of steps) (spent_by answer) so_far.spent spent;
}

-- ---- from want to want

-- what the session read and listed for what was wanted
pub record Answers (middle asked : Session) (user : List ℕ) (program : Program) (strict : Bool) (now after : Moment) (wanted : Want) (answer : Event) : Type 0 where
  pub answered : IsEventAnswered now user program strict (Some wanted) answer after
  pub is : is_answer answer ≡ true
  pub core : asked.core ≡ middle.core
  pub mux : asked.mux ≡ middle.mux
  pub looks : asked.listing.looks ≡ middle.listing.looks ++ look_of answer
  pub stored : asked.listing.stored ≡ middle.listing.stored ++ stored_by answer
  pub spent : asked.listing.spent ≡ middle.listing.spent + spent_by answer

by_user : (program : Program) (old middle asked : Session) (now after : Moment) (wanted : Want) (answer : Event) → middle.core.user ≡ old.core.user → middle.core.strict ≡ old.core.strict
    → Answers middle asked middle.core.user program middle.core.strict now after wanted answer → IsEventAnswered now old.core.user program old.core.strict (Some wanted) answer after
by_user program old middle asked now after wanted answer user strict got =
    subst (λ s. IsEventAnswered now old.core.user program s (Some wanted) answer after) strict (subst (λ u. IsEventAnswered now u program middle.core.strict (Some wanted) answer after) user got.answered)

-- the answer was taken
pub went_on : (program : Program) (old middle asked new : Session) (first : Event) (before now after : Moment) (steps : List SessionStep) (answer : Event) (wanted : Want) (want : Option Want)
    → Conversing program old middle first before now (Some wanted) steps
    → Answers middle asked middle.core.user program middle.core.strict now after wanted answer
    → (made : Makes asked new answer want) → new.listing ≡ asked.listing
    → WantsFor new.core.feed new.core.pending want → IsReady new → MayReply new.mux (due_with new.core.pending)
    → now.lowest ≤ after.lowest → AreWithin after.lowest (front_by answer)
    → new.core.requests ≤ asked.core.requests + most_puts → most_answers new.core.pending < most_answers asked.core.pending
    → Conversing program old new first before after want (made.step ∷ steps)
went_on program old middle asked new first before now after steps answer wanted want so_far got made listing wants ready may rises within few fewer = record {
  conversed = next_step program old middle new first before now after steps made.step answer wanted so_far.conversed so_far.want_is made.event_is got.is
      (by_user program old middle asked now after wanted answer so_far.user so_far.strict got)
      (subst (λ (m : Machine). Steps m made.step new.core) got.core made.steps)
      (ap (λ l. l.looks) listing ∙ got.looks) (ap (λ l. l.stored) listing ∙ got.stored) (ap (λ l. l.spent) listing ∙ got.spent);
  user = made.user ∙ ap (λ (m : Machine). m.user) got.core ∙ so_far.user;
  strict = made.strict ∙ ap (λ (m : Machine). m.strict) got.core ∙ so_far.strict;
  want_is = made.want_is;
  wants = wants;
  mux = made.mux ∙ ap (λ m. put_as m made.step.puts) (got.mux ∙ so_far.mux) ∙ put_on old.mux (put_by steps) made.step.puts;
  ready = ready;
  may = may;
  front = made.front after.lowest (omega (arith, rises, so_far.front, ap (λ (m : Machine). feed_front m.feed) got.core)) within;
  room = omega (arith, so_far.room, few, fewer, ap (λ (m : Machine). m.requests) got.core, ap (λ (m : Machine). most_answers m.pending) got.core);
}

-- memory ran out as the answer was taken
pub halted_at : (program : Program) (old middle asked new : Session) (first : Event) (before now after : Moment) (steps : List SessionStep) (answer : Event) (wanted : Want)
    → Conversing program old middle first before now (Some wanted) steps
    → Answers middle asked middle.core.user program middle.core.strict now after wanted answer
    → Halts asked new answer → new.listing ≡ asked.listing → HasReadGround after after
    → (made : List SessionStep) × (halted : Option Event) × (last : Moment) × Conversed program old new first before last made halted × HasReadGround last after
halted_at program old middle asked new first before now after steps answer wanted so_far got (inl same) listing read = (
  steps,
  Some answer,
  after,
  halted_step program old middle new first before now after steps answer wanted so_far.conversed so_far.want_is got.is
      (by_user program old middle asked now after wanted answer so_far.user so_far.strict got) (same ∙ got.core) (ap (λ l. l.looks) listing ∙ got.looks) (ap (λ l. l.stored) listing ∙ got.stored) (ap (λ l. l.spent) listing ∙ got.spent),
  read,
)
halted_at program old middle asked new first before now after steps answer wanted so_far got (inr (s, made, event_is)) listing read = (
  s ∷ steps,
  None,
  after,
  next_step program old middle new first before now after steps s answer wanted so_far.conversed so_far.want_is event_is got.is
      (by_user program old middle asked now after wanted answer so_far.user so_far.strict got)
      (subst (λ (m : Machine). Steps m s new.core) got.core made) (ap (λ l. l.looks) listing ∙ got.looks) (ap (λ l. l.stored) listing ∙ got.stored) (ap (λ l. l.spent) listing ∙ got.spent),
  read,
)

-- memory ran out as the first event was taken
pub halted_first : (program : Program) (old new : Session) (first : Event) (before now : Moment) → is_answer first ≡ false
    → Halts old new first → new.listing.looks ≡ old.listing.looks → new.listing.stored ≡ old.listing.stored → new.listing.spent ≡ old.listing.spent
    → IsEventAnswered before old.core.user program old.core.strict None first now → HasReadGround now now
    → (steps : List SessionStep) × (halted : Option Event) × (last : Moment) × Conversed program old new first before last steps halted × HasReadGround last now
halted_first program old new first before now is (inl same) looks stored spent answered read = (
  [],
  Some first,
  now,
  record {
    leads = same;
    exchange = refl;
    answered = (before, refl, answered);
    looks = same_looks first old.listing.looks new.listing.looks is looks;
    stored = same_stored first old.listing.stored new.listing.stored is stored;
    spent = omega (arith, same_spent first old.listing.spent new.listing.spent is spent);
  },
  read,
)
halted_first program old new first before now is (inr (s, made, event_is)) looks stored spent answered read =
    (s ∷ [], None, now, first_step program old new first before now s old.core.user old.core.strict is event_is (old.core, refl, made) looks stored spent answered, read)

-- memory ran out as the history was read
pub halted_read : (program : Program) (old middle new : Session) (first : Event) (before now after : Moment) (want : Option Want) (steps : List SessionStep)
    → Conversing program old middle first before now want steps → new.core ≡ middle.core → new.listing.looks ≡ middle.listing.looks → new.listing.stored ≡ middle.listing.stored → new.listing.spent ≡ middle.listing.spent
    → HasReadGround now after
    → (made : List SessionStep) × (halted : Option Event) × (last : Moment) × Conversed program old new first before last made halted × HasReadGround last after
halted_read program old middle new first before now after want steps so_far core looks stored spent read = (
  steps,
  None,
  now,
  record {
    leads = subst (Leads old.core steps) (sym core) so_far.conversed.leads;
    exchange = so_far.conversed.exchange;
    answered = so_far.conversed.answered;
    looks = looks ∙ so_far.conversed.looks;
    stored = stored ∙ so_far.conversed.stored;
    spent = spent ∙ so_far.conversed.spent;
  },
  read,
)

-- nothing is wanted any more
pub at_rest : (feed : Option Running) (p : Pending) → WantsFor feed p None → p ≡ pending.Nothing
at_rest feed pending.Nothing w = refl
at_rest feed (pending.Feed asked) w = absurd w
at_rest feed pending.More w = absurd w
at_rest feed (pending.Bodies rows) w = absurd w
at_rest feed (pending.Reply asker to) w = absurd w
