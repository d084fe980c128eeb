-- What a step does, for the feed that runs: nothing new, its next look, or its next offer.
use Rattle.std.proofs.Common.{◌≡◌, ◌≤◌, IfOk, ℕ, ◌+◌, Bool, true, false, ◌&&◌, not, nat_lt, List, [], ◌∷◌, length, Option, Some, None, Result, Ok, Err, refl, sym, ◌∙◌, ap, subst, if◌then◌else◌, arith, ◌==◌}
use Rattle.std.specs.Prelude.{IsSome}
use Rattle.std.proofs.lemmas.Bool.{false≢true}
use Rattle.blip_frame.specs.declared.frame.Kind.{Kind}
use Rattle.blip_frame.specs.declared.frame.Kind.TheVariants as kinds
use Rattle.blip_frame.specs.declared.payload.Payload.{Payload}
use Rattle.blip_mux.specs.declared.message.Message.{Message}
use Rattle.blip_mux.specs.Joining.{is_request, is_reply}
use Rattle.sg_history.specs.declared.row.Row.{Row}
use Rattle.repl_messages.specs.declared.request.Request.{Request}
use Rattle.repl_messages.specs.declared.request.Request.TheVariants as request
use Rattle.repl_messages.specs.declared.request.RequestFault.{RequestFault}
use Rattle.repl_messages.specs.declared.error.ErrorKind.{ErrorKind}
use Rattle.repl_messages.specs.declared.error.ErrorKind.TheVariants as errors
use Rattle.repl_messages.specs.declared.looks.Body.{Body}
use Rattle.repl_messages.specs.declared.looks.Body.TheVariants as body
use Rattle.repl_messages.specs.declared.looks.Bodies.{Bodies}
use Rattle.repl_messages.specs.declared.looks.Fed.{Fed}
use Rattle.repl_messages.specs.declared.looks.Fed.TheVariants as fed
use Rattle.repl_messages.specs.Requests.{IsBounded}
use Rattle.repl_messages.specs.Errors.{error_payload}
use Rattle.checkpoint_store.specs.declared.answers.Kept0.TheVariants as kept0
use Rattle.checkpoint_store.specs.declared.answers.SetAnswer.TheVariants as set
use Rattle.doc_board.specs.Errors.{outcome_error}
use Rattle.session_core.specs.declared.act.Act.{Act}
use Rattle.session_core.specs.declared.act.Act.TheVariants as act
use Rattle.session_core.specs.declared.act.Want.{Want}
use Rattle.session_core.specs.declared.act.Want.TheVariants as want
use Rattle.session_core.specs.declared.event.Event.{Event}
use Rattle.session_core.specs.declared.event.Event.TheVariants as event
use Rattle.session_core.specs.declared.replies.Asker.{Asker}
use Rattle.session_core.specs.declared.replies.Awaited.{Awaited}
use Rattle.session_core.specs.declared.replies.Awaited.TheVariants as awaited
use Rattle.session_core.specs.declared.machine.Subscription.{Subscription}
use Rattle.session_core.specs.declared.machine.Pending.{Pending}
use Rattle.session_core.specs.declared.machine.Pending.TheVariants as pending
use Rattle.session_core.specs.Acts.{messages_from, error_of, reply_act, refusal_act, acceptance_act, refusal_by, answer_act, body_acts}
use Rattle.session_core.proofs.Replying.{answer_by}
use Rattle.session_core.specs.Conduct.{requests_among}
use Rattle.session_core.specs.Feeds.{feed_look}
use Rattle.session_core.specs.Running.{Running, rest, is_none}
use Rattle.session_core.specs.State.{Machine, AwaitsBy, Awaits, IsReply}
use Rattle.session_core.specs.Transitions.{Done, puts, asks, goes_on_feed, looks_again, answered_by, asker_of, refused, on_sub_changes, on_changes, on_served, on_request, answers, wanted_of, most_ancestors, on_wanted, on_reply, first_running, on_first_look, on_next_look, on_fed, on_bodies_of, on_bodies, on_answer, on_idle, DoesForEvent, DoesByMessage}
use Rattle.session_core.proofs.Awaiting.{awaits_reply}
use Rattle.session_laws.proofs.BatchSizes.{bounded}
use Rattle.session_laws.specs.Batches.{offers_among, closed_by}

-- ---- acts that offer nothing

pub record OffersNone (acts : List Act) : Type 0 where
  pub none : (n : ℕ) → offers_among (messages_from n acts) ≡ 0

pub nothing_offered : OffersNone []
nothing_offered = record { none = λ n. refl }

pub reply_none : (asker : Asker) (kind : Kind) (payload : Payload) → is_request kind ≡ false → OffersNone (reply_act asker kind payload)
reply_none asker kind payload is = record {
  none = λ n.
      elim (asker.no_reply) as (λ b. offers_among (messages_from n (if b then [] else act.Reply asker.number kind asker.urgent payload ∷ [])) ≡ 0)
      [ true ↦ refl | false ↦ rw is refl ];
}

bodies_at : (n : ℕ) (rows : List Row) (given : List Body) → offers_among (messages_from n (body_acts rows given)) ≡ 0
bodies_at n [] given = refl
bodies_at n (row ∷ rows) [] = refl
bodies_at n (row ∷ rows) (body.Rev ancestors bytes ∷ given) = omega (arith, bodies_at (n + 1) rows given)
bodies_at n (row ∷ rows) (body.Removed ∷ given) = omega (arith, bodies_at (n + 1) rows given)
bodies_at n (row ∷ rows) (body.NoRev ∷ given) = omega (arith, bodies_at (n + 1) rows given)

bodies_none : (rows : List Row) (given : List Body) → OffersNone (body_acts rows given)
bodies_none rows given = record { none = λ n. bodies_at n rows given }

bodies_counted : (rows : List Row) (given : List Body) → length given ≡ length rows → requests_among (body_acts rows given) ≡ length rows
bodies_counted [] given e = refl
bodies_counted (row ∷ rows) [] e = absurd (omega (arith, e))
bodies_counted (row ∷ rows) (body.Rev ancestors bytes ∷ given) e = omega (arith, bodies_counted rows given (omega (arith, e)))
bodies_counted (row ∷ rows) (body.Removed ∷ given) e = omega (arith, bodies_counted rows given (omega (arith, e)))
bodies_counted (row ∷ rows) (body.NoRev ∷ given) e = omega (arith, bodies_counted rows given (omega (arith, e)))

refusal_none : (asker : Asker) (error : ErrorKind) → OffersNone (refusal_act asker error)
refusal_none asker error = reply_none asker kinds.Err (error_payload error) refl

-- ---- what holds between steps

-- no feed is asked for while one runs, and a look is awaited only for one that has no rows left
abbrev pub Fits : Option Running → Pending → Type 0
Fits None awaited = Unit {0}
Fits (Some r) pending.Nothing = Unit {0}
Fits (Some r) (pending.Feed asked) = ⊥
Fits (Some r) pending.More = is_none r.rows ≡ true
Fits (Some r) (pending.Bodies rows) = Unit {0}
Fits (Some r) (pending.Reply asker to) = Unit {0}

-- the number of the offer that is open: where rows are on offer, and not answered
abbrev pub number_with : Bool → ℕ → Option ℕ
number_with true number = None
number_with false number = Some number

abbrev pub open_of : Option Running → Pending → Option ℕ
open_of None awaited = None
open_of (Some r) pending.Nothing = number_with (is_none r.rows) r.number
open_of (Some r) (pending.Feed asked) = None
open_of (Some r) pending.More = None
open_of (Some r) (pending.Bodies rows) = None
open_of (Some r) (pending.Reply asker to) = number_with (is_none r.rows) r.number

-- a feed that is asked for has a batch from 1 to 10,000, and a since key with no sequence above that by which it was sent
abbrev pub IsSized : Pending → Type 0
IsSized (pending.Feed asked) = (1 ≤ asked.batch) × (asked.batch ≤ 10000) × (asked.since.seq ≤ asked.since.by)
IsSized pending.Nothing = Unit {0}
IsSized pending.More = Unit {0}
IsSized (pending.Bodies rows) = Unit {0}
IsSized (pending.Reply asker to) = Unit {0}

pub fits_nothing : (f : Option Running) → Fits f pending.Nothing
fits_nothing None = tt
fits_nothing (Some r) = tt

-- ---- the shapes

pub data Shape (f : Option Running) (p : Pending) (m : Machine) (x : Event) (done : Done) : Type 0 where
  -- nothing is offered, and the feed stays
  stays : OffersNone done.acts → done.after.feed ≡ f → Fits f done.after.pending → IsSized done.after.pending → (IsSome f → feed_look x ≡ []) → closed_by x (open_of f p) ≡ open_of f done.after.pending
      → Shape f p m x done
  -- the rows on offer are answered, none are left, and the next look is awaited
  looks_next : (r : Running) (acts : List Act) (requests : ℕ) → f ≡ Some r → OffersNone acts → is_none (rest r).rows ≡ true → feed_look x ≡ [] → closed_by x (open_of f p) ≡ None
      → done ≡ looks_again m acts requests (rest r) → Shape f p m x done
  -- the rows on offer are answered, and the feed goes on
  answers_all : (r : Running) (acts : List Act) (requests : ℕ) → f ≡ Some r → OffersNone acts → requests ≡ m.requests + requests_among acts → feed_look x ≡ [] → closed_by x (open_of f p) ≡ None
      → done ≡ goes_on_feed m acts requests (rest r) → Shape f p m x done
  -- a feed begins
  begins_first : (asked : Subscription) (front : ℕ) (rows : List Row) → f ≡ None → p ≡ pending.Feed asked → x ≡ event.Fed (fed.Rows front rows)
      → done ≡ goes_on_feed m (acceptance_act asked.asker) m.requests (first_running asked rows front) → Shape f p m x done
  -- a feed has the rows of its next look
  has_more : (r : Running) (front : ℕ) (rows : List Row) → f ≡ Some r → p ≡ pending.More → is_none r.rows ≡ true → x ≡ event.Fed (fed.Rows front rows)
      → done ≡ goes_on_feed m [] m.requests (record r { rows = rows; front = front }) → Shape f p m x done

no_feed_puts : (f : Option Running) (p : Pending) (m : Machine) (x : Event) (acts : List Act)
    → m.feed ≡ f → OffersNone acts → (IsSome f → feed_look x ≡ []) → closed_by x (open_of f p) ≡ open_of f pending.Nothing → Shape f p m x (puts m acts)
no_feed_puts f p m x acts e none look same = stays none e (fits_nothing f) tt look same

no_feed_asks : (f : Option Running) (p : Pending) (m : Machine) (x : Event) (awaited : Pending) (wanted : Want)
    → m.feed ≡ f → Fits f awaited → IsSized awaited → (IsSome f → feed_look x ≡ []) → closed_by x (open_of f p) ≡ open_of f awaited → Shape f p m x (asks m awaited wanted)
no_feed_asks f p m x awaited wanted e fits sized look same = stays nothing_offered e fits sized look same

-- ---- requests

passed_over : (message : Message) (o : Option ℕ) → is_reply message.kind ≡ false → closed_by (event.Whole message) o ≡ o
passed_over message None is = refl
passed_over message (Some number) is = rw is refl

no_reply_kind : (kind : Kind) → is_request kind ≡ true → is_reply kind ≡ false
no_reply_kind kinds.Msg is = refl
no_reply_kind kinds.Rpy is = absurd (false≢true is)
no_reply_kind kinds.Err is = absurd (false≢true is)
no_reply_kind kinds.AckMsg is = refl
no_reply_kind kinds.AckRpy is = refl

refused_shape : (f : Option Running) (m : Machine) (message : Message) (asker : Asker) (error : ErrorKind) → m.feed ≡ f → is_reply message.kind ≡ false
    → Shape f pending.Nothing m (event.Whole message) (refused m asker error)
refused_shape f m message asker error e is =
    no_feed_puts f pending.Nothing m (event.Whole message) (refusal_act asker error) e (refusal_none asker error) (λ some. refl) (passed_over message (open_of f pending.Nothing) is)

sub_changes_shape : (f : Option Running) (m : Machine) (message : Message) (asked : Subscription) → m.feed ≡ f → is_reply message.kind ≡ false → IsSized (pending.Feed asked)
    → Shape f pending.Nothing m (event.Whole message) (on_sub_changes m asked f)
sub_changes_shape None m message asked e is size = no_feed_asks None pending.Nothing m (event.Whole message) (pending.Feed asked) _ e tt size (λ some. refl) refl
sub_changes_shape (Some r) m message asked e is size = refused_shape (Some r) m message asked.asker errors.FeedRuns409 e is

ask_shape : (f : Option Running) (m : Machine) (message : Message) (asker : Asker) (to : Awaited) (wanted : Want) → m.feed ≡ f → is_reply message.kind ≡ false
    → Shape f pending.Nothing m (event.Whole message) (asks m (pending.Reply asker to) wanted)
ask_shape None m message asker to wanted e is = no_feed_asks None pending.Nothing m (event.Whole message) (pending.Reply asker to) wanted e tt tt (λ some. refl) refl
ask_shape (Some r) m message asker to wanted e is =
    no_feed_asks (Some r) pending.Nothing m (event.Whole message) (pending.Reply asker to) wanted e tt tt (λ some. refl) (passed_over message (open_of (Some r) pending.Nothing) is)

changes_shape : (b : Bool) (f : Option Running) (m : Machine) (message : Message) (asker : Asker) (wanted : Want) → m.feed ≡ f → is_reply message.kind ≡ false
    → Shape f pending.Nothing m (event.Whole message) (on_changes b m asker wanted)
changes_shape true f m message asker wanted e is = refused_shape f m message asker errors.UsePropose409 e is
changes_shape false f m message asker wanted e is = ask_shape f m message asker (awaited.Asked false) wanted e is

served_shape : (f : Option Running) (m : Machine) (message : Message) (asker : Asker) (r : Request) → m.feed ≡ f → is_reply message.kind ≡ false → IsBounded r
    → Shape f pending.Nothing m (event.Whole message) (on_served m asker r)
served_shape f m message asker (request.GetCheckpoint client) e is bounded = ask_shape f m message asker awaited.Got (want.GetCheckpoint client) e is
served_shape f m message asker (request.SetCheckpoint client rev body) e is bounded = ask_shape f m message asker awaited.Set (want.SetCheckpoint client rev body) e is
served_shape f m message asker (request.SubChanges since continuous batch options) e is bounded =
    let asked : Subscription = record { asker = asker; since = since; continuous = continuous; batch = batch; options = options } in
    subst (λ g. Shape f pending.Nothing m (event.Whole message) (on_sub_changes m asked g)) (sym e) (sub_changes_shape f m message asked e is bounded)
served_shape f m message asker (request.Changes offers) e is bounded = changes_shape m.strict f m message asker (want.Ask offers) e is
served_shape f m message asker (request.ProposeChanges offers) e is bounded = ask_shape f m message asker (awaited.Asked true) (want.Ask offers) e is
served_shape f m message asker (request.Rev revision) e is bounded = ask_shape f m message asker awaited.Pushed (want.Propose revision) e is

request_shape : (f : Option Running) (m : Machine) (message : Message) (read : Result Request RequestFault) → m.feed ≡ f → is_reply message.kind ≡ false → IfOk read IsBounded
    → Shape f pending.Nothing m (event.Whole message) (on_request m message read)
request_shape f m message (Err fault) e is bounded = refused_shape f m message (asker_of message) (error_of fault) e is
request_shape f m message (Ok r) e is bounded = served_shape f m message (asker_of message) r e is bounded

-- ---- replies

pub second_of : (a b : Bool) → (a && b) ≡ true → b ≡ true
second_of true b e = e
second_of false b e = absurd (false≢true e)

answered_shape : (b : Bool) (p : Pending) (m : Machine) (x : Event) (r : Running) (acts : List Act) (requests : ℕ)
    → (r.continuous && is_none (rest r).rows) ≡ b → OffersNone acts → requests ≡ m.requests + requests_among acts → feed_look x ≡ [] → closed_by x (open_of (Some r) p) ≡ None
    → Shape (Some r) p m x (answered_by b m acts requests (rest r))
answered_shape true p m x r acts requests is none counted look closed = looks_next r acts requests refl none (second_of r.continuous (is_none (rest r).rows) is) look closed refl
answered_shape false p m x r acts requests is none counted look closed = answers_all r acts requests refl none counted look closed refl

wanted_shape : (m : Machine) (message : Message) (r : Running) (rows : List Row) → m.feed ≡ Some r → closed_by (event.Whole message) (open_of (Some r) pending.Nothing) ≡ None
    → Shape (Some r) pending.Nothing m (event.Whole message) (on_wanted m message r rows)
wanted_shape m message r [] e closed =
    answered_shape (r.continuous && is_none (rest r).rows) pending.Nothing m (event.Whole message) r [] m.requests refl nothing_offered (omega arith) refl closed
wanted_shape m message r (row ∷ rows) e closed =
    no_feed_asks (Some r) pending.Nothing m (event.Whole message) (pending.Bodies (row ∷ rows)) (want.Bodies r.options (row ∷ rows) (most_ancestors message)) e tt tt (λ some. refl) closed

closes_with : (message : Message) (number : ℕ) (none answer : Bool) → (is_reply message.kind && message.number == number) ≡ answer → (not none && answer) ≡ true
    → closed_by (event.Whole message) (number_with none number) ≡ None
closes_with message number true answer is e = absurd (false≢true e)
closes_with message number false true is e = rw is refl
closes_with message number false false is e = absurd (false≢true e)

stays_with : (message : Message) (number : ℕ) (none answer : Bool) → (is_reply message.kind && message.number == number) ≡ answer → (not none && answer) ≡ false
    → closed_by (event.Whole message) (number_with none number) ≡ number_with none number
stays_with message number true answer is e = refl
stays_with message number false true is e = absurd (false≢true (sym e))
stays_with message number false false is e = rw is refl

reply_with : (b : Bool) (m : Machine) (message : Message) (r : Running) → m.feed ≡ Some r → answers r message ≡ b
    → Shape (Some r) pending.Nothing m (event.Whole message) (if b then on_wanted m message r (wanted_of r message) else puts m [])
reply_with true m message r e is = wanted_shape m message r (wanted_of r message) e (closes_with message r.number (is_none r.rows) (is_reply message.kind && message.number == r.number) refl is)
reply_with false m message r e is =
    no_feed_puts (Some r) pending.Nothing m (event.Whole message) [] e nothing_offered (λ some. refl)
    (stays_with message r.number (is_none r.rows) (is_reply message.kind && message.number == r.number) refl is)

reply_shape : (f : Option Running) (m : Machine) (message : Message) → m.feed ≡ f → Shape f pending.Nothing m (event.Whole message) (on_reply m message f)
reply_shape None m message e = no_feed_puts None pending.Nothing m (event.Whole message) [] e nothing_offered (λ some. refl) refl
reply_shape (Some r) m message e = reply_with (answers r message) m message r e refl

by_message : (b : Bool) (f : Option Running) (m : Machine) (message : Message) (done : Done) → m.feed ≡ f → is_request message.kind ≡ b → DoesByMessage b m message done
    → Shape f pending.Nothing m (event.Whole message) done
by_message true f m message done e is (read, reads, does) =
    subst (Shape f pending.Nothing m (event.Whole message)) (sym does) (request_shape f m message read e (no_reply_kind message.kind is) (bounded message.payload m.version read reads))
by_message false f m message done e is does =
    subst (Shape f pending.Nothing m (event.Whole message)) (sym (does ∙ ap (on_reply m message) e)) (reply_shape f m message e)

-- ---- answers

first_shape : (m : Machine) (asked : Subscription) (answer : Fed) → m.feed ≡ None → Shape None (pending.Feed asked) m (event.Fed answer) (on_first_look m asked answer)
first_shape m asked (fed.Future front) e =
    no_feed_puts None (pending.Feed asked) m (event.Fed (fed.Future front)) (refusal_act asked.asker (errors.SincePast400 front)) e (refusal_none asked.asker (errors.SincePast400 front)) (λ some. absurd (false≢true some)) refl
first_shape m asked (fed.Rows front rows) e = begins_first asked front rows refl refl refl refl

fed_shape : (f : Option Running) (p : Pending) (m : Machine) (answer : Fed) → m.feed ≡ f → Fits f p → AwaitsBy f p (event.Fed answer) → Shape f p m (event.Fed answer) (on_fed m answer p)
fed_shape f pending.Nothing m answer e fits a = absurd a
fed_shape None (pending.Feed asked) m answer e fits a = first_shape m asked answer e
fed_shape (Some r) (pending.Feed asked) m answer e fits a = absurd fits
fed_shape f pending.More m (fed.Future front) e fits a = absurd a
fed_shape None pending.More m (fed.Rows front rows) e fits a =
    subst (λ g. Shape None pending.More m (event.Fed (fed.Rows front rows)) (on_next_look m g (fed.Rows front rows))) (sym e)
    (no_feed_puts None pending.More m (event.Fed (fed.Rows front rows)) [] e nothing_offered (λ some. absurd (false≢true some)) refl)
fed_shape (Some r) pending.More m (fed.Rows front rows) e fits a =
    subst (λ g. Shape (Some r) pending.More m (event.Fed (fed.Rows front rows)) (on_next_look m g (fed.Rows front rows))) (sym e)
    (has_more r front rows refl refl fits refl refl)
fed_shape f (pending.Bodies rows) m answer e fits a = absurd a
fed_shape f (pending.Reply asker to) m answer e fits a = absurd a

bodies_of_shape : (f : Option Running) (m : Machine) (b : Bodies) (rows : List Row) → m.feed ≡ f → length b.answers ≡ length rows
    → Shape f (pending.Bodies rows) m (event.Bodies b) (on_bodies_of m b rows f)
bodies_of_shape None m b rows e same = no_feed_puts None (pending.Bodies rows) m (event.Bodies b) [] e nothing_offered (λ some. refl) refl
bodies_of_shape (Some r) m b rows e same =
    answered_shape (r.continuous && is_none (rest r).rows) (pending.Bodies rows) m (event.Bodies b) r (body_acts rows b.answers) (m.requests + length rows) refl
    (bodies_none rows b.answers) (ap (λ n. m.requests + n) (sym (bodies_counted rows b.answers same))) refl refl

bodies_shape : (f : Option Running) (p : Pending) (m : Machine) (b : Bodies) → m.feed ≡ f → AwaitsBy f p (event.Bodies b) → Shape f p m (event.Bodies b) (on_bodies m b p)
bodies_shape f pending.Nothing m b e a = absurd a
bodies_shape f (pending.Feed asked) m b e a = absurd a
bodies_shape f pending.More m b e a = absurd a
bodies_shape f (pending.Bodies rows) m b e a =
    subst (λ g. Shape f (pending.Bodies rows) m (event.Bodies b) (on_bodies_of m b rows g)) (sym e) (bodies_of_shape f m b rows e a)
bodies_shape f (pending.Reply asker to) m b e a = absurd a

open_while_replied : (f : Option Running) (asker : Asker) (to : Awaited) → open_of f (pending.Reply asker to) ≡ open_of f pending.Nothing
open_while_replied None asker to = refl
open_while_replied (Some r) asker to = refl

answer_shape : (f : Option Running) (p : Pending) (m : Machine) (answer : Event) → m.feed ≡ f → feed_look answer ≡ [] → ((o : Option ℕ) → closed_by answer o ≡ o) → IsReply p
    → Shape f p m answer (on_answer m answer p)
answer_shape f pending.Nothing m answer e look same a = absurd a
answer_shape f (pending.Feed asked) m answer e look same a = absurd a
answer_shape f pending.More m answer e look same a = absurd a
answer_shape f (pending.Bodies rows) m answer e look same a = absurd a
answer_shape f (pending.Reply asker to) m answer e look same a =
    no_feed_puts f (pending.Reply asker to) m answer (answer_act asker to answer) e (answer_by OffersNone nothing_offered (λ by kind payload none yes unnamed. reply_none by kind payload none) asker to answer) (λ some. look)
    (same (open_of f (pending.Reply asker to)) ∙ open_while_replied f asker to)

-- ---- idle moments

none_open : (none : Bool) (number : ℕ) → none ≡ true → number_with none number ≡ None
none_open true number e = refl
none_open false number e = absurd (false≢true e)

idle_with : (b : Bool) (m : Machine) (front : ℕ) (r : Running) → m.feed ≡ Some r → is_none r.rows ≡ true
    → Shape (Some r) pending.Nothing m (event.Idle front) (if b then looks_again m [] m.requests r else puts m [])
idle_with true m front r e left = stays nothing_offered refl left tt (λ some. refl) (none_open (is_none r.rows) r.number left)
idle_with false m front r e left = no_feed_puts (Some r) pending.Nothing m (event.Idle front) [] e nothing_offered (λ some. refl) refl

idle_of_shape : (f : Option Running) (m : Machine) (front : ℕ) → m.feed ≡ f → AwaitsBy f pending.Nothing (event.Idle front) → Shape f pending.Nothing m (event.Idle front) (on_idle m front f)
idle_of_shape None m front e a = absurd (false≢true a)
idle_of_shape (Some r) m front e a = idle_with (nat_lt r.front front) m front r e a

idle_shape : (f : Option Running) (p : Pending) (m : Machine) (front : ℕ) → m.feed ≡ f → AwaitsBy f p (event.Idle front) → Shape f p m (event.Idle front) (on_idle m front m.feed)
idle_shape f pending.Nothing m front e a = subst (λ g. Shape f pending.Nothing m (event.Idle front) (on_idle m front g)) (sym e) (idle_of_shape f m front e a)
idle_shape f (pending.Feed asked) m front e a = absurd a
idle_shape f pending.More m front e a = absurd a
idle_shape f (pending.Bodies rows) m front e a = absurd a
idle_shape f (pending.Reply asker to) m front e a = absurd a

-- ---- all of them

message_shape : (f : Option Running) (p : Pending) (m : Machine) (message : Message) (done : Done) → m.feed ≡ f → AwaitsBy f p (event.Whole message) → DoesByMessage (is_request message.kind) m message done
    → Shape f p m (event.Whole message) done
message_shape f pending.Nothing m message done e a does = by_message (is_request message.kind) f m message done e refl does
message_shape f (pending.Feed asked) m message done e a does = absurd a
message_shape f pending.More m message done e a does = absurd a
message_shape f (pending.Bodies rows) m message done e a does = absurd a
message_shape f (pending.Reply asker to) m message done e a does = absurd a

pub shape : (m : Machine) (x : Event) (done : Done) → Awaits m x → DoesForEvent m x done → Fits m.feed m.pending → Shape m.feed m.pending m x done
shape m (event.Whole message) done a does fits = message_shape m.feed m.pending m message done refl a does
shape m (event.Idle front) done a does fits = subst (Shape m.feed m.pending m (event.Idle front)) (sym does) (idle_shape m.feed m.pending m front refl a)
shape m (event.Fed answer) done a does fits = subst (Shape m.feed m.pending m (event.Fed answer)) (sym does) (fed_shape m.feed m.pending m answer refl fits a)
shape m (event.Bodies b) done a does fits = subst (Shape m.feed m.pending m (event.Bodies b)) (sym does) (bodies_shape m.feed m.pending m b refl a)
shape m (event.Asked answer) done a does fits =
    subst (Shape m.feed m.pending m (event.Asked answer)) (sym does) (answer_shape m.feed m.pending m (event.Asked answer) refl refl (λ o. refl) (awaits_reply m.feed m.pending (event.Asked answer) refl a))
shape m (event.Judged o) done a does fits =
    subst (Shape m.feed m.pending m (event.Judged o)) (sym does) (answer_shape m.feed m.pending m (event.Judged o) refl refl (λ o. refl) (awaits_reply m.feed m.pending (event.Judged o) refl a))
shape m (event.Got k) done a does fits =
    subst (Shape m.feed m.pending m (event.Got k)) (sym does) (answer_shape m.feed m.pending m (event.Got k) refl refl (λ o. refl) (awaits_reply m.feed m.pending (event.Got k) refl a))
shape m (event.Set answer) done a does fits =
    subst (Shape m.feed m.pending m (event.Set answer)) (sym does) (answer_shape m.feed m.pending m (event.Set answer) refl refl (λ o. refl) (awaits_reply m.feed m.pending (event.Set answer) refl a))
