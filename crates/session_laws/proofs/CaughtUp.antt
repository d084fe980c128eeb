-- What a device learns of its feed, and when the history is looked at for it.
use Rattle.std.proofs.Common.{◌≡◌, ◌≤◌, ◌<◌, ℕ, zero, suc, arith, ◌+◌, Bool, true, false, ◌&&◌, nat_lt, List, [], ◌∷◌, ◌++◌, length, Option, Some, None, Result, Ok, Err, refl, sym, ◌∙◌, ap, subst, if◌then◌else◌}
use Rattle.std.specs.Prelude.{◌↔◌, IsSome}
use Rattle.std.proofs.lemmas.Bool.{false≢true, ltb-true, lt-ltb}
use Rattle.std.proofs.lemmas.Option.{none-some}
use Rattle.blip_frame.specs.declared.frame.Kind.{Kind}
use Rattle.blip_frame.specs.declared.frame.Kind.TheVariants as kinds
use Rattle.blip_frame.specs.declared.payload.Payload.{Payload}
use Rattle.blip_mux.specs.declared.message.Message.{Message}
use Rattle.blip_mux.specs.Joining.{is_request}
use Rattle.sg_history.specs.declared.row.Row.{Row}
use Rattle.sg_history.specs.declared.row.Options.{Options}
use Rattle.sg_history.specs.Device.{plain}
use Rattle.repl_messages.specs.declared.request.Version.{Version}
use Rattle.repl_messages.specs.declared.request.Request.{Request}
use Rattle.repl_messages.specs.declared.request.Request.TheVariants as request
use Rattle.repl_messages.specs.declared.request.RequestFault.{RequestFault}
use Rattle.repl_messages.specs.declared.error.ErrorKind.{ErrorKind}
use Rattle.repl_messages.specs.declared.error.ErrorKind.TheVariants as errors
use Rattle.repl_messages.specs.declared.looks.Body.{Body}
use Rattle.repl_messages.specs.declared.looks.Body.TheVariants as body
use Rattle.repl_messages.specs.declared.looks.Bodies.{Bodies}
use Rattle.repl_messages.specs.declared.looks.Fed.{Fed}
use Rattle.repl_messages.specs.declared.looks.Fed.TheVariants as fed
use Rattle.repl_messages.specs.Errors.{ok_payload, error_payload}
use Rattle.repl_messages.specs.Looks.{front_of}
use Rattle.checkpoint_store.specs.declared.answers.Kept0.TheVariants as kept0
use Rattle.checkpoint_store.specs.declared.answers.SetAnswer.TheVariants as set
use Rattle.doc_board.specs.Errors.{outcome_error}
use Rattle.session_core.specs.declared.act.Act.{Act}
use Rattle.session_core.specs.declared.act.Act.TheVariants as act
use Rattle.session_core.specs.declared.act.Want.{Want}
use Rattle.session_core.specs.declared.act.Want.TheVariants as want
use Rattle.session_core.specs.declared.event.Event.{Event}
use Rattle.session_core.specs.declared.event.Event.TheVariants as event
use Rattle.session_core.specs.declared.replies.Asker.{Asker}
use Rattle.session_core.specs.declared.replies.Awaited.{Awaited}
use Rattle.session_core.specs.declared.replies.Awaited.TheVariants as awaited
use Rattle.session_core.specs.declared.machine.Subscription.{Subscription}
use Rattle.session_core.specs.declared.machine.Pending.{Pending}
use Rattle.session_core.specs.declared.machine.Pending.TheVariants as pending
use Rattle.session_core.specs.Acts.{messages_from, reply_act, refusal_act, acceptance_act, refusal_by, answer_act, error_of, body_act, body_acts}
use Rattle.session_core.proofs.Replying.{answer_by}
use Rattle.session_core.specs.Feeds.{feed_look, feed_looks, LeadsFeed, RunsFeed}
use Rattle.session_core.specs.Running.{Running, rest, is_none, waits, next_acts, next_feed}
use Rattle.session_core.specs.State.{Machine, new_machine, AwaitsBy, IsReply}
use Rattle.session_core.specs.Steps.{SessionStep, Steps, Leads, put_by}
use Rattle.session_core.specs.Transitions.{Done, puts, asks, goes_on_feed, looks_again, answered_by, most_ancestors, asker_of, refused, on_sub_changes, on_changes, on_served, on_request, answers, wanted_of, on_wanted, on_reply, first_running, on_first_look, on_next_look, on_fed, on_bodies_of, on_bodies, on_answer, on_idle, DoesForEvent, DoesByMessage}
use Rattle.session_laws.specs.Exchanges.{IsAboveLast, IsFromLast, empty_offers, has_caught_up}
use Rattle.session_core.proofs.Awaiting.{awaits_reply}
use Rattle.session_laws.proofs.BatchSizes.{HasBatch, ReadHasBatch, read_batch}

-- ---- empty offers among messages

empties_on : (ms ns : List Message) → empty_offers (ms ++ ns) ≡ empty_offers ms + empty_offers ns
empties_on [] ns = omega arith
empties_on (m ∷ ms) ns = omega (arith, empties_on ms ns)

-- acts that offer no empty list of rows
abbrev OfferNone : List Act → Type 0
OfferNone acts = (n : ℕ) → empty_offers (messages_from n acts) ≡ 0

acts_on : (n : ℕ) (acts more : List Act) (k : ℕ) → ((n : ℕ) → empty_offers (messages_from n more) ≡ k) → empty_offers (messages_from n (acts ++ more)) ≡ empty_offers (messages_from n acts) + k
acts_on n [] more k is = omega (arith, is n)
acts_on n (act.Reply to kind urgent payload ∷ acts) more k is = omega (arith, acts_on n acts more k is)
acts_on n (act.Request payload no_reply ∷ acts) more k is = omega (arith, acts_on (n + 1) acts more k is)
acts_on n (act.Want want ∷ acts) more k is = acts_on n acts more k is

reply_none : (asker : Asker) (kind : Kind) (payload : Payload) → is_request kind ≡ false → OfferNone (reply_act asker kind payload)
reply_none asker kind payload is n =
    elim (asker.no_reply) as (λ b. empty_offers (messages_from n (if b then [] else act.Reply asker.number kind asker.urgent payload ∷ [])) ≡ 0)
    [ true ↦ refl | false ↦ rw is refl ]

one_body : (n : ℕ) (row : Row) (b : Body) (acts : List Act) → empty_offers (messages_from n (body_act row b ∷ acts)) ≡ empty_offers (messages_from (n + 1) acts)
one_body n row (body.Rev ancestors bytes) acts = omega arith
one_body n row body.Removed acts = omega arith
one_body n row body.NoRev acts = omega arith

bodies_none : (rows : List Row) (bodies : List Body) → OfferNone (body_acts rows bodies)
bodies_none [] bodies n = refl
bodies_none (row ∷ rows) [] n = refl
bodies_none (row ∷ rows) (b ∷ bodies) n = one_body n row b (body_acts rows bodies) ∙ bodies_none rows bodies (n + 1)

-- ---- what always holds

-- neither a feed's first look nor its next is awaited
abbrev awaits_no_feed : Pending → Bool
awaits_no_feed pending.Nothing = true
awaits_no_feed (pending.Feed asked) = false
awaits_no_feed pending.More = false
awaits_no_feed (pending.Bodies rows) = true
awaits_no_feed (pending.Reply asker to) = true

abbrev is_first : Pending → Bool
is_first pending.Nothing = false
is_first (pending.Feed asked) = true
is_first pending.More = false
is_first (pending.Bodies rows) = false
is_first (pending.Reply asker to) = false

-- a feed that is asked for has a batch of one row at least
abbrev FirstBatch : Pending → Type 0
FirstBatch pending.Nothing = Unit {0}
FirstBatch (pending.Feed asked) = 1 ≤ asked.batch
FirstBatch pending.More = Unit {0}
FirstBatch (pending.Bodies rows) = Unit {0}
FirstBatch (pending.Reply asker to) = Unit {0}

-- a feed that runs: the last look for a feed is its own; a batch has one row at least; only of a continuous one the device was informed that it
-- caught up; it was informed so where no rows are left, unless the next look is awaited; and no first look is
pub record FitsFeed (fronts : List ℕ) (r : Running) (awaited : Pending) : Type 0 where
  pub earlier : List ℕ
  pub front : fronts ≡ r.front ∷ earlier
  pub batch : 1 ≤ r.batch
  pub continuous : r.caught_up ≡ true → r.continuous ≡ true
  pub without_rows : awaits_no_feed awaited ≡ true → is_none r.rows ≡ true → r.caught_up ≡ true
  pub later : is_first awaited ≡ false

abbrev Fits : List ℕ → Option Running → Pending → Type 0
Fits fronts None awaited = FirstBatch awaited
Fits fronts (Some r) awaited = FitsFeed fronts r awaited

abbrev caught_up_count : Option Running → ℕ
caught_up_count feed = if has_caught_up feed then 1 else 0

-- after an event: the same holds; and where a feed ran, an empty offer was put exactly where the device is informed then and was not before
pub record CaughtUpBy (fronts : List ℕ) (m : Machine) (done : Done) : Type 0 where
  pub fits : Fits fronts done.after.feed done.after.pending
  pub count : (r : Running) → m.feed ≡ Some r → (n : ℕ) → empty_offers (messages_from n done.acts) + caught_up_count m.feed ≡ caught_up_count done.after.feed

still_fits : (fronts : List ℕ) (feed : Option Running) (awaited next : Pending) → awaits_no_feed awaited ≡ true → is_first next ≡ false → FirstBatch next → Fits fronts feed awaited → Fits fronts feed next
still_fits fronts None awaited next no_feed later first fits = first
still_fits fronts (Some r) awaited next no_feed later first fits =
    record { earlier = fits.earlier; front = fits.front; batch = fits.batch; continuous = fits.continuous; without_rows = λ q. fits.without_rows no_feed; later = later }

stays : (fronts : List ℕ) (m : Machine) (done : Done) → done.after.feed ≡ m.feed → OfferNone done.acts → awaits_no_feed m.pending ≡ true → is_first done.after.pending ≡ false → FirstBatch done.after.pending
    → Fits fronts m.feed m.pending → CaughtUpBy fronts m done
stays fronts m done same none no_feed later first fits = record {
  fits = subst (λ f. Fits fronts f done.after.pending) (sym same) (still_fits fronts m.feed m.pending done.after.pending no_feed later first fits);
  count = λ r e n. omega (arith, none n, ap caught_up_count same);
}

puts_stay : (fronts : List ℕ) (m : Machine) (acts : List Act) → OfferNone acts → awaits_no_feed m.pending ≡ true → Fits fronts m.feed m.pending → CaughtUpBy fronts m (puts m acts)
puts_stay fronts m acts none no_feed fits = stays fronts m (puts m acts) refl none no_feed refl tt fits

refused_stay : (fronts : List ℕ) (m : Machine) (asker : Asker) (error : ErrorKind) → awaits_no_feed m.pending ≡ true → Fits fronts m.feed m.pending → CaughtUpBy fronts m (refused m asker error)
refused_stay fronts m asker error no_feed fits = puts_stay fronts m (refusal_act asker error) (reply_none asker kinds.Err (error_payload error) refl) no_feed fits

asks_stay : (fronts : List ℕ) (m : Machine) (awaited : Pending) (wanted : Want) → awaits_no_feed m.pending ≡ true → is_first awaited ≡ false → FirstBatch awaited → Fits fronts m.feed m.pending → CaughtUpBy fronts m (asks m awaited wanted)
asks_stay fronts m awaited wanted no_feed later first fits = stays fronts m (asks m awaited wanted) refl (λ n. refl) no_feed later first fits

-- ---- a feed goes on

-- what holds of a feed with these rows that goes on at this front
abbrev GoesOn : List ℕ → Version → ℕ → Running → Type 0
GoesOn fronts version requests r =
    Fits fronts (next_feed requests r) pending.Nothing
    × ((n : ℕ) → empty_offers (messages_from n (next_acts version r)) + caught_up_count (Some r) ≡ caught_up_count (next_feed requests r))

next_goes : (fronts earlier : List ℕ) (version : Version) (requests : ℕ) (rows : List Row) (batch : ℕ) (options : Options) (continuous : Bool) (number front : ℕ) (caught_up : Bool)
    → fronts ≡ front ∷ earlier → 1 ≤ batch → (caught_up ≡ true → continuous ≡ true)
    → GoesOn fronts version requests (record { rows = rows; batch = batch; options = options; continuous = continuous; number = number; front = front; caught_up = caught_up })
next_goes fronts earlier version requests rows zero options continuous number front caught_up last some only = absurd (omega (arith, some))
next_goes fronts earlier version requests [] (suc k) options true number front true last some only =
    (record { earlier = earlier; front = last; batch = some; continuous = λ e. refl; without_rows = λ q e. refl; later = refl }, λ n. omega arith)
next_goes fronts earlier version requests [] (suc k) options true number front false last some only =
    (record { earlier = earlier; front = last; batch = some; continuous = λ e. refl; without_rows = λ q e. refl; later = refl }, λ n. omega arith)
next_goes fronts earlier version requests [] (suc k) options false number front true last some only = absurd (false≢true (only refl))
next_goes fronts earlier version requests [] (suc k) options false number front false last some only = (tt, λ n. omega arith)
next_goes fronts earlier version requests (row ∷ rows) (suc k) options true number front true last some only =
    (record { earlier = earlier; front = last; batch = some; continuous = λ e. refl; without_rows = λ q e. refl; later = refl }, λ n. omega arith)
next_goes fronts earlier version requests (row ∷ rows) (suc k) options true number front false last some only =
    (record { earlier = earlier; front = last; batch = some; continuous = λ e. refl; without_rows = λ q e. absurd (false≢true e); later = refl }, λ n. omega arith)
next_goes fronts earlier version requests (row ∷ rows) (suc k) options false number front true last some only = absurd (false≢true (only refl))
next_goes fronts earlier version requests (row ∷ rows) (suc k) options false number front false last some only =
    (record { earlier = earlier; front = last; batch = some; continuous = λ e. absurd (false≢true e); without_rows = λ q e. absurd (false≢true e); later = refl }, λ n. omega arith)

it_goes : (fronts earlier : List ℕ) (version : Version) (requests : ℕ) (r : Running) → fronts ≡ r.front ∷ earlier → 1 ≤ r.batch → (r.caught_up ≡ true → r.continuous ≡ true) → GoesOn fronts version requests r
it_goes fronts earlier version requests r last some only =
    next_goes fronts earlier version requests r.rows r.batch r.options r.continuous r.number r.front r.caught_up last some only

abbrev counted : Bool → ℕ
counted b = if b then 1 else 0

-- a feed as it was before, but for its rows and the front of its last look
pub record Follows (fronts : List ℕ) (m : Machine) (r : Running) : Type 0 where
  pub was : Running
  pub is : m.feed ≡ Some was
  pub caught_up : r.caught_up ≡ was.caught_up
  pub earlier : List ℕ
  pub front : fronts ≡ r.front ∷ earlier
  pub batch : 1 ≤ r.batch
  pub continuous : r.caught_up ≡ true → r.continuous ≡ true

caught_up_before : (fronts : List ℕ) (m : Machine) (r : Running) → Follows fronts m r → caught_up_count m.feed ≡ caught_up_count (Some r)
caught_up_before fronts m r f = ap caught_up_count f.is ∙ ap counted (sym f.caught_up)

goes : (fronts : List ℕ) (m : Machine) (acts : List Act) (requests : ℕ) (r : Running) → OfferNone acts → Follows fronts m r → CaughtUpBy fronts m (goes_on_feed m acts requests r)
goes fronts m acts requests r none f =
    let it : GoesOn fronts m.version requests r = it_goes fronts f.earlier m.version requests r f.front f.batch f.continuous in
    record {
      fits = it.0;
      count = λ other e n.
          let one : ℕ = empty_offers (messages_from 0 (next_acts m.version r)) in
          let all : empty_offers (messages_from n (acts ++ next_acts m.version r)) ≡ empty_offers (messages_from n acts) + one =
          acts_on n acts (next_acts m.version r) one (λ k. omega (arith, it.1 k, it.1 0)) in
          omega (arith, all, none n, it.1 0, caught_up_before fronts m r f);
    }

looks : (fronts : List ℕ) (m : Machine) (acts : List Act) (requests : ℕ) (r : Running) → OfferNone acts → Follows fronts m r → CaughtUpBy fronts m (looks_again m acts requests r)
looks fronts m acts requests r none f = record {
  fits = record { earlier = f.earlier; front = f.front; batch = f.batch; continuous = f.continuous; without_rows = λ q e. absurd (false≢true q); later = refl };
  count = λ other e n. omega (arith, none n, caught_up_before fronts m r f);
}

answered_goes : (b : Bool) (fronts : List ℕ) (m : Machine) (acts : List Act) (requests : ℕ) (r : Running) → OfferNone acts → Follows fronts m r → CaughtUpBy fronts m (answered_by b m acts requests r)
answered_goes true fronts m acts requests r none f = looks fronts m acts requests r none f
answered_goes false fronts m acts requests r none f = goes fronts m acts requests r none f

fits_as : (fronts : List ℕ) (m : Machine) (r : Running) → m.feed ≡ Some r → Fits fronts m.feed m.pending → FitsFeed fronts r m.pending
fits_as fronts m r e fits = subst (λ f. Fits fronts f m.pending) e fits

follows : (fronts : List ℕ) (m : Machine) (r : Running) → m.feed ≡ Some r → Fits fronts m.feed m.pending → Follows fronts m r
follows fronts m r e fits =
    let f : FitsFeed fronts r m.pending = fits_as fronts m r e fits in
    record { was = r; is = e; caught_up = refl; earlier = f.earlier; front = f.front; batch = f.batch; continuous = f.continuous }

rest_follows : (fronts : List ℕ) (m : Machine) (r : Running) → m.feed ≡ Some r → Fits fronts m.feed m.pending → Follows fronts m (rest r)
rest_follows fronts m r e fits =
    let f : FitsFeed fronts r m.pending = fits_as fronts m r e fits in
    record { was = r; is = e; caught_up = refl; earlier = f.earlier; front = f.front; batch = f.batch; continuous = f.continuous }

-- ---- messages

feed_asked : (fronts : List ℕ) (m : Machine) (asked : Subscription) (feed : Option Running) → m.feed ≡ feed → 1 ≤ asked.batch → awaits_no_feed m.pending ≡ true → Fits fronts m.feed m.pending → CaughtUpBy fronts m (on_sub_changes m asked feed)
feed_asked fronts m asked None e some no_feed fits = record {
  fits = subst (λ f. Fits fronts f (pending.Feed asked)) (sym e) some;
  count = λ r is n. absurd (none-some r (sym e ∙ is));
}
feed_asked fronts m asked (Some r) e some no_feed fits = refused_stay fronts m asked.asker errors.FeedRuns409 no_feed fits

offered : (b : Bool) (fronts : List ℕ) (m : Machine) (asker : Asker) (wanted : Want) → awaits_no_feed m.pending ≡ true → Fits fronts m.feed m.pending → CaughtUpBy fronts m (on_changes b m asker wanted)
offered true fronts m asker wanted no_feed fits = refused_stay fronts m asker errors.UsePropose409 no_feed fits
offered false fronts m asker wanted no_feed fits = asks_stay fronts m (pending.Reply asker (awaited.Asked false)) wanted no_feed refl tt fits

served : (fronts : List ℕ) (m : Machine) (asker : Asker) (r : Request) → HasBatch r → awaits_no_feed m.pending ≡ true → Fits fronts m.feed m.pending → CaughtUpBy fronts m (on_served m asker r)
served fronts m asker (request.GetCheckpoint client) some no_feed fits = asks_stay fronts m (pending.Reply asker awaited.Got) (want.GetCheckpoint client) no_feed refl tt fits
served fronts m asker (request.SetCheckpoint client rev body) some no_feed fits =
    asks_stay fronts m (pending.Reply asker awaited.Set) (want.SetCheckpoint client rev body) no_feed refl tt fits
served fronts m asker (request.SubChanges since continuous batch options) some no_feed fits =
    feed_asked fronts m (record { asker = asker; since = since; continuous = continuous; batch = batch; options = options }) m.feed refl some no_feed fits
served fronts m asker (request.Changes offers) some no_feed fits = offered m.strict fronts m asker (want.Ask offers) no_feed fits
served fronts m asker (request.ProposeChanges offers) some no_feed fits = asks_stay fronts m (pending.Reply asker (awaited.Asked true)) (want.Ask offers) no_feed refl tt fits
served fronts m asker (request.Rev revision) some no_feed fits = asks_stay fronts m (pending.Reply asker awaited.Pushed) (want.Propose revision) no_feed refl tt fits

requested : (fronts : List ℕ) (m : Machine) (message : Message) (read : Result Request RequestFault) → ReadHasBatch read → awaits_no_feed m.pending ≡ true → Fits fronts m.feed m.pending → CaughtUpBy fronts m (on_request m message read)
requested fronts m message (Err fault) some no_feed fits = refused_stay fronts m (asker_of message) (error_of fault) no_feed fits
requested fronts m message (Ok r) some no_feed fits = served fronts m (asker_of message) r some no_feed fits

wanted_rows_are : (fronts : List ℕ) (m : Machine) (message : Message) (r : Running) (rows : List Row) → m.feed ≡ Some r → awaits_no_feed m.pending ≡ true → Fits fronts m.feed m.pending → CaughtUpBy fronts m (on_wanted m message r rows)
wanted_rows_are fronts m message r [] e no_feed fits =
    answered_goes (r.continuous && is_none (rest r).rows) fronts m [] m.requests (rest r) (λ n. refl) (rest_follows fronts m r e fits)
wanted_rows_are fronts m message r (row ∷ rows) e no_feed fits =
    asks_stay fronts m (pending.Bodies (row ∷ rows)) (want.Bodies r.options (row ∷ rows) (most_ancestors message)) no_feed refl tt fits

reply_with : (fronts : List ℕ) (m : Machine) (message : Message) (r : Running) (b : Bool) → m.feed ≡ Some r → awaits_no_feed m.pending ≡ true → Fits fronts m.feed m.pending
    → CaughtUpBy fronts m (if b then on_wanted m message r (wanted_of r message) else puts m [])
reply_with fronts m message r true e no_feed fits = wanted_rows_are fronts m message r (wanted_of r message) e no_feed fits
reply_with fronts m message r false e no_feed fits = puts_stay fronts m [] (λ n. refl) no_feed fits

reply_taken : (fronts : List ℕ) (m : Machine) (message : Message) (feed : Option Running) → m.feed ≡ feed → awaits_no_feed m.pending ≡ true → Fits fronts m.feed m.pending → CaughtUpBy fronts m (on_reply m message feed)
reply_taken fronts m message None e no_feed fits = puts_stay fronts m [] (λ n. refl) no_feed fits
reply_taken fronts m message (Some r) e no_feed fits = reply_with fronts m message r (answers r message) e no_feed fits

by_message : (fronts : List ℕ) (m : Machine) (message : Message) (done : Done) (b : Bool) → DoesByMessage b m message done → awaits_no_feed m.pending ≡ true → Fits fronts m.feed m.pending → CaughtUpBy fronts m done
by_message fronts m message done true (read, is, e) no_feed fits = subst (CaughtUpBy fronts m) (sym e) (requested fronts m message read (read_batch message.payload m.version read is) no_feed fits)
by_message fronts m message done false e no_feed fits = subst (CaughtUpBy fronts m) (sym e) (reply_taken fronts m message m.feed refl no_feed fits)

-- ---- answers of the history

-- no feed runs while the first look for one is awaited
none_runs : (fronts : List ℕ) (m : Machine) (asked : Subscription) (feed : Option Running) → m.feed ≡ feed → m.pending ≡ pending.Feed asked → Fits fronts m.feed m.pending → feed ≡ None
none_runs fronts m asked None e awaited fits = refl
none_runs fronts m asked (Some r) e awaited fits = absurd (false≢true (sym (fits_as fronts m r e fits).later ∙ ap is_first awaited))

batch_asked : (fronts : List ℕ) (m : Machine) (asked : Subscription) → m.pending ≡ pending.Feed asked → Fits fronts m.feed m.pending → 1 ≤ asked.batch
batch_asked fronts m asked awaited fits =
    let none : m.feed ≡ None = none_runs fronts m asked m.feed refl awaited fits in
    subst FirstBatch awaited (subst (λ f. Fits fronts f m.pending) none fits)

feed_begins : (m : Machine) (asked : Subscription) (front : ℕ) (rows : List Row) (fronts : List ℕ) → 1 ≤ asked.batch → GoesOn (front ∷ fronts) m.version m.requests (first_running asked rows front)
feed_begins m asked front rows fronts some = it_goes (front ∷ fronts) fronts m.version m.requests (first_running asked rows front) refl some (λ e. absurd (false≢true e))

first_look : (fronts : List ℕ) (m : Machine) (asked : Subscription) (answer : Fed) → m.pending ≡ pending.Feed asked → Fits fronts m.feed m.pending → CaughtUpBy (front_of answer ∷ fronts) m (on_first_look m asked answer)
first_look fronts m asked (fed.Future front) awaited fits =
    let none : m.feed ≡ None = none_runs fronts m asked m.feed refl awaited fits in
    record {
      fits = subst (λ f. Fits (front ∷ fronts) f pending.Nothing) (sym none) tt;
      count = λ r e n. absurd (none-some r (sym none ∙ e));
    }
first_look fronts m asked (fed.Rows front rows) awaited fits =
    let none : m.feed ≡ None = none_runs fronts m asked m.feed refl awaited fits in
    record {
      fits = (feed_begins m asked front rows fronts (batch_asked fronts m asked awaited fits)).0;
      count = λ r e n. absurd (none-some r (sym none ∙ e));
    }

next_look : (fronts : List ℕ) (m : Machine) (feed : Option Running) (front : ℕ) (rows : List Row) → m.feed ≡ feed → Fits fronts m.feed m.pending → CaughtUpBy (front ∷ fronts) m (on_next_look m feed (fed.Rows front rows))
next_look fronts m None front rows e fits = record {
  fits = subst (λ f. Fits (front ∷ fronts) f pending.Nothing) (sym e) tt;
  count = λ r is n. absurd (none-some r (sym e ∙ is));
}
next_look fronts m (Some r) front rows e fits =
    let f : FitsFeed fronts r m.pending = fits_as fronts m r e fits in
    goes (front ∷ fronts) m [] m.requests (record r { rows = rows; front = front }) (λ n. refl)
    (record { was = r; is = e; caught_up = refl; earlier = fronts; front = refl; batch = f.batch; continuous = f.continuous })

fed_to : (fronts : List ℕ) (m : Machine) (answer : Fed) (awaited : Pending) → m.pending ≡ awaited → AwaitsBy m.feed awaited (event.Fed answer) → Fits fronts m.feed m.pending → CaughtUpBy (front_of answer ∷ fronts) m (on_fed m answer awaited)
fed_to fronts m answer pending.Nothing e a fits = absurd a
fed_to fronts m answer (pending.Feed asked) e a fits = first_look fronts m asked answer e fits
fed_to fronts m (fed.Future front) pending.More e a fits = absurd a
fed_to fronts m (fed.Rows front rows) pending.More e a fits = next_look fronts m m.feed front rows refl fits
fed_to fronts m answer (pending.Bodies rows) e a fits = absurd a
fed_to fronts m answer (pending.Reply asker to) e a fits = absurd a

bodies_of : (fronts : List ℕ) (m : Machine) (b : Bodies) (wanted : List Row) (feed : Option Running) → m.feed ≡ feed → awaits_no_feed m.pending ≡ true → Fits fronts m.feed m.pending → CaughtUpBy fronts m (on_bodies_of m b wanted feed)
bodies_of fronts m b wanted None e no_feed fits = puts_stay fronts m [] (λ n. refl) no_feed fits
bodies_of fronts m b wanted (Some r) e no_feed fits =
    answered_goes (r.continuous && is_none (rest r).rows) fronts m (body_acts wanted b.answers) (m.requests + length wanted) (rest r) (bodies_none wanted b.answers) (rest_follows fronts m r e fits)

bodied : (fronts : List ℕ) (m : Machine) (b : Bodies) (awaited : Pending) → m.pending ≡ awaited → AwaitsBy m.feed awaited (event.Bodies b) → Fits fronts m.feed m.pending → CaughtUpBy fronts m (on_bodies m b awaited)
bodied fronts m b pending.Nothing e a fits = absurd a
bodied fronts m b (pending.Feed asked) e a fits = absurd a
bodied fronts m b pending.More e a fits = absurd a
bodied fronts m b (pending.Bodies rows) e a fits = bodies_of fronts m b rows m.feed refl (ap awaits_no_feed e) fits
bodied fronts m b (pending.Reply asker to) e a fits = absurd a

answered_to : (fronts : List ℕ) (m : Machine) (e : Event) (awaited : Pending) → m.pending ≡ awaited → IsReply awaited → Fits fronts m.feed m.pending → CaughtUpBy fronts m (on_answer m e awaited)
answered_to fronts m e pending.Nothing is a fits = absurd a
answered_to fronts m e (pending.Feed asked) is a fits = absurd a
answered_to fronts m e pending.More is a fits = absurd a
answered_to fronts m e (pending.Bodies rows) is a fits = absurd a
answered_to fronts m e (pending.Reply asker to) is a fits = puts_stay fronts m (answer_act asker to e) (answer_by (λ acts. OfferNone acts) (λ n. refl) (λ by kind payload none yes unnamed. reply_none by kind payload none) asker to e) (ap awaits_no_feed is) fits

idled_with : (fronts : List ℕ) (m : Machine) (r : Running) (b : Bool) → m.feed ≡ Some r → awaits_no_feed m.pending ≡ true → Fits fronts m.feed m.pending → CaughtUpBy fronts m (if b then looks_again m [] m.requests r else puts m [])
idled_with fronts m r true e no_feed fits = looks fronts m [] m.requests r (λ n. refl) (follows fronts m r e fits)
idled_with fronts m r false e no_feed fits = puts_stay fronts m [] (λ n. refl) no_feed fits

idled : (fronts : List ℕ) (m : Machine) (front : ℕ) (feed : Option Running) → m.feed ≡ feed → awaits_no_feed m.pending ≡ true → Fits fronts m.feed m.pending → CaughtUpBy fronts m (on_idle m front feed)
idled fronts m front None e no_feed fits = puts_stay fronts m [] (λ n. refl) no_feed fits
idled fronts m front (Some r) e no_feed fits = idled_with fronts m r (nat_lt r.front front) e no_feed fits

message_no_feed : (feed : Option Running) (message : Message) (awaited : Pending) → AwaitsBy feed awaited (event.Whole message) → awaits_no_feed awaited ≡ true
message_no_feed feed message pending.Nothing a = refl
message_no_feed feed message (pending.Feed asked) a = absurd a
message_no_feed feed message pending.More a = absurd a
message_no_feed feed message (pending.Bodies rows) a = absurd a
message_no_feed feed message (pending.Reply asker to) a = absurd a

idle_no_feed : (feed : Option Running) (front : ℕ) (awaited : Pending) → AwaitsBy feed awaited (event.Idle front) → awaits_no_feed awaited ≡ true
idle_no_feed feed front pending.Nothing a = refl
idle_no_feed feed front (pending.Feed asked) a = absurd a
idle_no_feed feed front pending.More a = absurd a
idle_no_feed feed front (pending.Bodies rows) a = absurd a
idle_no_feed feed front (pending.Reply asker to) a = absurd a

-- ---- each event

event_caught_up : (fronts : List ℕ) (m : Machine) (x : Event) (done : Done) → AwaitsBy m.feed m.pending x → DoesForEvent m x done → Fits fronts m.feed m.pending → CaughtUpBy (feed_look x ++ fronts) m done
event_caught_up fronts m (event.Whole message) done a does fits = by_message fronts m message done (is_request message.kind) does (message_no_feed m.feed message m.pending a) fits
event_caught_up fronts m (event.Idle front) done a does fits = subst (CaughtUpBy fronts m) (sym does) (idled fronts m front m.feed refl (idle_no_feed m.feed front m.pending a) fits)
event_caught_up fronts m (event.Fed answer) done a does fits = subst (CaughtUpBy (front_of answer ∷ fronts) m) (sym does) (fed_to fronts m answer m.pending refl a fits)
event_caught_up fronts m (event.Bodies b) done a does fits = subst (CaughtUpBy fronts m) (sym does) (bodied fronts m b m.pending refl a fits)
event_caught_up fronts m (event.Asked answer) done a does fits =
    subst (CaughtUpBy fronts m) (sym does) (answered_to fronts m (event.Asked answer) m.pending refl (awaits_reply m.feed m.pending (event.Asked answer) refl a) fits)
event_caught_up fronts m (event.Judged o) done a does fits =
    subst (CaughtUpBy fronts m) (sym does) (answered_to fronts m (event.Judged o) m.pending refl (awaits_reply m.feed m.pending (event.Judged o) refl a) fits)
event_caught_up fronts m (event.Got k) done a does fits =
    subst (CaughtUpBy fronts m) (sym does) (answered_to fronts m (event.Got k) m.pending refl (awaits_reply m.feed m.pending (event.Got k) refl a) fits)
event_caught_up fronts m (event.Set answer) done a does fits =
    subst (CaughtUpBy fronts m) (sym does) (answered_to fronts m (event.Set answer) m.pending refl (awaits_reply m.feed m.pending (event.Set answer) refl a) fits)

step_caught_up : (fronts : List ℕ) (m : Machine) (s : SessionStep) (after : Machine) → (made : Steps m s after) → Fits fronts m.feed m.pending → CaughtUpBy (feed_look s.event ++ fronts) m made.done
step_caught_up fronts m s after made fits = event_caught_up fronts m s.event made.done made.awaited made.does fits

-- ---- all steps

all_fit : (user : List ℕ) (version : Version) (strict : Bool) (steps : List SessionStep) (m : Machine) → Leads (new_machine user version strict) steps m → Fits (feed_looks steps) m.feed m.pending
all_fit user version strict [] m leads = subst (λ (x : Machine). Fits [] x.feed x.pending) (sym leads) tt
all_fit user version strict (s ∷ earlier) m (before, leads, made) =
    subst (λ (x : Machine). Fits (feed_look s.event ++ feed_looks earlier) x.feed x.pending) (sym made.leads)
    (step_caught_up (feed_looks earlier) before s m made (all_fit user version strict earlier before leads)).fits

-- ---- idle moments

less_iff : (a b : ℕ) (m : Machine) (r : Running) (grown : Bool) → nat_lt a b ≡ grown → IsSome (if grown then looks_again m [] m.requests r else puts m []).want ↔ (a < b)
less_iff a b m r true e = ((λ h. ltb-true a b e), (λ h. refl))
less_iff a b m r false e = ((λ h. absurd (false≢true h)), (λ h. absurd (false≢true (sym e ∙ lt-ltb a b h))))

looks_iff : (fronts : List ℕ) (m : Machine) (front : ℕ) (awaited : Pending) (feed : Option Running) → m.feed ≡ feed → AwaitsBy feed awaited (event.Idle front) → Fits fronts m.feed m.pending
    → IsSome (on_idle m front feed).want ↔ IsAboveLast fronts front
looks_iff fronts m front pending.Nothing None e a fits = absurd (false≢true a)
looks_iff fronts m front pending.Nothing (Some r) e a fits =
    let f : FitsFeed fronts r m.pending = fits_as fronts m r e fits in
    subst (λ fs. IsSome (on_idle m front (Some r)).want ↔ IsAboveLast fs front) (sym f.front) (less_iff r.front front m r (nat_lt r.front front) refl)
looks_iff fronts m front (pending.Feed asked) feed e a fits = absurd a
looks_iff fronts m front pending.More feed e a fits = absurd a
looks_iff fronts m front (pending.Bodies rows) feed e a fits = absurd a
looks_iff fronts m front (pending.Reply asker to) feed e a fits = absurd a

from_with : (last : ℕ) (earlier : List ℕ) (m : Machine) (r : Running) (b : Bool) → last ≡ r.front → IsFromLast (last ∷ earlier) (if b then looks_again m [] m.requests r else puts m []).want
from_with last earlier m r true e = ap plain (sym e)
from_with last earlier m r false e = tt

looks_from : (fronts : List ℕ) (m : Machine) (front : ℕ) (feed : Option Running) → m.feed ≡ feed → Fits fronts m.feed m.pending → IsFromLast fronts (on_idle m front feed).want
looks_from fronts m front None e fits = tt
looks_from fronts m front (Some r) e fits =
    let f : FitsFeed fronts r m.pending = fits_as fronts m r e fits in
    subst (λ fs. IsFromLast fs (on_idle m front (Some r)).want) (sym f.front) (from_with r.front f.earlier m r (nat_lt r.front front) refl)

puts_none : (m : Machine) (front : ℕ) (feed : Option Running) (n : ℕ) → messages_from n (on_idle m front feed).acts ≡ []
puts_none m front None n = refl
puts_none m front (Some r) n =
    elim (nat_lt r.front front) as (λ b. messages_from n (if b then looks_again m [] m.requests r else puts m []).acts ≡ []) [ true ↦ refl | false ↦ refl ]

idle_does : (m : Machine) (s : SessionStep) (after : Machine) (front : ℕ) → s.event ≡ event.Idle front → (made : Steps m s after) → made.done ≡ on_idle m front m.feed
idle_does m s after front is made = subst (λ x. DoesForEvent m x made.done) is made.does

pub idle_looks : (user : List ℕ) (version : Version) (strict : Bool) (earlier : List SessionStep) (m after : Machine) (s : SessionStep) (front : ℕ)
    → Leads (new_machine user version strict) earlier m → s.event ≡ event.Idle front → Steps m s after → IsSome s.want ↔ IsAboveLast (feed_looks earlier) front
idle_looks user version strict earlier m after s front leads is made =
    subst (λ w. IsSome w ↔ IsAboveLast (feed_looks earlier) front) (sym (made.want ∙ ap (λ (d : Done). d.want) (idle_does m s after front is made)))
    (looks_iff (feed_looks earlier) m front m.pending m.feed refl (subst (AwaitsBy m.feed m.pending) is made.awaited) (all_fit user version strict earlier m leads))

pub idle_from : (user : List ℕ) (version : Version) (strict : Bool) (earlier : List SessionStep) (m after : Machine) (s : SessionStep) (front : ℕ)
    → Leads (new_machine user version strict) earlier m → s.event ≡ event.Idle front → Steps m s after → IsFromLast (feed_looks earlier) s.want
idle_from user version strict earlier m after s front leads is made =
    subst (IsFromLast (feed_looks earlier)) (sym (made.want ∙ ap (λ (d : Done). d.want) (idle_does m s after front is made)))
    (looks_from (feed_looks earlier) m front m.feed refl (all_fit user version strict earlier m leads))

pub idle_puts : (m after : Machine) (s : SessionStep) (front : ℕ) → s.event ≡ event.Idle front → Steps m s after → s.puts ≡ []
idle_puts m after s front is made =
    made.puts ∙ ap (λ (d : Done). messages_from (m.requests + 1) d.acts) (idle_does m s after front is made) ∙ puts_none m front m.feed (m.requests + 1)

-- ---- the empty offers of a feed

begin_caught_up : (m : Machine) (s : SessionStep) (first : Machine) (asked : Subscription) (front : ℕ) (rows : List Row) (fronts : List ℕ) → m.pending ≡ pending.Feed asked → s.event ≡ event.Fed (fed.Rows front rows) → Steps m s first
    → Fits fronts m.feed m.pending → empty_offers s.puts ≡ caught_up_count first.feed
begin_caught_up m s first asked front rows fronts awaited came made fits =
    let does : made.done ≡ on_first_look m asked (fed.Rows front rows) =
    subst (λ p. made.done ≡ on_fed m (fed.Rows front rows) p) awaited (subst (λ x. DoesForEvent m x made.done) came made.does) in
    let r : Running = first_running asked rows front in
    let it : GoesOn (front ∷ fronts) m.version m.requests r = feed_begins m asked front rows fronts (batch_asked fronts m asked awaited fits) in
    let one : ℕ = empty_offers (messages_from 0 (next_acts m.version r)) in
    let all : empty_offers (messages_from (m.requests + 1) (acceptance_act asked.asker ++ next_acts m.version r)) ≡ empty_offers (messages_from (m.requests + 1) (acceptance_act asked.asker)) + one =
    acts_on (m.requests + 1) (acceptance_act asked.asker) (next_acts m.version r) one (λ k. omega (arith, it.1 k, it.1 0)) in
    let reply : empty_offers (messages_from (m.requests + 1) (acceptance_act asked.asker)) ≡ 0 = reply_none asked.asker kinds.Rpy ok_payload refl (m.requests + 1) in
    let sum : empty_offers (messages_from (m.requests + 1) (acceptance_act asked.asker ++ next_acts m.version r)) ≡ caught_up_count (next_feed m.requests r) = omega (arith, all, reply, it.1 0) in
    ap empty_offers made.puts ∙ ap (λ (d : Done). empty_offers (messages_from (m.requests + 1) d.acts)) does
    ∙ sum ∙ sym (ap (λ (x : Machine). caught_up_count x.feed) made.leads ∙ ap (λ (d : Done). caught_up_count d.after.feed) does)

leads_on : (start first : Machine) (earlier : List SessionStep) → Leads start earlier first → (more : List SessionStep) (m : Machine) → LeadsFeed first more m → Leads start (more ++ earlier) m
leads_on start first earlier leads [] m e = subst (Leads start earlier) (sym e) leads
leads_on start first earlier leads (s ∷ more) m (before, feeds, runs, made) = (before, leads_on start first earlier leads more before feeds, made)

one_more : (fronts : List ℕ) (messages : List Message) (before : Machine) (s : SessionStep) (after : Machine) (feed : Option Running) → before.feed ≡ feed → IsSome feed → Steps before s after → Fits fronts before.feed before.pending
    → empty_offers messages ≡ caught_up_count before.feed → empty_offers (messages ++ s.puts) ≡ caught_up_count after.feed
one_more fronts messages before s after None e runs made fits so_far = absurd (false≢true runs)
one_more fronts messages before s after (Some r) e runs made fits so_far =
    let step : empty_offers (messages_from (before.requests + 1) made.done.acts) + caught_up_count before.feed ≡ caught_up_count made.done.after.feed =
    (step_caught_up fronts before s after made fits).count r e (before.requests + 1) in
    omega (arith, empties_on messages s.puts, so_far, step, ap empty_offers made.puts, ap (λ (x : Machine). caught_up_count x.feed) made.leads)

all_counted : (user : List ℕ) (version : Version) (strict : Bool) (earlier : List SessionStep) (s : SessionStep) (first : Machine) → Leads (new_machine user version strict) (s ∷ earlier) first → empty_offers s.puts ≡ caught_up_count first.feed
    → (more : List SessionStep) (m : Machine) → LeadsFeed first more m → empty_offers (put_by (more ++ s ∷ [])) ≡ caught_up_count m.feed
all_counted user version strict earlier s first leads begun [] m e = begun ∙ ap (λ (x : Machine). caught_up_count x.feed) (sym e)
all_counted user version strict earlier s first leads begun (t ∷ more) m (before, feeds, runs, made) =
    one_more (feed_looks (more ++ s ∷ earlier)) (put_by (more ++ s ∷ [])) before t m before.feed refl runs made
    (all_fit user version strict (more ++ s ∷ earlier) before (leads_on (new_machine user version strict) first (s ∷ earlier) leads more before feeds))
    (all_counted user version strict earlier s first leads begun more before feeds)

pub caught_up_once : (user : List ℕ) (version : Version) (strict : Bool) (earlier : List SessionStep) (begin : SessionStep) (more : List SessionStep) (after : Machine) → RunsFeed user version strict earlier begin more after
    → empty_offers (put_by (more ++ begin ∷ [])) ≡ (if has_caught_up after.feed then 1 else 0)
caught_up_once user version strict earlier begin more after f =
    all_counted user version strict earlier begin f.first (f.before, f.leads, f.begins)
    (begin_caught_up f.before begin f.first f.asked f.front f.rows (feed_looks earlier) f.awaited f.event f.begins (all_fit user version strict earlier f.before f.leads)) more after f.runs

no_feed_then : (fronts : List ℕ) (r : Running) (awaited : Pending) → FitsFeed fronts r awaited → (awaited ≡ pending.More → ⊥) → awaits_no_feed awaited ≡ true
no_feed_then fronts r pending.Nothing fits not = refl
no_feed_then fronts r (pending.Feed asked) fits not = absurd (false≢true (sym fits.later))
no_feed_then fronts r pending.More fits not = absurd (not refl)
no_feed_then fronts r (pending.Bodies rows) fits not = refl
no_feed_then fronts r (pending.Reply asker to) fits not = refl

caught_up_where : (fronts : List ℕ) (feed : Option Running) (awaited : Pending) → Fits fronts feed awaited → waits feed ≡ true → (awaited ≡ pending.More → ⊥) → has_caught_up feed ≡ true
caught_up_where fronts None awaited fits waiting not = absurd (false≢true waiting)
caught_up_where fronts (Some r) awaited fits waiting not = fits.without_rows (no_feed_then fronts r awaited fits not) waiting

pub waiting_caught_up : (user : List ℕ) (version : Version) (strict : Bool) (earlier : List SessionStep) (begin : SessionStep) (more : List SessionStep) (after : Machine) → RunsFeed user version strict earlier begin more after
    → waits after.feed ≡ true → (after.pending ≡ pending.More → ⊥) → empty_offers (put_by (more ++ begin ∷ [])) ≡ 1
waiting_caught_up user version strict earlier begin more after f waiting not =
    let leads : Leads (new_machine user version strict) (more ++ begin ∷ earlier) after = leads_on (new_machine user version strict) f.first (begin ∷ earlier) (f.before, f.leads, f.begins) more after f.runs in
    caught_up_once user version strict earlier begin more after f
    ∙ ap counted (caught_up_where (feed_looks (more ++ begin ∷ earlier)) after.feed after.pending (all_fit user version strict (more ++ begin ∷ earlier) after leads) waiting not)
