-- What a session offers of a feed is what the feed was given.
use Rattle.std.proofs.Common.{◌≡◌, inl, inr, ℕ, zero, suc, ◌+◌, Bool, true, false, ◌&&◌, nat_lt, List, [], ◌∷◌, ◌++◌, length, take, drop, codes, Option, Some, None, Result, Ok, Err, refl, sym, ◌∙◌, ap, subst, if◌then◌else◌, arith, append-nil, add-zero}
use Rattle.std.specs.Prelude.{IsSome}
use Rattle.std.proofs.lemmas.Bool.{false≢true}
use Rattle.std.proofs.lemmas.List.{append_assoc, take-append-drop}
use Rattle.std.proofs.lemmas.Option.{none-some}
use Rattle.blip_frame.specs.Props.{value_at}
use Rattle.blip_frame.specs.declared.frame.Kind.{Kind}
use Rattle.blip_frame.specs.declared.frame.Kind.TheVariants as kinds
use Rattle.blip_frame.specs.declared.payload.Payload.{Payload}
use Rattle.blip_mux.specs.declared.message.Message.{Message}
use Rattle.blip_mux.specs.Joining.{is_request, is_reply}
use Rattle.sg_history.specs.declared.entries.Entry.{Entry}
use Rattle.sg_history.specs.declared.row.Row.{Row}
use Rattle.sg_history.specs.Device.{plain}
use Rattle.sg_history.specs.Feed.{feed}
use Rattle.sg_history.specs.History.{past}
use Rattle.repl_messages.specs.declared.request.Version.{Version}
use Rattle.repl_messages.specs.declared.request.Request.{Request}
use Rattle.repl_messages.specs.declared.request.Request.TheVariants as request
use Rattle.repl_messages.specs.declared.request.RequestFault.{RequestFault}
use Rattle.repl_messages.specs.declared.error.ErrorKind.{ErrorKind}
use Rattle.repl_messages.specs.declared.error.ErrorKind.TheVariants as errors
use Rattle.repl_messages.specs.declared.looks.Body.{Body}
use Rattle.repl_messages.specs.declared.looks.Body.TheVariants as body
use Rattle.repl_messages.specs.declared.looks.Bodies.{Bodies}
use Rattle.repl_messages.specs.declared.looks.Fed.{Fed}
use Rattle.repl_messages.specs.declared.looks.Fed.TheVariants as fed
use Rattle.repl_messages.specs.Errors.{error_payload}
use Rattle.repl_messages.specs.Looks.{front_of}
use Rattle.sync_syntax.specs.declared.tree.Program.{Program}
use Rattle.session_core.specs.declared.act.Act.{Act}
use Rattle.session_core.specs.declared.act.Act.TheVariants as act
use Rattle.session_core.specs.declared.act.Want.{Want}
use Rattle.session_core.specs.declared.act.Want.TheVariants as want
use Rattle.session_core.specs.declared.event.Event.{Event}
use Rattle.session_core.specs.declared.event.Event.TheVariants as event
use Rattle.session_core.specs.declared.replies.Asker.{Asker}
use Rattle.session_core.specs.declared.replies.Awaited.TheVariants as awaited
use Rattle.session_core.specs.declared.machine.Subscription.{Subscription}
use Rattle.session_core.specs.declared.machine.Pending.{Pending}
use Rattle.session_core.specs.declared.machine.Pending.TheVariants as pending
use Rattle.session_core.specs.Acts.{messages_from, act_request, act_reply, error_of, reply_act, refusal_act, acceptance_act, answer_act, body_act, body_acts, offer_act}
use Rattle.session_core.proofs.Replying.{answer_by}
use Rattle.session_core.specs.Conduct.{requests_among, WantsFor}
use Rattle.session_core.specs.Feeds.{AreRowsOffered, not_offered, feed_rows_at, feed_look, feed_looks, LeadsFeed, RunsFeed}
use Rattle.session_core.specs.Right.{IsRight, AreRight}
use Rattle.session_core.specs.Running.{Running, rest, is_none, is_silent, waits, next_since, next_acts, next_feed, next_feed_with}
use Rattle.session_core.specs.State.{Machine, new_machine, AwaitsBy, Awaits}
use Rattle.session_core.specs.Steps.{SessionStep, Steps, Leads, put_by, wanted_after}
use Rattle.session_core.specs.Transitions.{Done, puts, asks, goes_on_feed, looks_again, answered_by, answer_done, asker_of, refused, on_sub_changes, on_changes, on_served, on_request, answers, wanted_of, most_ancestors, on_wanted, on_reply, first_running, on_first_look, on_next_look, on_fed, on_bodies_of, on_bodies, on_answer, on_idle, DoesForEvent, DoesByMessage}
use Rattle.session_core.proofs.Conducts.{conducted}

-- ---- messages

offered_on : (version : Version) (ms ns : List Message) (rows more : List Row) → AreRowsOffered version ms rows → AreRowsOffered version ns more → AreRowsOffered version (ms ++ ns) (rows ++ more)
offered_on version [] ns rows more a b = subst (λ rs. AreRowsOffered version ns (rs ++ more)) (sym a) b
offered_on version (m ∷ ms) ns rows more (inl (not, a)) b = inl (not, offered_on version ms ns rows more a b)
offered_on version (m ∷ ms) ns rows more (inr (first, later, is, payload, rows_are, a)) b =
    inr (first, later ++ more, is, payload, ap (λ rs. rs ++ more) rows_are ∙ append_assoc first later more, offered_on version ms ns later more a b)

messages_on : (n : ℕ) (acts more : List Act) → messages_from n (acts ++ more) ≡ messages_from n acts ++ messages_from (n + requests_among acts) more
messages_on n [] more = ap (λ k. messages_from k more) (sym (add-zero n))
messages_on n (act.Reply to kind urgent payload ∷ acts) more = ap (λ ms. act_reply to kind urgent payload ∷ ms) (messages_on n acts more)
messages_on n (act.Request payload no_reply ∷ acts) more =
    let count : n + 1 + requests_among acts ≡ n + (1 + requests_among acts) = omega arith in
    ap (λ ms. act_request n no_reply payload ∷ ms) (messages_on (n + 1) acts more ∙ ap (λ k. messages_from (n + 1) acts ++ messages_from k more) count)
messages_on n (act.Want want ∷ acts) more = messages_on n acts more

-- acts that offer nothing
abbrev OffersNone : List Act → Type 0
OffersNone [] = Unit {0}
OffersNone (act.Reply to kind urgent payload ∷ acts) = (is_reply kind ≡ true) × OffersNone acts
OffersNone (act.Request payload no_reply ∷ acts) = (value_at payload.props (codes "Profile") ≡ Some (codes "changes") → ⊥) × OffersNone acts
OffersNone (act.Want want ∷ acts) = OffersNone acts

no_request : (kind : Kind) → is_reply kind ≡ true → is_request kind ≡ true → ⊥
no_request kinds.Msg reply is = false≢true reply
no_request kinds.Rpy reply is = false≢true is
no_request kinds.Err reply is = false≢true is
no_request kinds.AckMsg reply is = false≢true is
no_request kinds.AckRpy reply is = false≢true is

none_offered : (version : Version) (n : ℕ) (acts : List Act) → OffersNone acts → AreRowsOffered version (messages_from n acts) []
none_offered version n [] none = refl
none_offered version n (act.Reply to kind urgent payload ∷ acts) (reply, none) = inl ((λ is. no_request kind reply is.0), none_offered version n acts none)
none_offered version n (act.Request payload no_reply ∷ acts) (other, none) = inl ((λ is. other is.1), none_offered version (n + 1) acts none)
none_offered version n (act.Want want ∷ acts) none = none_offered version n acts none

reply_none : (asker : Asker) (kind : Kind) (payload : Payload) → is_reply kind ≡ true → OffersNone (reply_act asker kind payload)
reply_none asker kind payload is =
    elim (asker.no_reply) as (λ b. OffersNone (if b then [] else act.Reply asker.number kind asker.urgent payload ∷ []))
    [ true ↦ tt | false ↦ (is, tt) ]

-- bodies
abbrev text_in : Option (List ℕ) → List ℕ
text_in None = []
text_in (Some text) = text

three_seven : ◌≡◌ {A = ℕ} 3 7 → ⊥
three_seven e = omega (arith, e)

five_seven : ◌≡◌ {A = ℕ} 5 7 → ⊥
five_seven e = omega (arith, e)

other_name : (o : Option (List ℕ)) (name : List ℕ) → o ≡ Some name → (length name ≡ 7 → ⊥) → o ≡ Some (codes "changes") → ⊥
other_name o name is other e = other (ap (λ o. length (text_in o)) (sym is ∙ e))

one_body_none : (row : Row) (b : Body) (acts : List Act) → OffersNone acts → OffersNone (body_act row b ∷ acts)
one_body_none row (body.Rev ancestors bytes) acts none = ((λ e. other_name _ (codes "rev") refl three_seven e), none)
one_body_none row body.Removed acts none = ((λ e. other_name _ (codes "rev") refl three_seven e), none)
one_body_none row body.NoRev acts none = ((λ e. other_name _ (codes "norev") refl five_seven e), none)

bodies_none : (rows : List Row) (bodies : List Body) → OffersNone (body_acts rows bodies)
bodies_none [] bodies = tt
bodies_none (row ∷ rows) [] = tt
bodies_none (row ∷ rows) (b ∷ bodies) = one_body_none row b (body_acts rows bodies) (bodies_none rows bodies)

-- ---- the next offer

none_left : (rows : List Row) → is_none rows ≡ true → rows ≡ []
none_left [] e = refl
none_left (row ∷ rows) e = absurd (false≢true e)

take_none : (batch : ℕ) (rows : List Row) → rows ≡ [] → take batch rows ≡ []
take_none zero rows e = refl
take_none (suc n) [] e = refl
take_none (suc n) (row ∷ rows) e = cc

drop_none : (batch : ℕ) (rows : List Row) → rows ≡ [] → drop batch rows ≡ []
drop_none zero rows e = e
drop_none (suc n) [] e = refl
drop_none (suc n) (row ∷ rows) e = cc

last_of : (a b c : Bool) → (a && (b && c)) ≡ true → c ≡ true
last_of true true c e = e
last_of true false c e = absurd (false≢true e)
last_of false b c e = absurd (false≢true e)

next_offered_by : (version : Version) (n : ℕ) (r : Running) (b : Bool) → is_silent r ≡ b → AreRowsOffered version (messages_from n (if b then [] else offer_act r.rows r.batch version ∷ [])) (take r.batch r.rows)
next_offered_by version n r true silent = take_none r.batch r.rows (none_left r.rows (last_of r.caught_up r.continuous (is_none r.rows) silent))
next_offered_by version n r false silent = inr (take r.batch r.rows, [], (refl, refl), refl, sym (append-nil (take r.batch r.rows)), refl)

next_offered : (version : Version) (n : ℕ) (r : Running) → AreRowsOffered version (messages_from n (next_acts version r)) (take r.batch r.rows)
next_offered version n r = next_offered_by version n r (is_silent r) refl

-- what is left then
next_left_with : (rows : List Row) (n : ℕ) (r : Running) → r.rows ≡ rows → not_offered (next_feed_with rows n r) ≡ drop r.batch r.rows
next_left_with [] n r e =
    elim (r.continuous) as (λ b. not_offered (if b then Some (record r { caught_up = true }) else None) ≡ drop r.batch r.rows)
    [ true ↦ refl | false ↦ sym (drop_none r.batch r.rows e) ]
next_left_with (row ∷ rows) n r e = refl

next_left : (n : ℕ) (r : Running) → not_offered (next_feed n r) ≡ drop r.batch r.rows
next_left n r = next_left_with r.rows n r refl

-- ---- while a feed runs

-- what holds of the feed and of what is awaited
abbrev Waits : Running → Pending → Type 0
Waits r pending.Nothing = Unit {0}
Waits r (pending.Feed asked) = ⊥
Waits r pending.More = is_none r.rows ≡ true
Waits r (pending.Bodies rows) = Unit {0}
Waits r (pending.Reply asker to) = Unit {0}

abbrev Runs : Subscription → List ℕ → Option Running → Pending → Type 0
Runs asked fronts None awaited = Unit {0}
Runs asked fronts (Some r) awaited = (r.options ≡ asked.options) × ((earlier : List ℕ) × (fronts ≡ r.front ∷ earlier)) × Waits r awaited

-- what was offered so far, and what is left
pub record Offering (h : List Entry) (user : List ℕ) (version : Version) (asked : Subscription) (messages : List Message) (fronts : List ℕ) (m : Machine) : Type 0 where
  pub offered : List Row
  pub are : AreRowsOffered version messages offered
  pub sum : offered ++ not_offered m.feed ≡ feed_rows_at h user asked.since asked.options fronts
  pub runs : Runs asked fronts m.feed m.pending
  pub user_is : m.user ≡ user
  pub version_is : m.version ≡ version

-- the same after an event at which nothing is offered and the feed stays as it was
abbrev After : List Entry → List ℕ → Version → Subscription → List Message → List ℕ → Machine → Done → Type 0
After h user version asked messages fronts m done = Offering h user version asked (messages ++ messages_from (m.requests + 1) done.acts) fronts done.after

stays : (h : List Entry) (user : List ℕ) (version : Version) (asked : Subscription) (messages : List Message) (fronts : List ℕ) (m : Machine) (r : Running) (done : Done)
    → Offering h user version asked messages fronts m → m.feed ≡ Some r → OffersNone done.acts
    → not_offered done.after.feed ≡ not_offered m.feed → Runs asked fronts done.after.feed done.after.pending → done.after.user ≡ m.user → done.after.version ≡ m.version
    → After h user version asked messages fronts m done
stays h user version asked messages fronts m r done so_far runs none same still user_same version_same = record {
  offered = so_far.offered;
  are = subst (AreRowsOffered version (messages ++ messages_from (m.requests + 1) done.acts)) (append-nil so_far.offered)
      (offered_on version messages (messages_from (m.requests + 1) done.acts) so_far.offered [] so_far.are (none_offered version (m.requests + 1) done.acts none));
  sum = ap (λ rs. so_far.offered ++ rs) same ∙ so_far.sum;
  runs = still;
  user_is = user_same ∙ so_far.user_is;
  version_is = version_same ∙ so_far.version_is;
}

-- the facts of a feed that runs
facts : (h : List Entry) (user : List ℕ) (version : Version) (asked : Subscription) (messages : List Message) (fronts : List ℕ) (m : Machine) (r : Running)
    → Offering h user version asked messages fronts m → m.feed ≡ Some r → Runs asked fronts (Some r) m.pending
facts h user version asked messages fronts m r so_far e = subst (λ f. Runs asked fronts f m.pending) e so_far.runs

-- puts without an offer
puts_stay : (h : List Entry) (user : List ℕ) (version : Version) (asked : Subscription) (messages : List Message) (fronts : List ℕ) (m : Machine) (r : Running) (acts : List Act)
    → Offering h user version asked messages fronts m → m.feed ≡ Some r → OffersNone acts → After h user version asked messages fronts m (puts m acts)
puts_stay h user version asked messages fronts m r acts so_far e none =
    let f : Runs asked fronts (Some r) m.pending = facts h user version asked messages fronts m r so_far e in
    stays h user version asked messages fronts m r (puts m acts) so_far e none refl (subst (λ g. Runs asked fronts g pending.Nothing) (sym e) (f.0, f.1, tt)) refl refl

asks_stay : (h : List Entry) (user : List ℕ) (version : Version) (asked : Subscription) (messages : List Message) (fronts : List ℕ) (m : Machine) (r : Running) (awaited : Pending) (wanted : Want)
    → Offering h user version asked messages fronts m → m.feed ≡ Some r → Waits r awaited → After h user version asked messages fronts m (asks m awaited wanted)
asks_stay h user version asked messages fronts m r awaited wanted so_far e is =
    let f : Runs asked fronts (Some r) m.pending = facts h user version asked messages fronts m r so_far e in
    stays h user version asked messages fronts m r (asks m awaited wanted) so_far e tt refl (subst (λ g. Runs asked fronts g awaited) (sym e) (f.0, f.1, is)) refl refl

next_runs : (asked : Subscription) (fronts : List ℕ) (rows : List Row) (n : ℕ) (r : Running) → r.options ≡ asked.options → ((earlier : List ℕ) × (fronts ≡ r.front ∷ earlier))
    → Runs asked fronts (next_feed_with rows n r) pending.Nothing
next_runs asked fronts [] n r options front =
    elim (r.continuous) as (λ b. Runs asked fronts (if b then Some (record r { caught_up = true }) else None) pending.Nothing) [ true ↦ (options, front, tt) | false ↦ tt ]
next_runs asked fronts (row ∷ rows) n r options front = (options, front, tt)

-- a feed goes on with these rows, which are all that is left to offer
goes : (h : List Entry) (user : List ℕ) (version : Version) (asked : Subscription) (messages : List Message) (fronts : List ℕ) (m : Machine) (acts : List Act) (requests : ℕ) (r : Running) (offered : List Row)
    → AreRowsOffered version messages offered → offered ++ r.rows ≡ feed_rows_at h user asked.since asked.options fronts
    → r.options ≡ asked.options → ((earlier : List ℕ) × (fronts ≡ r.front ∷ earlier))
    → m.user ≡ user → m.version ≡ version → OffersNone acts
    → After h user version asked messages fronts m (goes_on_feed m acts requests r)
goes h user version asked messages fronts m acts requests r offered are sum options front user_is version_is none = record {
  offered = offered ++ take r.batch r.rows;
  are = offered_on version messages (messages_from (m.requests + 1) (acts ++ next_acts m.version r)) offered (take r.batch r.rows) are
      (subst (λ ms. AreRowsOffered version ms (take r.batch r.rows)) (sym (messages_on (m.requests + 1) acts (next_acts m.version r)))
      (offered_on version (messages_from (m.requests + 1) acts) (messages_from (m.requests + 1 + requests_among acts) (next_acts m.version r)) [] (take r.batch r.rows)
      (none_offered version (m.requests + 1) acts none)
      (subst (λ v. AreRowsOffered version (messages_from (m.requests + 1 + requests_among acts) (next_acts v r)) (take r.batch r.rows)) (sym version_is) (next_offered version (m.requests + 1 + requests_among acts) r))));
  sum = ap (λ rs. (offered ++ take r.batch r.rows) ++ rs) (next_left requests r) ∙ append_assoc offered (take r.batch r.rows) (drop r.batch r.rows)
      ∙ ap (λ rs. offered ++ rs) (take-append-drop r.batch r.rows) ∙ sum;
  runs = next_runs asked fronts r.rows requests r options front;
  user_is = user_is;
  version_is = version_is;
}

-- a feed takes its next look, for which it has no rows left
looks_stay : (h : List Entry) (user : List ℕ) (version : Version) (asked : Subscription) (messages : List Message) (fronts : List ℕ) (m : Machine) (r : Running) (acts : List Act) (requests : ℕ) (next : Running)
    → Offering h user version asked messages fronts m → m.feed ≡ Some r → OffersNone acts
    → next.options ≡ r.options → next.front ≡ r.front → drop next.batch next.rows ≡ drop r.batch r.rows → is_none next.rows ≡ true
    → After h user version asked messages fronts m (looks_again m acts requests next)
looks_stay h user version asked messages fronts m r acts requests next so_far e none options front same left =
    let f : Runs asked fronts (Some r) m.pending = facts h user version asked messages fronts m r so_far e in
    stays h user version asked messages fronts m r (looks_again m acts requests next) so_far e none (same ∙ ap not_offered (sym e))
    (options ∙ f.0, (f.1.0, f.1.1 ∙ ap (λ n. n ∷ f.1.0) (sym front)), left) refl refl

drops_again : (batch : ℕ) (rows : List Row) → is_none (drop batch rows) ≡ true → drop batch (drop batch rows) ≡ drop batch rows
drops_again batch rows none = drop_none batch (drop batch rows) (none_left (drop batch rows) none) ∙ sym (none_left (drop batch rows) none)

second_of : (a b : Bool) → (a && b) ≡ true → b ≡ true
second_of true b e = e
second_of false b e = absurd (false≢true e)

answered_with : (h : List Entry) (user : List ℕ) (version : Version) (asked : Subscription) (messages : List Message) (fronts : List ℕ) (m : Machine) (r : Running) (acts : List Act) (requests : ℕ) (b : Bool)
    → (r.continuous && is_none (rest r).rows) ≡ b
    → Offering h user version asked messages fronts m → m.feed ≡ Some r → OffersNone acts → After h user version asked messages fronts m (answered_by b m acts requests (rest r))
answered_with h user version asked messages fronts m r acts requests true is so_far e none =
    let left : is_none (rest r).rows ≡ true = second_of r.continuous (is_none (rest r).rows) is in
    looks_stay h user version asked messages fronts m r acts requests (rest r) so_far e none refl refl (drops_again r.batch r.rows left) left
answered_with h user version asked messages fronts m r acts requests false is so_far e none =
    let f : Runs asked fronts (Some r) m.pending = facts h user version asked messages fronts m r so_far e in
    goes h user version asked messages fronts m acts requests (rest r) so_far.offered so_far.are (ap (λ g. so_far.offered ++ not_offered g) (sym e) ∙ so_far.sum) f.0 f.1 so_far.user_is so_far.version_is none

rows_answered : (h : List Entry) (user : List ℕ) (version : Version) (asked : Subscription) (messages : List Message) (fronts : List ℕ) (m : Machine) (r : Running) (acts : List Act) (requests : ℕ)
    → Offering h user version asked messages fronts m → m.feed ≡ Some r → OffersNone acts → After h user version asked messages fronts m (answer_done m acts requests (rest r))
rows_answered h user version asked messages fronts m r acts requests so_far e none =
    answered_with h user version asked messages fronts m r acts requests (r.continuous && is_none (rest r).rows) refl so_far e none

-- ---- messages

refused_stay : (h : List Entry) (user : List ℕ) (version : Version) (asked : Subscription) (messages : List Message) (fronts : List ℕ) (m : Machine) (r : Running) (asker : Asker) (error : ErrorKind)
    → Offering h user version asked messages fronts m → m.feed ≡ Some r → After h user version asked messages fronts m (refused m asker error)
refused_stay h user version asked messages fronts m r asker error so_far e =
    puts_stay h user version asked messages fronts m r (refusal_act asker error) so_far e (reply_none asker kinds.Err (error_payload error) refl)

second_feed : (h : List Entry) (user : List ℕ) (version : Version) (asked other : Subscription) (messages : List Message) (fronts : List ℕ) (m : Machine) (r : Running)
    → Offering h user version asked messages fronts m → m.feed ≡ Some r → After h user version asked messages fronts m (on_sub_changes m other m.feed)
second_feed h user version asked other messages fronts m r so_far e =
    subst (λ f. After h user version asked messages fronts m (on_sub_changes m other f)) (sym e) (refused_stay h user version asked messages fronts m r other.asker errors.FeedRuns409 so_far e)

changes_stay : (h : List Entry) (user : List ℕ) (version : Version) (asked : Subscription) (messages : List Message) (fronts : List ℕ) (m : Machine) (r : Running) (asker : Asker) (wanted : Want) (b : Bool)
    → Offering h user version asked messages fronts m → m.feed ≡ Some r → After h user version asked messages fronts m (on_changes b m asker wanted)
changes_stay h user version asked messages fronts m r asker wanted true so_far e = refused_stay h user version asked messages fronts m r asker errors.UsePropose409 so_far e
changes_stay h user version asked messages fronts m r asker wanted false so_far e = asks_stay h user version asked messages fronts m r (pending.Reply asker (awaited.Asked false)) wanted so_far e tt

served_stay : (h : List Entry) (user : List ℕ) (version : Version) (asked : Subscription) (messages : List Message) (fronts : List ℕ) (m : Machine) (r : Running) (asker : Asker) (read : Request)
    → Offering h user version asked messages fronts m → m.feed ≡ Some r → After h user version asked messages fronts m (on_served m asker read)
served_stay h user version asked messages fronts m r asker (request.GetCheckpoint client) so_far e =
    asks_stay h user version asked messages fronts m r (pending.Reply asker awaited.Got) (want.GetCheckpoint client) so_far e tt
served_stay h user version asked messages fronts m r asker (request.SetCheckpoint client rev body) so_far e =
    asks_stay h user version asked messages fronts m r (pending.Reply asker awaited.Set) (want.SetCheckpoint client rev body) so_far e tt
served_stay h user version asked messages fronts m r asker (request.SubChanges since continuous batch options) so_far e =
    second_feed h user version asked (record { asker = asker; since = since; continuous = continuous; batch = batch; options = options }) messages fronts m r so_far e
served_stay h user version asked messages fronts m r asker (request.Changes offers) so_far e = changes_stay h user version asked messages fronts m r asker (want.Ask offers) m.strict so_far e
served_stay h user version asked messages fronts m r asker (request.ProposeChanges offers) so_far e =
    asks_stay h user version asked messages fronts m r (pending.Reply asker (awaited.Asked true)) (want.Ask offers) so_far e tt
served_stay h user version asked messages fronts m r asker (request.Rev revision) so_far e =
    asks_stay h user version asked messages fronts m r (pending.Reply asker awaited.Pushed) (want.Propose revision) so_far e tt

request_stay : (h : List Entry) (user : List ℕ) (version : Version) (asked : Subscription) (messages : List Message) (fronts : List ℕ) (m : Machine) (r : Running) (message : Message) (read : Result Request RequestFault)
    → Offering h user version asked messages fronts m → m.feed ≡ Some r → After h user version asked messages fronts m (on_request m message read)
request_stay h user version asked messages fronts m r message (Err fault) so_far e = refused_stay h user version asked messages fronts m r (asker_of message) (error_of fault) so_far e
request_stay h user version asked messages fronts m r message (Ok read) so_far e = served_stay h user version asked messages fronts m r (asker_of message) read so_far e

wanted_stay : (h : List Entry) (user : List ℕ) (version : Version) (asked : Subscription) (messages : List Message) (fronts : List ℕ) (m : Machine) (r : Running) (message : Message) (rows : List Row)
    → Offering h user version asked messages fronts m → m.feed ≡ Some r → After h user version asked messages fronts m (on_wanted m message r rows)
wanted_stay h user version asked messages fronts m r message [] so_far e = rows_answered h user version asked messages fronts m r [] m.requests so_far e tt
wanted_stay h user version asked messages fronts m r message (row ∷ rows) so_far e = asks_stay h user version asked messages fronts m r (pending.Bodies (row ∷ rows)) (want.Bodies r.options (row ∷ rows) (most_ancestors message)) so_far e tt

reply_with : (h : List Entry) (user : List ℕ) (version : Version) (asked : Subscription) (messages : List Message) (fronts : List ℕ) (m : Machine) (r : Running) (message : Message) (b : Bool)
    → Offering h user version asked messages fronts m → m.feed ≡ Some r → After h user version asked messages fronts m (if b then on_wanted m message r (wanted_of r message) else puts m [])
reply_with h user version asked messages fronts m r message true so_far e = wanted_stay h user version asked messages fronts m r message (wanted_of r message) so_far e
reply_with h user version asked messages fronts m r message false so_far e = puts_stay h user version asked messages fronts m r [] so_far e tt

message_stay : (h : List Entry) (user : List ℕ) (version : Version) (asked : Subscription) (messages : List Message) (fronts : List ℕ) (m : Machine) (r : Running) (message : Message) (done : Done) (b : Bool)
    → Offering h user version asked messages fronts m → m.feed ≡ Some r → DoesByMessage b m message done → After h user version asked messages fronts m done
message_stay h user version asked messages fronts m r message done true so_far e (read, is, does) =
    subst (After h user version asked messages fronts m) (sym does) (request_stay h user version asked messages fronts m r message read so_far e)
message_stay h user version asked messages fronts m r message done false so_far e does =
    subst (After h user version asked messages fronts m) (sym (does ∙ ap (on_reply m message) e)) (reply_with h user version asked messages fronts m r message (answers r message) so_far e)

-- ---- answers

-- a feed has the rows of its next look
more_rows : (h : List Entry) (user : List ℕ) (version : Version) (asked : Subscription) (messages : List Message) (fronts : List ℕ) (m : Machine) (r : Running) (front : ℕ) (rows : List Row)
    → Offering h user version asked messages fronts m → m.feed ≡ Some r → m.pending ≡ pending.More → rows ≡ feed (past h front) user (plain r.front) r.options
    → After h user version asked messages (front ∷ fronts) m (goes_on_feed m [] m.requests (record r { rows = rows; front = front }))
more_rows h user version asked messages fronts m r front rows so_far e awaited is =
    let f : Runs asked fronts (Some r) pending.More = subst (Runs asked fronts (Some r)) awaited (facts h user version asked messages fronts m r so_far e) in
    let all : so_far.offered ≡ feed_rows_at h user asked.since asked.options fronts =
    sym (append-nil so_far.offered) ∙ ap (λ rs. so_far.offered ++ rs) (sym (drop_none r.batch r.rows (none_left r.rows f.2)) ∙ ap not_offered (sym e)) ∙ so_far.sum in
    let sum : so_far.offered ++ rows ≡ feed_rows_at h user asked.since asked.options (front ∷ r.front ∷ f.1.0) =
    ap (λ rs. rs ++ rows) (all ∙ ap (feed_rows_at h user asked.since asked.options) f.1.1)
    ∙ ap (λ rs. feed_rows_at h user asked.since asked.options (r.front ∷ f.1.0) ++ rs) (is ∙ ap (feed (past h front) user (plain r.front)) f.0) in
    goes h user version asked messages (front ∷ fronts) m [] m.requests (record r { rows = rows; front = front }) so_far.offered so_far.are
    (sum ∙ ap (λ fs. feed_rows_at h user asked.since asked.options (front ∷ fs)) (sym f.1.1)) f.0 (fronts, refl) so_far.user_is so_far.version_is tt

abbrev feed_by : List Entry → List ℕ → ℕ → Option Running → List Row
feed_by h user front None = []
feed_by h user front (Some r) = feed (past h front) user (next_since r) r.options

by_look : (h : List Entry) (user : List ℕ) (r : Running) (front : ℕ) (rows : List Row) (feed_runs : Option Running) (wanted : Option Want) → feed_runs ≡ Some r → WantsFor feed_runs pending.More wanted
    → (program : Program) (strict : Bool) → IsRight h user program strict wanted (event.Fed (fed.Rows front rows)) → rows ≡ feed (past h front) user (plain r.front) r.options
by_look h user r front rows None wanted e w program strict right = absurd (none-some r e)
by_look h user r front rows (Some s) None e w program strict right = absurd w
by_look h user r front rows (Some s) (Some (want.Feed since options)) e (since_is, options_is) program strict (bound, rows_are) =
    rows_are ∙ ap (λ k. feed (past h front) user k options) since_is ∙ ap (feed (past h front) user (next_since s)) options_is
    ∙ ap (λ (o : Option Running). feed_by h user front o) e
by_look h user r front rows (Some s) (Some (want.Bodies options wanted most)) e w program strict right = absurd w
by_look h user r front rows (Some s) (Some (want.Ask offers)) e w program strict right = absurd w
by_look h user r front rows (Some s) (Some (want.Propose revision)) e w program strict right = absurd w
by_look h user r front rows (Some s) (Some (want.GetCheckpoint client)) e w program strict right = absurd w
by_look h user r front rows (Some s) (Some (want.SetCheckpoint client rev body)) e w program strict right = absurd w

fed_stay : (h : List Entry) (user : List ℕ) (version : Version) (program : Program) (strict : Bool) (asked : Subscription) (messages : List Message) (fronts : List ℕ) (m : Machine) (r : Running) (answer : Fed) (wanted : Option Want) (awaited : Pending)
    → Offering h user version asked messages fronts m → m.feed ≡ Some r → m.pending ≡ awaited → AwaitsBy m.feed awaited (event.Fed answer) → WantsFor m.feed awaited wanted → IsRight h user program strict wanted (event.Fed answer)
    → After h user version asked messages (front_of answer ∷ fronts) m (on_fed m answer awaited)
fed_stay h user version program strict asked messages fronts m r answer wanted pending.Nothing so_far e awaited_is a w right = absurd a
fed_stay h user version program strict asked messages fronts m r answer wanted (pending.Feed other) so_far e awaited_is a w right =
    absurd (subst (Waits r) awaited_is (facts h user version asked messages fronts m r so_far e).2)
fed_stay h user version program strict asked messages fronts m r (fed.Future front) wanted pending.More so_far e awaited_is a w right = absurd a
fed_stay h user version program strict asked messages fronts m r (fed.Rows front rows) wanted pending.More so_far e awaited_is a w right =
    subst (λ f. After h user version asked messages (front ∷ fronts) m (on_next_look m f (fed.Rows front rows))) (sym e)
    (more_rows h user version asked messages fronts m r front rows so_far e awaited_is (by_look h user r front rows m.feed wanted e w program strict right))
fed_stay h user version program strict asked messages fronts m r answer wanted (pending.Bodies rows) so_far e awaited_is a w right = absurd a
fed_stay h user version program strict asked messages fronts m r answer wanted (pending.Reply asker to) so_far e awaited_is a w right = absurd a

bodies_stay : (h : List Entry) (user : List ℕ) (version : Version) (asked : Subscription) (messages : List Message) (fronts : List ℕ) (m : Machine) (r : Running) (b : Bodies) (awaited : Pending)
    → Offering h user version asked messages fronts m → m.feed ≡ Some r → After h user version asked messages fronts m (on_bodies m b awaited)
bodies_stay h user version asked messages fronts m r b (pending.Bodies wanted) so_far e =
    subst (λ f. After h user version asked messages fronts m (on_bodies_of m b wanted f)) (sym e)
    (rows_answered h user version asked messages fronts m r (body_acts wanted b.answers) (m.requests + length wanted) so_far e (bodies_none wanted b.answers))
bodies_stay h user version asked messages fronts m r b pending.Nothing so_far e = puts_stay h user version asked messages fronts m r [] so_far e tt
bodies_stay h user version asked messages fronts m r b (pending.Feed other) so_far e = puts_stay h user version asked messages fronts m r [] so_far e tt
bodies_stay h user version asked messages fronts m r b pending.More so_far e = puts_stay h user version asked messages fronts m r [] so_far e tt
bodies_stay h user version asked messages fronts m r b (pending.Reply asker to) so_far e = puts_stay h user version asked messages fronts m r [] so_far e tt

answer_stay : (h : List Entry) (user : List ℕ) (version : Version) (asked : Subscription) (messages : List Message) (fronts : List ℕ) (m : Machine) (r : Running) (answer : Event) (awaited : Pending)
    → Offering h user version asked messages fronts m → m.feed ≡ Some r → After h user version asked messages fronts m (on_answer m answer awaited)
answer_stay h user version asked messages fronts m r answer (pending.Reply asker to) so_far e =
    puts_stay h user version asked messages fronts m r (answer_act asker to answer) so_far e (answer_by (λ acts. OffersNone acts) tt (λ by kind payload none yes unnamed. reply_none by kind payload yes) asker to answer)
answer_stay h user version asked messages fronts m r answer pending.Nothing so_far e = puts_stay h user version asked messages fronts m r [] so_far e tt
answer_stay h user version asked messages fronts m r answer (pending.Feed other) so_far e = puts_stay h user version asked messages fronts m r [] so_far e tt
answer_stay h user version asked messages fronts m r answer pending.More so_far e = puts_stay h user version asked messages fronts m r [] so_far e tt
answer_stay h user version asked messages fronts m r answer (pending.Bodies rows) so_far e = puts_stay h user version asked messages fronts m r [] so_far e tt

idle_with : (h : List Entry) (user : List ℕ) (version : Version) (asked : Subscription) (messages : List Message) (fronts : List ℕ) (m : Machine) (r : Running) (b : Bool)
    → Offering h user version asked messages fronts m → m.feed ≡ Some r → is_none r.rows ≡ true → After h user version asked messages fronts m (if b then looks_again m [] m.requests r else puts m [])
idle_with h user version asked messages fronts m r true so_far e left = looks_stay h user version asked messages fronts m r [] m.requests r so_far e tt refl refl refl left
idle_with h user version asked messages fronts m r false so_far e left = puts_stay h user version asked messages fronts m r [] so_far e tt

idle_waits : (feed_runs : Option Running) (r : Running) (awaited : Pending) (front : ℕ) → feed_runs ≡ Some r → AwaitsBy feed_runs awaited (event.Idle front) → is_none r.rows ≡ true
idle_waits feed_runs r pending.Nothing front e a = ap waits (sym e) ∙ a
idle_waits feed_runs r (pending.Feed other) front e a = absurd a
idle_waits feed_runs r pending.More front e a = absurd a
idle_waits feed_runs r (pending.Bodies rows) front e a = absurd a
idle_waits feed_runs r (pending.Reply asker to) front e a = absurd a

-- ---- each event

event_stay : (h : List Entry) (user : List ℕ) (version : Version) (program : Program) (strict : Bool) (asked : Subscription) (messages : List Message) (fronts : List ℕ) (m : Machine) (r : Running) (x : Event) (done : Done) (wanted : Option Want)
    → Offering h user version asked messages fronts m → m.feed ≡ Some r → Awaits m x → DoesForEvent m x done → WantsFor m.feed m.pending wanted → IsRight h user program strict wanted x
    → After h user version asked messages (feed_look x ++ fronts) m done
event_stay h user version program strict asked messages fronts m r (event.Whole message) done wanted so_far e a does w right = message_stay h user version asked messages fronts m r message done (is_request message.kind) so_far e does
event_stay h user version program strict asked messages fronts m r (event.Idle front) done wanted so_far e a does w right =
    subst (After h user version asked messages fronts m) (sym (does ∙ ap (on_idle m front) e)) (idle_with h user version asked messages fronts m r (nat_lt r.front front) so_far e (idle_waits m.feed r m.pending front e a))
event_stay h user version program strict asked messages fronts m r (event.Fed answer) done wanted so_far e a does w right =
    subst (After h user version asked messages (front_of answer ∷ fronts) m) (sym does) (fed_stay h user version program strict asked messages fronts m r answer wanted m.pending so_far e refl a w right)
event_stay h user version program strict asked messages fronts m r (event.Bodies b) done wanted so_far e a does w right =
    subst (After h user version asked messages fronts m) (sym does) (bodies_stay h user version asked messages fronts m r b m.pending so_far e)
event_stay h user version program strict asked messages fronts m r (event.Asked answer) done wanted so_far e a does w right =
    subst (After h user version asked messages fronts m) (sym does) (answer_stay h user version asked messages fronts m r (event.Asked answer) m.pending so_far e)
event_stay h user version program strict asked messages fronts m r (event.Judged o) done wanted so_far e a does w right =
    subst (After h user version asked messages fronts m) (sym does) (answer_stay h user version asked messages fronts m r (event.Judged o) m.pending so_far e)
event_stay h user version program strict asked messages fronts m r (event.Got k) done wanted so_far e a does w right =
    subst (After h user version asked messages fronts m) (sym does) (answer_stay h user version asked messages fronts m r (event.Got k) m.pending so_far e)
event_stay h user version program strict asked messages fronts m r (event.Set answer) done wanted so_far e a does w right =
    subst (After h user version asked messages fronts m) (sym does) (answer_stay h user version asked messages fronts m r (event.Set answer) m.pending so_far e)

step_stay : (h : List Entry) (user : List ℕ) (version : Version) (program : Program) (strict : Bool) (asked : Subscription) (messages : List Message) (fronts : List ℕ) (m : Machine) (r : Running) (s : SessionStep) (after : Machine) (wanted : Option Want)
    → Offering h user version asked messages fronts m → m.feed ≡ Some r → Steps m s after → WantsFor m.feed m.pending wanted → IsRight h user program strict wanted s.event
    → Offering h user version asked (messages ++ s.puts) (feed_look s.event ++ fronts) after
step_stay h user version program strict asked messages fronts m r s after wanted so_far e made w right =
    subst (λ ms. Offering h user version asked (messages ++ ms) (feed_look s.event ++ fronts) after) (sym made.puts)
    (subst (Offering h user version asked (messages ++ messages_from (m.requests + 1) made.done.acts) (feed_look s.event ++ fronts)) (sym made.leads)
    (event_stay h user version program strict asked messages fronts m r s.event made.done wanted so_far e made.awaited made.does w right))

-- ---- all steps

-- what is wanted after steps is what is then awaited
wants_after : (user : List ℕ) (version : Version) (strict : Bool) (steps : List SessionStep) (m : Machine) → Leads (new_machine user version strict) steps m → WantsFor m.feed m.pending (wanted_after steps)
wants_after user version strict [] m leads = subst (λ (m : Machine). WantsFor m.feed m.pending None) (sym leads) tt
wants_after user version strict (s ∷ steps) m (before, leads, made) =
    subst (λ (m : Machine). WantsFor m.feed m.pending s.want) (sym made.leads)
    (subst (WantsFor made.done.after.feed made.done.after.pending) (sym made.want) (conducted before s.event made.done made.awaited made.does).wants)

same_user : (user : List ℕ) (version : Version) (strict : Bool) (steps : List SessionStep) (m : Machine) → Leads (new_machine user version strict) steps m → (m.user ≡ user) × (m.version ≡ version)
same_user user version strict [] m leads = (ap (λ (m : Machine). m.user) leads, ap (λ (m : Machine). m.version) leads)
same_user user version strict (s ∷ steps) m (before, leads, made) =
    let earlier : (before.user ≡ user) × (before.version ≡ version) = same_user user version strict steps before leads in
    let c = conducted before s.event made.done made.awaited made.does in
    (ap (λ (m : Machine). m.user) made.leads ∙ c.user ∙ earlier.0, ap (λ (m : Machine). m.version) made.leads ∙ c.version ∙ earlier.1)

leads_on : (start first : Machine) (earlier : List SessionStep) → Leads start earlier first → (more : List SessionStep) (m : Machine) → LeadsFeed first more m → Leads start (more ++ earlier) m
leads_on start first earlier leads [] m e = subst (Leads start earlier) (sym e) leads
leads_on start first earlier leads (s ∷ more) m (before, feeds, runs, made) = (before, leads_on start first earlier leads more before feeds, made)

-- a feed begins
rows_of_first : (h : List Entry) (user : List ℕ) (program : Program) (strict : Bool) (asked : Subscription) (front : ℕ) (rows : List Row) (feed_runs : Option Running) (wanted : Option Want)
    → WantsFor feed_runs (pending.Feed asked) wanted → IsRight h user program strict wanted (event.Fed (fed.Rows front rows)) → rows ≡ feed (past h front) user asked.since asked.options
rows_of_first h user program strict asked front rows feed_runs None w right = absurd w
rows_of_first h user program strict asked front rows feed_runs (Some (want.Feed since options)) (since_is, options_is) (bound, rows_are) =
    rows_are ∙ ap (λ k. feed (past h front) user k options) since_is ∙ ap (feed (past h front) user asked.since) options_is
rows_of_first h user program strict asked front rows feed_runs (Some (want.Bodies options wanted most)) w right = absurd w
rows_of_first h user program strict asked front rows feed_runs (Some (want.Ask offers)) w right = absurd w
rows_of_first h user program strict asked front rows feed_runs (Some (want.Propose revision)) w right = absurd w
rows_of_first h user program strict asked front rows feed_runs (Some (want.GetCheckpoint client)) w right = absurd w
rows_of_first h user program strict asked front rows feed_runs (Some (want.SetCheckpoint client rev body)) w right = absurd w

first_offer : (h : List Entry) (user : List ℕ) (version : Version) (program : Program) (strict : Bool) (asked : Subscription) (front : ℕ) (rows : List Row) (before : Machine) (s : SessionStep) (first : Machine) (wanted : Option Want)
    → before.user ≡ user → before.version ≡ version → before.pending ≡ pending.Feed asked → s.event ≡ event.Fed (fed.Rows front rows) → Steps before s first
    → WantsFor before.feed before.pending wanted → IsRight h user program strict wanted s.event
    → Offering h user version asked s.puts (front ∷ []) first
first_offer h user version program strict asked front rows before s first wanted user_is version_is awaited came made w right =
    let does : made.done ≡ on_first_look before asked (fed.Rows front rows) =
    subst (λ p. made.done ≡ on_fed before (fed.Rows front rows) p) awaited (subst (λ x. DoesForEvent before x made.done) came made.does) in
    let are : rows ≡ feed (past h front) user asked.since asked.options =
    rows_of_first h user program strict asked front rows before.feed wanted (subst (λ p. WantsFor before.feed p wanted) awaited w) (subst (IsRight h user program strict wanted) came right) in
    subst (λ ms. Offering h user version asked ms (front ∷ []) first) (sym made.puts)
    (subst (Offering h user version asked (messages_from (before.requests + 1) made.done.acts) (front ∷ [])) (sym made.leads)
    (subst (After h user version asked [] (front ∷ []) before) (sym does)
    (goes h user version asked [] (front ∷ []) before (acceptance_act asked.asker) before.requests (first_running asked rows front) [] refl are refl ([], refl) user_is version_is
    (reply_none asked.asker kinds.Rpy _ refl))))

-- one step more
one_more : (h : List Entry) (user : List ℕ) (version : Version) (program : Program) (strict : Bool) (asked : Subscription) (messages : List Message) (fronts : List ℕ) (before : Machine) (s : SessionStep) (after : Machine) (wanted : Option Want) (f : Option Running)
    → before.feed ≡ f → IsSome f → Offering h user version asked messages fronts before → Steps before s after → WantsFor before.feed before.pending wanted → IsRight h user program strict wanted s.event
    → Offering h user version asked (messages ++ s.puts) (feed_look s.event ++ fronts) after
one_more h user version program strict asked messages fronts before s after wanted None e runs so_far made w right = absurd (false≢true runs)
one_more h user version program strict asked messages fronts before s after wanted (Some r) e runs so_far made w right =
    step_stay h user version program strict asked messages fronts before r s after wanted so_far e made w right

-- and goes on
feed_goes : (h : List Entry) (user : List ℕ) (version : Version) (program : Program) (strict : Bool) (asked : Subscription) (earlier : List SessionStep) (s : SessionStep) (first : Machine)
    → Leads (new_machine user version strict) (s ∷ earlier) first → Offering h user version asked (put_by (s ∷ [])) (feed_looks (s ∷ [])) first
    → (more : List SessionStep) (m : Machine) → LeadsFeed first more m → AreRight h user program strict (more ++ s ∷ earlier)
    → Offering h user version asked (put_by (more ++ s ∷ [])) (feed_looks (more ++ s ∷ [])) m
feed_goes h user version program strict asked earlier s first leads begun [] m e right = subst (Offering h user version asked (put_by (s ∷ [])) (feed_looks (s ∷ []))) (sym e) begun
feed_goes h user version program strict asked earlier s first leads begun (t ∷ more) m (before, feeds, runs, made) right =
    one_more h user version program strict asked (put_by (more ++ s ∷ [])) (feed_looks (more ++ s ∷ [])) before t m (wanted_after (more ++ s ∷ earlier)) before.feed refl runs
    (feed_goes h user version program strict asked earlier s first leads begun more before feeds right.1) made
    (wants_after user version strict (more ++ s ∷ earlier) before (leads_on (new_machine user version strict) first (s ∷ earlier) leads more before feeds)) right.0

begins : (h : List Entry) (user : List ℕ) (version : Version) (program : Program) (strict : Bool) (asked : Subscription) (front : ℕ) (rows : List Row) (earlier : List SessionStep) (before : Machine) (s : SessionStep) (first : Machine)
    → Leads (new_machine user version strict) earlier before → before.pending ≡ pending.Feed asked → s.event ≡ event.Fed (fed.Rows front rows) → Steps before s first → AreRight h user program strict (s ∷ earlier)
    → Offering h user version asked (put_by (s ∷ [])) (feed_looks (s ∷ [])) first
begins h user version program strict asked front rows earlier before s first leads awaited came made right =
    subst (λ fs. Offering h user version asked s.puts fs first) (ap (λ x. feed_look x ++ []) (sym came))
    (first_offer h user version program strict asked front rows before s first (wanted_after earlier) (same_user user version strict earlier before leads).0 (same_user user version strict earlier before leads).1
    awaited came made (wants_after user version strict earlier before leads) right.0)

right_before : (h : List Entry) (user : List ℕ) (program : Program) (strict : Bool) (more earlier : List SessionStep) → AreRight h user program strict (more ++ earlier) → AreRight h user program strict earlier
right_before h user program strict [] earlier right = right
right_before h user program strict (s ∷ more) earlier (one, right) = right_before h user program strict more earlier right

offers_are : (h : List Entry) (user : List ℕ) (version : Version) (program : Program) (strict : Bool) (asked : Subscription) (front : ℕ) (rows : List Row) (earlier more : List SessionStep) (before first after : Machine) (s : SessionStep)
    → Leads (new_machine user version strict) earlier before → before.pending ≡ pending.Feed asked → s.event ≡ event.Fed (fed.Rows front rows) → Steps before s first
    → LeadsFeed first more after → AreRight h user program strict (more ++ s ∷ earlier)
    → (offered : List Row) × AreRowsOffered version (put_by (more ++ s ∷ [])) offered
    × (offered ++ not_offered after.feed ≡ feed_rows_at h user asked.since asked.options (feed_looks (more ++ s ∷ [])))
offers_are h user version program strict asked front rows earlier more before first after s leads awaited came made feeds right =
    let all : Offering h user version asked (put_by (more ++ s ∷ [])) (feed_looks (more ++ s ∷ [])) after =
    feed_goes h user version program strict asked earlier s first (before, leads, made)
    (begins h user version program strict asked front rows earlier before s first leads awaited came made (right_before h user program strict more (s ∷ earlier) right)) more after feeds right in
    (all.offered, all.are, all.sum)

pub offers_are_rows : (h : List Entry) (user : List ℕ) (version : Version) (program : Program) (strict : Bool) (earlier : List SessionStep) (begin : SessionStep) (more : List SessionStep) (after : Machine)
    → (f : RunsFeed user version strict earlier begin more after) → AreRight h user program strict (more ++ begin ∷ earlier)
    → (offered : List Row) × AreRowsOffered version (put_by (more ++ begin ∷ [])) offered
    × (offered ++ not_offered after.feed ≡ feed_rows_at h user f.asked.since f.asked.options (feed_looks (more ++ begin ∷ [])))
offers_are_rows h user version program strict earlier begin more after f right =
    offers_are h user version program strict f.asked f.front f.rows earlier more f.before f.first after begin f.leads f.awaited f.event f.begins f.runs right
