-- What always holds of what a session does.
use Rattle.std.proofs.Common.{◌≡◌, ◌⊎◌, inl, inr, ◌≤◌, ◌<◌, ℕ, suc, ◌+◌, Bool, true, false, ◌&&◌, nat_lt, List, [], ◌∷◌, ◌++◌, length, take, Option, Some, None, Result, Ok, Err, refl, sym, ◌∙◌, ap, subst, if◌then◌else◌, arith, add-zero}
use Rattle.std.proofs.lemmas.Bool.{false≢true}
use Rattle.blip_frame.specs.declared.frame.Kind.{Kind}
use Rattle.blip_frame.specs.declared.frame.Kind.TheVariants as kinds
use Rattle.blip_frame.specs.declared.payload.Payload.{Payload}
use Rattle.blip_mux.specs.declared.message.Message.{Message}
use Rattle.blip_mux.specs.Joining.{is_request, is_reply}
use Rattle.sg_history.specs.declared.row.Row.{Row}
use Rattle.repl_messages.specs.declared.request.Version.{Version}
use Rattle.repl_messages.specs.declared.request.Request.{Request}
use Rattle.repl_messages.specs.declared.request.Request.TheVariants as request
use Rattle.repl_messages.specs.declared.request.RequestFault.{RequestFault}
use Rattle.repl_messages.specs.declared.error.ErrorKind.{ErrorKind}
use Rattle.repl_messages.specs.declared.error.ErrorKind.TheVariants as errors
use Rattle.repl_messages.specs.declared.looks.Body.{Body}
use Rattle.repl_messages.specs.declared.looks.Body.TheVariants as body
use Rattle.repl_messages.specs.declared.looks.Bodies.{Bodies}
use Rattle.repl_messages.specs.declared.looks.Fed.{Fed}
use Rattle.repl_messages.specs.declared.looks.Fed.TheVariants as fed
use Rattle.repl_messages.specs.declared.offers.Offer.{Offer}
use Rattle.repl_messages.specs.Answers.{answers_payload}
use Rattle.repl_messages.specs.Checkpoints.{checkpoint_payload}
use Rattle.repl_messages.specs.Errors.{ok_payload, error_payload}
use Rattle.repl_messages.specs.Looks.{front_of}
use Rattle.repl_messages.specs.Wanted.{wanted_rows, reply_items}
use Rattle.doc_board.specs.Errors.{outcome_error}
use Rattle.checkpoint_store.specs.declared.answers.Kept0.TheVariants as kept0
use Rattle.checkpoint_store.specs.declared.answers.SetAnswer.TheVariants as set
use Rattle.session_core.specs.declared.act.Act.{Act}
use Rattle.session_core.specs.declared.act.Act.TheVariants as act
use Rattle.session_core.specs.declared.act.Want.{Want}
use Rattle.session_core.specs.declared.act.Want.TheVariants as want
use Rattle.session_core.specs.declared.event.Event.{Event}
use Rattle.session_core.specs.declared.event.Event.TheVariants as event
use Rattle.session_core.specs.declared.replies.Asker.{Asker}
use Rattle.session_core.specs.declared.replies.Awaited.{Awaited}
use Rattle.session_core.specs.declared.replies.Awaited.TheVariants as awaited
use Rattle.session_core.specs.declared.machine.Subscription.{Subscription}
use Rattle.session_core.specs.declared.machine.Pending.{Pending}
use Rattle.session_core.specs.declared.machine.Pending.TheVariants as pending
use Rattle.session_core.specs.Acts.{flagged_rows, reply_act, refusal_act, refusal_by, acceptance_act, is_proposed, answer_act, error_of, body_act, body_acts, offer_act}
use Rattle.session_core.specs.Conduct.{AreOnOffer, IsWanted, requests_among, are_requests, AreAnswers, due_with, due_at, IsStillDue, feed_front, WantsFor, most_answers, is_answer, AreWithin, IsKept}
use Rattle.session_core.specs.Fronts.{front_by}
use Rattle.session_core.specs.Running.{Running, rest, is_none, is_silent, next_acts, next_requests, next_feed_with}
use Rattle.session_core.specs.State.{Machine, AwaitsBy, Awaits, IsReply}
use Rattle.session_core.specs.Transitions.{Done, puts, asks, goes_on_feed, looks_again, answered_by, asker_of, refused, on_sub_changes, on_changes, on_served, on_request, answers, wanted_of, most_ancestors, on_wanted, on_reply, first_running, on_first_look, on_next_look, on_fed, on_bodies_of, on_bodies, on_answer, on_idle, DoesForEvent, DoesByMessage}
use Rattle.session_core.proofs.Awaiting.{awaits_reply}

-- ---- acts

requests_on : (acts more : List Act) → are_requests acts ≡ true → are_requests more ≡ true → are_requests (acts ++ more) ≡ true
requests_on [] more a b = b
requests_on (act.Reply to kind urgent payload ∷ acts) more a b = absurd (false≢true a)
requests_on (act.Request payload no_reply ∷ acts) more a b = requests_on acts more a b
requests_on (act.Want want ∷ acts) more a b = absurd (false≢true a)

answers_on : (due : Option ℕ) (acts more : List Act) → AreAnswers due acts → are_requests more ≡ true → AreAnswers due (acts ++ more)
answers_on due [] [] a b = tt
answers_on due [] (act.Reply to kind urgent payload ∷ more) a b = absurd (false≢true b)
answers_on due [] (act.Request payload no_reply ∷ more) a b = b
answers_on due [] (act.Want want ∷ more) a b = absurd (false≢true b)
answers_on due (act.Reply to kind urgent payload ∷ acts) more (is, reply, requests) b = (is, reply, requests_on acts more requests b)
answers_on due (act.Request payload no_reply ∷ acts) more a b = requests_on acts more a b
answers_on due (act.Want want ∷ acts) more a b = absurd a

count_on : (acts more : List Act) → requests_among (acts ++ more) ≡ requests_among acts + requests_among more
count_on [] more = omega arith
count_on (act.Reply to kind urgent payload ∷ acts) more = count_on acts more
count_on (act.Request payload no_reply ∷ acts) more = omega (arith, count_on acts more)
count_on (act.Want want ∷ acts) more = count_on acts more

-- the reply to a request
reply_due : (asker : Asker) (kind : Kind) (payload : Payload) → is_reply kind ≡ true → AreAnswers (Some asker.number) (reply_act asker kind payload)
reply_due asker kind payload is =
    elim (asker.no_reply) as (λ b. AreAnswers (Some asker.number) (if b then [] else act.Reply asker.number kind asker.urgent payload ∷ []))
    [ true ↦ tt | false ↦ (refl, is, refl) ]

reply_count : (asker : Asker) (kind : Kind) (payload : Payload) → requests_among (reply_act asker kind payload) ≡ 0
reply_count asker kind payload =
    elim (asker.no_reply) as (λ b. requests_among (if b then [] else act.Reply asker.number kind asker.urgent payload ∷ []) ≡ 0)
    [ true ↦ refl | false ↦ refl ]

-- the next offer of a feed
next_requested : (version : Version) (r : Running) → are_requests (next_acts version r) ≡ true
next_requested version r =
    elim (is_silent r) as (λ b. are_requests (if b then [] else offer_act r.rows r.batch version ∷ []) ≡ true)
    [ true ↦ refl | false ↦ refl ]

next_counted : (version : Version) (requests : ℕ) (r : Running) → next_requests requests r ≡ requests + requests_among (next_acts version r)
next_counted version requests r =
    elim (is_silent r) as (λ b. (if b then requests else requests + 1) ≡ requests + requests_among (if b then [] else offer_act r.rows r.batch version ∷ []))
    [ true ↦ omega arith | false ↦ omega arith ]

-- bodies
one_body : (row : Row) (b : Body) (acts : List Act) → are_requests (body_act row b ∷ acts) ≡ are_requests acts
one_body row (body.Rev ancestors bytes) acts = refl
one_body row body.Removed acts = refl
one_body row body.NoRev acts = refl

bodies_requested : (rows : List Row) (bodies : List Body) → are_requests (body_acts rows bodies) ≡ true
bodies_requested [] bodies = refl
bodies_requested (row ∷ rows) [] = refl
bodies_requested (row ∷ rows) (b ∷ bodies) = one_body row b (body_acts rows bodies) ∙ bodies_requested rows bodies

count_one : (row : Row) (b : Body) (acts : List Act) → requests_among (body_act row b ∷ acts) ≡ suc (requests_among acts)
count_one row (body.Rev ancestors bytes) acts = omega arith
count_one row body.Removed acts = omega arith
count_one row body.NoRev acts = omega arith

bodies_counted : (rows : List Row) (bodies : List Body) → length bodies ≡ length rows → requests_among (body_acts rows bodies) ≡ length rows
bodies_counted [] bodies e = refl
bodies_counted (row ∷ rows) [] e = absurd (omega (arith, e))
bodies_counted (row ∷ rows) (b ∷ bodies) e = count_one row b (body_acts rows bodies) ∙ ap suc (bodies_counted rows bodies (omega (arith, e)))

requests_are_answers : (due : Option ℕ) (acts : List Act) → are_requests acts ≡ true → AreAnswers due acts
requests_are_answers due acts e = answers_on due [] acts tt e

-- ---- what is done at an event

-- all of it, given the reply that is due and the fronts that are seen
pub record Conducted (m : Machine) (due : Option ℕ) (fronts : List ℕ) (done : Done) : Type 0 where
  pub puts : AreAnswers due done.acts
  pub still : IsStillDue due done
  pub wants : WantsFor done.after.feed done.after.pending done.want
  pub user : done.after.user ≡ m.user
  pub version : done.after.version ≡ m.version
  pub strict : done.after.strict ≡ m.strict
  pub requests : done.after.requests ≡ m.requests + requests_among done.acts
  pub front : (most : ℕ) → feed_front m.feed ≤ most → AreWithin most fronts → feed_front done.after.feed ≤ most

puts_are : (m : Machine) (due : Option ℕ) (fronts : List ℕ) (acts : List Act) → AreAnswers due acts → requests_among acts ≡ 0 → Conducted m due fronts (puts m acts)
puts_are m due fronts acts are none = record {
  puts = are;
  still = inl refl;
  wants = tt;
  user = refl;
  version = refl;
  strict = refl;
  requests = omega (arith, none);
  front = λ most a b. a;
}

none_put : (m : Machine) (due : Option ℕ) (fronts : List ℕ) → Conducted m due fronts (puts m [])
none_put m due fronts = puts_are m due fronts [] tt refl

refusal : (m : Machine) (asker : Asker) (fronts : List ℕ) (error : ErrorKind) → Conducted m (Some asker.number) fronts (refused m asker error)
refusal m asker fronts error =
    puts_are m (Some asker.number) fronts (refusal_act asker error) (reply_due asker kinds.Err (error_payload error) refl) (reply_count asker kinds.Err (error_payload error))

still_due : (m : Machine) (due : Option ℕ) (awaited : Pending) (wanted : Want) → (due_with awaited ≡ None) ⊎ (due_with awaited ≡ due) → IsStillDue due (asks m awaited wanted)
still_due m due awaited wanted (inl none) = inl none
still_due m due awaited wanted (inr same) = inr (same, refl)

asks_for : (m : Machine) (due : Option ℕ) (fronts : List ℕ) (awaited : Pending) (wanted : Want)
    → (due_with awaited ≡ None) ⊎ (due_with awaited ≡ due) → WantsFor m.feed awaited (Some wanted)
    → Conducted m due fronts (asks m awaited wanted)
asks_for m due fronts awaited wanted is wants = record {
  puts = tt;
  still = still_due m due awaited wanted is;
  wants = wants;
  user = refl;
  version = refl;
  strict = refl;
  requests = sym (add-zero m.requests);
  front = λ most a b. a;
}

next_front : (rows : List Row) (requests : ℕ) (r : Running) (most : ℕ) → r.front ≤ most → feed_front (next_feed_with rows requests r) ≤ most
next_front [] requests r most a =
    elim (r.continuous) as (λ b. feed_front (if b then Some (record r { caught_up = true }) else None) ≤ most) [ true ↦ a | false ↦ omega arith ]
next_front (row ∷ rows) requests r most a = a

goes : (m : Machine) (due : Option ℕ) (fronts : List ℕ) (acts : List Act) (requests : ℕ) (r : Running)
    → AreAnswers due acts → requests ≡ m.requests + requests_among acts
    → ((most : ℕ) → feed_front m.feed ≤ most → AreWithin most fronts → r.front ≤ most)
    → Conducted m due fronts (goes_on_feed m acts requests r)
goes m due fronts acts requests r are counted within = record {
  puts = answers_on due acts (next_acts m.version r) are (next_requested m.version r);
  still = inl refl;
  wants = tt;
  user = refl;
  version = refl;
  strict = refl;
  requests = omega (arith, next_counted m.version requests r, counted, count_on acts (next_acts m.version r));
  front = λ most a b. next_front r.rows requests r most (within most a b);
}

looks : (m : Machine) (due : Option ℕ) (fronts : List ℕ) (acts : List Act) (requests : ℕ) (r : Running)
    → AreAnswers due acts → requests ≡ m.requests + requests_among acts
    → ((most : ℕ) → feed_front m.feed ≤ most → AreWithin most fronts → r.front ≤ most)
    → Conducted m due fronts (looks_again m acts requests r)
looks m due fronts acts requests r are counted within = record {
  puts = are;
  still = inl refl;
  wants = (refl, refl);
  user = refl;
  version = refl;
  strict = refl;
  requests = counted;
  front = λ most a b. within most a b;
}

are_answered : (b : Bool) (m : Machine) (due : Option ℕ) (fronts : List ℕ) (acts : List Act) (requests : ℕ) (r : Running)
    → AreAnswers due acts → requests ≡ m.requests + requests_among acts
    → ((most : ℕ) → feed_front m.feed ≤ most → AreWithin most fronts → r.front ≤ most)
    → Conducted m due fronts (answered_by b m acts requests r)
are_answered true m due fronts acts requests r are counted within = looks m due fronts acts requests r are counted within
are_answered false m due fronts acts requests r are counted within = goes m due fronts acts requests r are counted within

-- ---- messages

-- what is done at a request, but for the number of answers that may come
feed_asked : (m : Machine) (asked : Subscription) (feed : Option Running) → Conducted m (Some asked.asker.number) [] (on_sub_changes m asked feed)
feed_asked m asked None = asks_for m (Some asked.asker.number) [] (pending.Feed asked) (want.Feed asked.since asked.options) (inr refl) (refl, refl)
feed_asked m asked (Some r) = refusal m asked.asker [] errors.FeedRuns409

asked_for : (m : Machine) (asker : Asker) (to : Awaited) (wanted : Want) → IsWanted to wanted → Conducted m (Some asker.number) [] (asks m (pending.Reply asker to) wanted)
asked_for m asker to wanted is = asks_for m (Some asker.number) [] (pending.Reply asker to) wanted (inr refl) is

offered : (b : Bool) (m : Machine) (asker : Asker) (offers : List Offer) → Conducted m (Some asker.number) [] (on_changes b m asker (want.Ask offers))
offered true m asker offers = refusal m asker [] errors.UsePropose409
offered false m asker offers = asked_for m asker (awaited.Asked false) (want.Ask offers) tt

served : (m : Machine) (asker : Asker) (r : Request) → Conducted m (Some asker.number) [] (on_served m asker r)
served m asker (request.GetCheckpoint client) = asked_for m asker awaited.Got (want.GetCheckpoint client) tt
served m asker (request.SetCheckpoint client rev body) = asked_for m asker awaited.Set (want.SetCheckpoint client rev body) tt
served m asker (request.SubChanges since continuous batch options) =
    feed_asked m (record { asker = asker; since = since; continuous = continuous; batch = batch; options = options }) m.feed
served m asker (request.Changes offers) = offered m.strict m asker offers
served m asker (request.ProposeChanges offers) = asked_for m asker (awaited.Asked true) (want.Ask offers) tt
served m asker (request.Rev revision) = asked_for m asker awaited.Pushed (want.Propose revision) tt

requested : (m : Machine) (message : Message) (read : Result Request RequestFault) → Conducted m (Some message.number) [] (on_request m message read)
requested m message (Err fault) = refusal m (asker_of message) [] (error_of fault)
requested m message (Ok r) = served m (asker_of message) r

within_rest : (m : Machine) (r : Running) → m.feed ≡ Some r → (most : ℕ) → feed_front m.feed ≤ most → AreWithin most [] → r.front ≤ most
within_rest m r e most a b = subst (λ f. feed_front f ≤ most) e a

wanted_rows_are : (m : Machine) (message : Message) (r : Running) (rows : List Row) → m.feed ≡ Some r → ((flags : List Bool) × (rows ≡ flagged_rows (take r.batch r.rows) flags)) → Conducted m None [] (on_wanted m message r rows)
wanted_rows_are m message r [] e some =
    are_answered (r.continuous && is_none (rest r).rows) m None [] [] m.requests (rest r) tt (sym (add-zero m.requests)) (within_rest m r e)
wanted_rows_are m message r (row ∷ rows) e some =
    asks_for m None [] (pending.Bodies (row ∷ rows)) (want.Bodies r.options (row ∷ rows) (most_ancestors message)) (inl refl)
    (refl, subst (λ f. AreOnOffer f r.options (row ∷ rows)) (sym e) (refl, some))

replied_with : (m : Machine) (message : Message) (r : Running) (b : Bool) → m.feed ≡ Some r → Conducted m None [] (if b then on_wanted m message r (wanted_of r message) else puts m [])
replied_with m message r true e = wanted_rows_are m message r (wanted_of r message) e (wanted_rows (length (take r.batch r.rows)) (reply_items message.kind message.payload.body), refl)
replied_with m message r false e = none_put m None []

replied : (m : Machine) (message : Message) (feed : Option Running) → m.feed ≡ feed → Conducted m None [] (on_reply m message feed)
replied m message None e = none_put m None []
replied m message (Some r) e = replied_with m message r (answers r message) e

by_message : (m : Machine) (message : Message) (done : Done) (b : Bool) → DoesByMessage b m message done → Conducted m (if b then Some message.number else None) [] done
by_message m message done true (read, is, e) = subst (Conducted m (Some message.number) []) (sym e) (requested m message read)
by_message m message done false e = subst (Conducted m None []) (sym e) (replied m message m.feed refl)

-- ---- answers

first_look : (m : Machine) (asked : Subscription) (answer : Fed) → Conducted m (Some asked.asker.number) (front_of answer ∷ []) (on_first_look m asked answer)
first_look m asked (fed.Future front) = refusal m asked.asker (front ∷ []) (errors.SincePast400 front)
first_look m asked (fed.Rows front rows) =
    goes m (Some asked.asker.number) (front ∷ []) (acceptance_act asked.asker) m.requests (first_running asked rows front)
    (reply_due asked.asker kinds.Rpy ok_payload refl)
    (omega (arith, reply_count asked.asker kinds.Rpy ok_payload))
    (λ most a b. b.0)

next_look : (m : Machine) (feed : Option Running) (answer : Fed) → Conducted m None (front_of answer ∷ []) (on_next_look m feed answer)
next_look m None answer = none_put m None (front_of answer ∷ [])
next_look m (Some r) (fed.Future front) = none_put m None (front ∷ [])
next_look m (Some r) (fed.Rows front rows) =
    goes m None (front ∷ []) [] m.requests (record r { rows = rows; front = front }) tt (sym (add-zero m.requests)) (λ most a b. b.0)

fed_to : (m : Machine) (answer : Fed) (awaited : Pending) → Conducted m (due_with awaited) (front_of answer ∷ []) (on_fed m answer awaited)
fed_to m answer pending.Nothing = none_put m None (front_of answer ∷ [])
fed_to m answer (pending.Feed asked) = first_look m asked answer
fed_to m answer pending.More = next_look m m.feed answer
fed_to m answer (pending.Bodies rows) = none_put m None (front_of answer ∷ [])
fed_to m answer (pending.Reply asker to) = none_put m (Some asker.number) (front_of answer ∷ [])

bodies_of : (m : Machine) (b : Bodies) (wanted : List Row) (feed : Option Running) → m.feed ≡ feed → length b.answers ≡ length wanted
    → Conducted m None (b.front ∷ []) (on_bodies_of m b wanted feed)
bodies_of m b wanted None e same = none_put m None (b.front ∷ [])
bodies_of m b wanted (Some r) e same =
    are_answered (r.continuous && is_none (rest r).rows) m None (b.front ∷ []) (body_acts wanted b.answers) (m.requests + length wanted) (rest r)
    (requests_are_answers None (body_acts wanted b.answers) (bodies_requested wanted b.answers))
    (ap (λ n. m.requests + n) (sym (bodies_counted wanted b.answers same)))
    (λ most a seen. subst (λ f. feed_front f ≤ most) e a)

bodied : (m : Machine) (b : Bodies) (awaited : Pending) → AwaitsBy m.feed awaited (event.Bodies b) → Conducted m (due_with awaited) (b.front ∷ []) (on_bodies m b awaited)
bodied m b pending.Nothing a = absurd a
bodied m b (pending.Feed asked) a = absurd a
bodied m b pending.More a = absurd a
bodied m b (pending.Bodies rows) a = bodies_of m b rows m.feed refl a
bodied m b (pending.Reply asker to) a = absurd a

reply_puts : (m : Machine) (asker : Asker) (fronts : List ℕ) (payload : Payload) → Conducted m (Some asker.number) fronts (puts m (reply_act asker kinds.Rpy payload))
reply_puts m asker fronts payload = puts_are m (Some asker.number) fronts (reply_act asker kinds.Rpy payload) (reply_due asker kinds.Rpy payload refl) (reply_count asker kinds.Rpy payload)

outcome_puts : (m : Machine) (asker : Asker) (fronts : List ℕ) (error : Option ErrorKind) → Conducted m (Some asker.number) fronts (puts m (refusal_by asker error))
outcome_puts m asker fronts None = reply_puts m asker fronts ok_payload
outcome_puts m asker fronts (Some error) = refusal m asker fronts error

answer_puts : (m : Machine) (asker : Asker) (to : Awaited) (fronts : List ℕ) (e : Event) → Conducted m (Some asker.number) fronts (puts m (answer_act asker to e))
answer_puts m asker to fronts (event.Whole message) = none_put m (Some asker.number) fronts
answer_puts m asker to fronts (event.Idle front) = none_put m (Some asker.number) fronts
answer_puts m asker to fronts (event.Fed answer) = none_put m (Some asker.number) fronts
answer_puts m asker to fronts (event.Bodies b) = none_put m (Some asker.number) fronts
answer_puts m asker to fronts (event.Asked answer) = reply_puts m asker fronts (answers_payload answer.answers (is_proposed to))
answer_puts m asker to fronts (event.Judged o) = outcome_puts m asker fronts (outcome_error o)
answer_puts m asker to fronts (event.Got (kept0.Found rev body)) = reply_puts m asker fronts (checkpoint_payload rev body)
answer_puts m asker to fronts (event.Got kept0.Absent404) = refusal m asker fronts errors.NoCheckpoint404
answer_puts m asker to fronts (event.Set (set.Set rev)) = reply_puts m asker fronts (checkpoint_payload rev [])
answer_puts m asker to fronts (event.Set (set.Conflict409 current)) = refusal m asker fronts (errors.Checkpoint409 current)
answer_puts m asker to fronts (event.Set (set.TooLarge413 bytes)) = refusal m asker fronts errors.TooLarge413
answer_puts m asker to fronts (event.Set set.Full503) = refusal m asker fronts errors.CheckpointsFull503
answer_puts m asker to fronts (event.Set set.Memory) = none_put m (Some asker.number) fronts

answered_to : (m : Machine) (e : Event) (fronts : List ℕ) (awaited : Pending) → Conducted m (due_with awaited) fronts (on_answer m e awaited)
answered_to m e fronts pending.Nothing = none_put m None fronts
answered_to m e fronts (pending.Feed asked) = none_put m (Some asked.asker.number) fronts
answered_to m e fronts pending.More = none_put m None fronts
answered_to m e fronts (pending.Bodies rows) = none_put m None fronts
answered_to m e fronts (pending.Reply asker to) = answer_puts m asker to fronts e

-- ---- idle moments

idled_with : (m : Machine) (front : ℕ) (r : Running) (b : Bool) → m.feed ≡ Some r → Conducted m None (front ∷ []) (if b then looks_again m [] m.requests r else puts m [])
idled_with m front r true e =
    looks m None (front ∷ []) [] m.requests r tt (sym (add-zero m.requests)) (λ most a seen. subst (λ f. feed_front f ≤ most) e a)
idled_with m front r false e = none_put m None (front ∷ [])

idled : (m : Machine) (front : ℕ) (feed : Option Running) → m.feed ≡ feed → Conducted m None (front ∷ []) (on_idle m front feed)
idled m front None e = none_put m None (front ∷ [])
idled m front (Some r) e = idled_with m front r (nat_lt r.front front) e

-- ---- how many answers may come

after_answered : (b : Bool) (m : Machine) (acts : List Act) (requests : ℕ) (r : Running) → most_answers (answered_by b m acts requests r).after.pending ≤ 1
after_answered true m acts requests r = omega arith
after_answered false m acts requests r = omega arith

after_bodies : (m : Machine) (b : Bodies) (wanted : List Row) (feed : Option Running) → most_answers (on_bodies_of m b wanted feed).after.pending ≤ 1
after_bodies m b wanted None = omega arith
after_bodies m b wanted (Some r) = after_answered (r.continuous && is_none (rest r).rows) m (body_acts wanted b.answers) (m.requests + length wanted) (rest r)

after_first : (m : Machine) (asked : Subscription) (answer : Fed) → most_answers (on_first_look m asked answer).after.pending ≤ 0
after_first m asked (fed.Future front) = omega arith
after_first m asked (fed.Rows front rows) = omega arith

after_next : (m : Machine) (feed : Option Running) (answer : Fed) → most_answers (on_next_look m feed answer).after.pending ≤ 0
after_next m None answer = omega arith
after_next m (Some r) (fed.Future front) = omega arith
after_next m (Some r) (fed.Rows front rows) = omega arith

fewer_fed : (m : Machine) (answer : Fed) (awaited : Pending) → AwaitsBy m.feed awaited (event.Fed answer) → most_answers (on_fed m answer awaited).after.pending < most_answers awaited
fewer_fed m answer pending.Nothing a = absurd a
fewer_fed m answer (pending.Feed asked) a = omega (arith, after_first m asked answer)
fewer_fed m answer pending.More a = omega (arith, after_next m m.feed answer)
fewer_fed m answer (pending.Bodies rows) a = absurd a
fewer_fed m answer (pending.Reply asker to) a = absurd a

fewer_bodies : (m : Machine) (b : Bodies) (awaited : Pending) → AwaitsBy m.feed awaited (event.Bodies b) → most_answers (on_bodies m b awaited).after.pending < most_answers awaited
fewer_bodies m b pending.Nothing a = absurd a
fewer_bodies m b (pending.Feed asked) a = absurd a
fewer_bodies m b pending.More a = absurd a
fewer_bodies m b (pending.Bodies rows) a = omega (arith, after_bodies m b rows m.feed)
fewer_bodies m b (pending.Reply asker to) a = absurd a

fewer_replied : (m : Machine) (e : Event) (awaited : Pending) → IsReply awaited → most_answers (on_answer m e awaited).after.pending < most_answers awaited
fewer_replied m e pending.Nothing is = absurd is
fewer_replied m e (pending.Feed asked) is = absurd is
fewer_replied m e pending.More is = absurd is
fewer_replied m e (pending.Bodies rows) is = absurd is
fewer_replied m e (pending.Reply asker to) is = omega arith

pub fewer : (m : Machine) (e : Event) (done : Done) → Awaits m e → DoesForEvent m e done → is_answer e ≡ true → most_answers done.after.pending < most_answers m.pending
fewer m (event.Whole message) done awaits does is = absurd (false≢true is)
fewer m (event.Idle front) done awaits does is = absurd (false≢true is)
fewer m (event.Fed answer) done awaits does is = subst (λ (d : Done). most_answers d.after.pending < most_answers m.pending) (sym does) (fewer_fed m answer m.pending awaits)
fewer m (event.Bodies b) done awaits does is = subst (λ (d : Done). most_answers d.after.pending < most_answers m.pending) (sym does) (fewer_bodies m b m.pending awaits)
fewer m (event.Asked answer) done awaits does is =
    subst (λ (d : Done). most_answers d.after.pending < most_answers m.pending) (sym does) (fewer_replied m (event.Asked answer) m.pending (awaits_reply m.feed m.pending (event.Asked answer) refl awaits))
fewer m (event.Judged o) done awaits does is =
    subst (λ (d : Done). most_answers d.after.pending < most_answers m.pending) (sym does) (fewer_replied m (event.Judged o) m.pending (awaits_reply m.feed m.pending (event.Judged o) refl awaits))
fewer m (event.Got k) done awaits does is =
    subst (λ (d : Done). most_answers d.after.pending < most_answers m.pending) (sym does) (fewer_replied m (event.Got k) m.pending (awaits_reply m.feed m.pending (event.Got k) refl awaits))
fewer m (event.Set answer) done awaits does is =
    subst (λ (d : Done). most_answers d.after.pending < most_answers m.pending) (sym does) (fewer_replied m (event.Set answer) m.pending (awaits_reply m.feed m.pending (event.Set answer) refl awaits))

-- ---- all of them

pub conducted : (m : Machine) (e : Event) (done : Done) → Awaits m e → DoesForEvent m e done → Conducted m (due_at m.pending e) (front_by e) done
conducted m (event.Whole message) done awaits does = by_message m message done (is_request message.kind) does
conducted m (event.Idle front) done awaits does = subst (Conducted m None (front ∷ [])) (sym does) (idled m front m.feed refl)
conducted m (event.Fed answer) done awaits does = subst (Conducted m (due_with m.pending) (front_of answer ∷ [])) (sym does) (fed_to m answer m.pending)
conducted m (event.Bodies b) done awaits does =
    subst (Conducted m (due_with m.pending) (b.front ∷ [])) (sym does) (bodied m b m.pending awaits)
conducted m (event.Asked answer) done awaits does =
    subst (Conducted m (due_with m.pending) (front_by (event.Asked answer))) (sym does) (answered_to m (event.Asked answer) (front_by (event.Asked answer)) m.pending)
conducted m (event.Judged o) done awaits does =
    subst (Conducted m (due_with m.pending) (front_by (event.Judged o))) (sym does) (answered_to m (event.Judged o) (front_by (event.Judged o)) m.pending)
conducted m (event.Got k) done awaits does =
    subst (Conducted m (due_with m.pending) (front_by (event.Got k))) (sym does) (answered_to m (event.Got k) (front_by (event.Got k)) m.pending)
conducted m (event.Set answer) done awaits does =
    subst (Conducted m (due_with m.pending) (front_by (event.Set answer))) (sym does) (answered_to m (event.Set answer) (front_by (event.Set answer)) m.pending)

pub kept : (m : Machine) (e : Event) (done : Done) → Awaits m e → DoesForEvent m e done → IsKept m e done
kept m e done awaits does =
    let c : Conducted m (due_at m.pending e) (front_by e) done = conducted m e done awaits does in
    record { user = c.user; version = c.version; strict = c.strict; requests = c.requests; front = c.front }
