-- What a session does for each event.
use Rattle.std.specs.Prelude.{◌≡◌, ℕ, ◌+◌, Bool, true, false, ◌&&◌, not, nat_lt, List, [], ◌∷◌, ◌++◌, length, take, codes, Option, Some, None, Result, Ok, Err, ◌==◌, if◌then◌else◌}
use Rattle.blip_frame.specs.Props.{value_at}
use Rattle.blip_mux.specs.declared.message.Message.{Message}
use Rattle.blip_mux.specs.Joining.{is_request, is_reply}
use Rattle.sg_history.specs.declared.row.Row.{Row}
use Rattle.repl_messages.specs.declared.request.Request.{Request}
use Rattle.repl_messages.specs.declared.request.Request.TheVariants as request
use Rattle.repl_messages.specs.declared.request.RequestFault.{RequestFault}
use Rattle.repl_messages.specs.declared.error.ErrorKind.{ErrorKind}
use Rattle.repl_messages.specs.declared.error.ErrorKind.TheVariants as errors
use Rattle.repl_messages.specs.declared.looks.Bodies.{Bodies}
use Rattle.repl_messages.specs.declared.looks.Fed.{Fed}
use Rattle.repl_messages.specs.declared.looks.Fed.TheVariants as fed
use Rattle.repl_messages.specs.Requests.{IsAnswer}
use Rattle.repl_messages.specs.Wanted.{wanted_rows, reply_items, max_history_of}
use Rattle.session_core.specs.declared.act.Act.{Act}
use Rattle.session_core.specs.declared.act.Acts.{Acts}
use Rattle.session_core.specs.declared.act.Want.{Want}
use Rattle.session_core.specs.declared.act.Want.TheVariants as want
use Rattle.session_core.specs.declared.event.Event.{Event}
use Rattle.session_core.specs.declared.event.Event.TheVariants as event
use Rattle.session_core.specs.declared.replies.Asker.{Asker}
use Rattle.session_core.specs.declared.replies.Awaited.TheVariants as awaited
use Rattle.session_core.specs.declared.machine.Subscription.{Subscription}
use Rattle.session_core.specs.declared.machine.Pending.{Pending}
use Rattle.session_core.specs.declared.machine.Pending.TheVariants as pending
use Rattle.session_core.specs.Acts.{refusal_act, acceptance_act, error_of, answer_act, body_acts, flagged_rows}
use Rattle.session_core.specs.Running.{Running, rest, is_none, next_since, next_acts, next_requests, next_feed}
use Rattle.session_core.specs.State.{Machine}

-- what is done at an event: the state after it, what is put, and what is wanted of the history
pub record Done : Type 0 where
  pub after : Machine
  pub acts : List Act
  pub want : Option Want

-- this is put, and no answer is awaited
abbrev pub puts : Machine → List Act → Done
puts m acts = record { after = record m { pending = pending.Nothing }; acts = acts; want = None }

-- nothing is put, and this answer is awaited
abbrev pub asks : Machine → Pending → Want → Done
asks m awaited wanted = record { after = record m { pending = awaited }; acts = []; want = Some wanted }

-- ---- feeds

-- the state once a feed has gone on, before which the gateway had put so many requests
abbrev pub going_on : Machine → ℕ → Running → Machine
going_on m requests r = record m { requests = next_requests requests r; feed = next_feed requests r; pending = pending.Nothing }

-- behind these acts, with which the gateway has put so many requests, a feed goes on
abbrev pub goes_on_feed : Machine → List Act → ℕ → Running → Done
goes_on_feed m acts requests r = record { after = going_on m requests r; acts = acts ++ next_acts m.version r; want = None }

-- a feed takes its next look
abbrev pub looks_again : Machine → List Act → ℕ → Running → Done
looks_again m acts requests r =
    record {
      after = record m { requests = requests; feed = Some r; pending = pending.More };
      acts = acts;
      want = Some (want.Feed (next_since r) r.options);
    }

-- the rows on offer are answered, of which these acts put the bodies: a continuous feed that has no rows left takes its next look at
-- once, and every other one goes on
abbrev pub answered_by : Bool → Machine → List Act → ℕ → Running → Done
answered_by true m acts requests r = looks_again m acts requests r
answered_by false m acts requests r = goes_on_feed m acts requests r

abbrev pub answer_done : Machine → List Act → ℕ → Running → Done
answer_done m acts requests r = answered_by (r.continuous && is_none r.rows) m acts requests r

-- ---- requests

abbrev pub asker_of : Message → Asker
asker_of m = record { number = m.number; urgent = m.urgent; no_reply = m.no_reply }

-- a request is refused
abbrev pub refused : Machine → Asker → ErrorKind → Done
refused m asker error = puts m (refusal_act asker error)

-- a feed is asked for: refused where one runs
abbrev pub on_sub_changes : Machine → Subscription → Option Running → Done
on_sub_changes m asked None = asks m (pending.Feed asked) (want.Feed asked.since asked.options)
on_sub_changes m asked (Some r) = refused m asked.asker errors.FeedRuns409

-- revisions are offered: by proposeChanges, or, unless conflicts are off, by changes
abbrev pub on_changes : Bool → Machine → Asker → Want → Done
on_changes true m asker wanted = refused m asker errors.UsePropose409
on_changes false m asker wanted = asks m (pending.Reply asker (awaited.Asked false)) wanted

-- a request that could be read
abbrev pub on_served : Machine → Asker → Request → Done
on_served m asker (request.GetCheckpoint client) = asks m (pending.Reply asker awaited.Got) (want.GetCheckpoint client)
on_served m asker (request.SetCheckpoint client rev body) =
    asks m (pending.Reply asker awaited.Set) (want.SetCheckpoint client rev body)
on_served m asker (request.SubChanges since continuous batch options) =
    on_sub_changes m (record { asker = asker; since = since; continuous = continuous; batch = batch; options = options }) m.feed
on_served m asker (request.Changes offers) = on_changes m.strict m asker (want.Ask offers)
on_served m asker (request.ProposeChanges offers) = asks m (pending.Reply asker (awaited.Asked true)) (want.Ask offers)
on_served m asker (request.Rev revision) = asks m (pending.Reply asker awaited.Pushed) (want.Propose revision)

abbrev pub on_request : Machine → Message → Result Request RequestFault → Done
on_request m message (Err fault) = refused m (asker_of message) (error_of fault)
on_request m message (Ok r) = on_served m (asker_of message) r

-- ---- replies

-- whether a message answers what a feed has on offer
abbrev pub answers : Running → Message → Bool
answers r m = not (is_none r.rows) && (is_reply m.kind && m.number == r.number)

-- the rows on offer that a reply wants
abbrev pub wanted_of : Running → Message → List Row
wanted_of r m = flagged_rows (take r.batch r.rows) (wanted_rows (length (take r.batch r.rows)) (reply_items m.kind m.payload.body))

-- how many ancestors of a revision a reply wants at most
abbrev pub most_ancestors : Message → ℕ
most_ancestors m = max_history_of (value_at m.payload.props (codes "maxHistory"))

-- the rows on offer are answered: none of them is wanted, or the bodies of these are
abbrev pub on_wanted : Machine → Message → Running → List Row → Done
on_wanted m message r [] = answer_done m [] m.requests (rest r)
on_wanted m message r (row ∷ rows) = asks m (pending.Bodies (row ∷ rows)) (want.Bodies r.options (row ∷ rows) (most_ancestors message))

-- a reply to what is on offer is taken; every other one is passed over
abbrev pub on_reply : Machine → Message → Option Running → Done
on_reply m message None = puts m []
on_reply m message (Some r) = if answers r message then on_wanted m message r (wanted_of r message) else puts m []

-- ---- answers of the history

-- the feed that is asked for, with the rows of its first look, at this front
abbrev pub first_running : Subscription → List Row → ℕ → Running
first_running asked rows front =
    record { rows = rows; batch = asked.batch; options = asked.options; continuous = asked.continuous; number = 0; front = front; caught_up = false }

-- a feed begins, after its reply; or its since key is past the front
abbrev pub on_first_look : Machine → Subscription → Fed → Done
on_first_look m asked (fed.Future front) = refused m asked.asker (errors.SincePast400 front)
on_first_look m asked (fed.Rows front rows) =
    goes_on_feed m (acceptance_act asked.asker) m.requests (first_running asked rows front)

-- a feed has the rows of its next look
abbrev pub on_next_look : Machine → Option Running → Fed → Done
on_next_look m (Some r) (fed.Rows front rows) = goes_on_feed m [] m.requests (record r { rows = rows; front = front })
on_next_look m feed answer = puts m []

abbrev pub on_fed : Machine → Fed → Pending → Done
on_fed m answer (pending.Feed asked) = on_first_look m asked answer
on_fed m answer pending.More = on_next_look m m.feed answer
on_fed m answer other = puts m []

-- the bodies of wanted rows are put
abbrev pub on_bodies_of : Machine → Bodies → List Row → Option Running → Done
on_bodies_of m b wanted None = puts m []
on_bodies_of m b wanted (Some r) = answer_done m (body_acts wanted b.answers) (m.requests + length wanted) (rest r)

abbrev pub on_bodies : Machine → Bodies → Pending → Done
on_bodies m b (pending.Bodies wanted) = on_bodies_of m b wanted m.feed
on_bodies m b other = puts m []

-- the request is answered for which this was wanted
abbrev pub on_answer : Machine → Event → Pending → Done
on_answer m answer (pending.Reply asker to) = puts m (answer_act asker to answer)
on_answer m answer other = puts m []

-- ---- idle moments

-- a feed takes its next look where the history has grown since its last one
abbrev pub on_idle : Machine → ℕ → Option Running → Done
on_idle m front None = puts m []
on_idle m front (Some r) = if nat_lt r.front front then looks_again m [] m.requests r else puts m []

-- ---- all of them

-- a request is read before it is answered
abbrev pub DoesByMessage : Bool → Machine → Message → Done → Type 0
DoesByMessage true m message done =
    (read : Result Request RequestFault) × IsAnswer message.payload m.version read × (done ≡ on_request m message read)
DoesByMessage false m message done = done ≡ on_reply m message m.feed

-- what a session does for an event
abbrev pub DoesForEvent : Machine → Event → Done → Type 0
DoesForEvent m (event.Whole message) done = DoesByMessage (is_request message.kind) m message done
DoesForEvent m (event.Idle front) done = done ≡ on_idle m front m.feed
DoesForEvent m (event.Fed answer) done = done ≡ on_fed m answer m.pending
DoesForEvent m (event.Bodies b) done = done ≡ on_bodies m b m.pending
DoesForEvent m other done = done ≡ on_answer m other m.pending

-- ---- what the machine answers

-- the state and the acts are those of what is done at an event
abbrev pub IsDone : Done → Machine → Acts → Type 0
IsDone done after acts = (done.after ≡ after) × (done.acts ≡ acts.puts.items) × (done.want ≡ acts.want)

-- the same of one that this holds of
abbrev pub IsDoneBy : (Done → Type 0) → Machine → Acts → Type 0
IsDoneBy By after acts = (done : Done) × By done × IsDone done after acts

-- the answer to the first look for a feed is awaited
abbrev pub AwaitsFirst : Pending → Type 0
AwaitsFirst (pending.Feed asked) = Unit {0}
AwaitsFirst other = ⊥

-- the feed that was asked for begins with these rows of a look at this front
abbrev pub BeginsBy : Machine → List Row → ℕ → Pending → Machine → Type 0
BeginsBy m rows front (pending.Feed asked) after = after ≡ going_on m m.requests (first_running asked rows front)
BeginsBy m rows front other after = ⊥
