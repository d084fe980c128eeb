-- Each request has its reply.
use Rattle.std.proofs.Common.{◌≡◌, ℕ, ◌+◌, Bool, true, false, ◌&&◌, nat_lt, List, [], ◌∷◌, ◌++◌, length, Option, Some, None, Result, Ok, Err, refl, sym, ◌∙◌, ap, subst, if◌then◌else◌, append-nil}
use Rattle.std.proofs.lemmas.Bool.{false≢true}
use Rattle.std.proofs.lemmas.List.{append_assoc}
use Rattle.blip_frame.specs.declared.frame.Kind.{Kind}
use Rattle.blip_frame.specs.declared.frame.Kind.TheVariants as kinds
use Rattle.blip_frame.specs.declared.payload.Payload.{Payload}
use Rattle.blip_mux.specs.declared.message.Message.{Message}
use Rattle.blip_mux.specs.Joining.{is_request, is_reply}
use Rattle.sg_history.specs.declared.row.Row.{Row}
use Rattle.repl_messages.specs.declared.request.Version.{Version}
use Rattle.repl_messages.specs.declared.request.Request.{Request}
use Rattle.repl_messages.specs.declared.request.Request.TheVariants as request
use Rattle.repl_messages.specs.declared.request.RequestFault.{RequestFault}
use Rattle.repl_messages.specs.declared.error.ErrorKind.{ErrorKind}
use Rattle.repl_messages.specs.declared.error.ErrorKind.TheVariants as errors
use Rattle.repl_messages.specs.declared.looks.Body.{Body}
use Rattle.repl_messages.specs.declared.looks.Body.TheVariants as body
use Rattle.repl_messages.specs.declared.looks.Bodies.{Bodies}
use Rattle.repl_messages.specs.declared.looks.Fed.{Fed}
use Rattle.repl_messages.specs.declared.looks.Fed.TheVariants as fed
use Rattle.repl_messages.specs.Answers.{answers_payload}
use Rattle.repl_messages.specs.Checkpoints.{checkpoint_payload}
use Rattle.repl_messages.specs.Errors.{ok_payload, error_payload}
use Rattle.checkpoint_store.specs.declared.answers.Kept0.TheVariants as kept0
use Rattle.checkpoint_store.specs.declared.answers.SetAnswer.TheVariants as set
use Rattle.doc_board.specs.Errors.{outcome_error}
use Rattle.session_core.specs.declared.act.Act.{Act}
use Rattle.session_core.specs.declared.act.Act.TheVariants as act
use Rattle.session_core.specs.declared.act.Want.{Want}
use Rattle.session_core.specs.declared.act.Want.TheVariants as want
use Rattle.session_core.specs.declared.event.Event.{Event}
use Rattle.session_core.specs.declared.event.Event.TheVariants as event
use Rattle.session_core.specs.declared.replies.Asker.{Asker}
use Rattle.session_core.specs.declared.replies.Awaited.{Awaited}
use Rattle.session_core.specs.declared.machine.Subscription.{Subscription}
use Rattle.session_core.specs.declared.machine.Pending.{Pending}
use Rattle.session_core.specs.declared.machine.Pending.TheVariants as pending
use Rattle.session_core.specs.Acts.{messages_from, reply_act, refusal_by, acceptance_act, is_proposed, answer_act, error_of, body_act, body_acts, offer_act}
use Rattle.session_core.specs.Conduct.{are_requests}
use Rattle.session_core.specs.Running.{Running, rest, is_none, is_silent, next_acts}
use Rattle.session_core.specs.State.{Machine, new_machine, AwaitsBy, IsAwaited, IsReply}
use Rattle.session_core.specs.Steps.{SessionStep, Steps, Leads, put_by}
use Rattle.session_core.specs.Transitions.{Done, puts, looks_again, answered_by, asker_of, refused, on_sub_changes, on_changes, on_served, on_request, answers, wanted_of, on_wanted, on_reply, first_running, on_first_look, on_next_look, on_fed, on_bodies_of, on_bodies, on_answer, on_idle, DoesForEvent, DoesByMessage}
use Rattle.session_core.proofs.Awaiting.{awaits_reply}
use Rattle.session_laws.specs.Exchanges.{wanting, asked_in, asked_at, asked_by, replied, owed}

-- ---- messages

replied_on : (ms ns : List Message) → replied (ms ++ ns) ≡ replied ms ++ replied ns
replied_on [] ns = refl
replied_on (m ∷ ms) ns =
    let one : List ℕ = if is_reply m.kind then m.number ∷ [] else [] in
    ap (λ (xs : List ℕ). one ++ xs) (replied_on ms ns) ∙ sym (append_assoc one (replied ms) (replied ns))

-- requests are no replies
requests_after : (n : ℕ) (acts more : List Act) → are_requests more ≡ true → replied (messages_from n (acts ++ more)) ≡ replied (messages_from n acts)
requests_after n [] [] are = refl
requests_after n [] (act.Reply to kind urgent payload ∷ more) are = absurd (false≢true are)
requests_after n [] (act.Request payload no_reply ∷ more) are = requests_after (n + 1) [] more are
requests_after n [] (act.Want want ∷ more) are = absurd (false≢true are)
requests_after n (act.Reply to kind urgent payload ∷ acts) more are =
    ap (λ (xs : List ℕ). (if is_reply kind then to ∷ [] else []) ++ xs) (requests_after n acts more are)
requests_after n (act.Request payload no_reply ∷ acts) more are = requests_after (n + 1) acts more are
requests_after n (act.Want want ∷ acts) more are = requests_after n acts more are

one_reply : (asker : Asker) (kind : Kind) (payload : Payload) → is_reply kind ≡ true → (n : ℕ) → replied (messages_from n (reply_act asker kind payload)) ≡ wanting asker.number asker.no_reply
one_reply asker kind payload is n =
    elim (asker.no_reply) as (λ b. replied (messages_from n (if b then [] else act.Reply asker.number kind asker.urgent payload ∷ [])) ≡ wanting asker.number b)
    [ true ↦ refl | false ↦ ap (λ b. (if b then asker.number ∷ [] else []) ++ []) is ]

next_requested : (version : Version) (r : Running) → are_requests (next_acts version r) ≡ true
next_requested version r =
    elim (is_silent r) as (λ b. are_requests (if b then [] else offer_act r.rows r.batch version ∷ []) ≡ true)
    [ true ↦ refl | false ↦ refl ]

one_body : (row : Row) (b : Body) (acts : List Act) → are_requests (body_act row b ∷ acts) ≡ are_requests acts
one_body row (body.Rev ancestors bytes) acts = refl
one_body row body.Removed acts = refl
one_body row body.NoRev acts = refl

bodies_requested : (rows : List Row) (bodies : List Body) → are_requests (body_acts rows bodies) ≡ true
bodies_requested [] bodies = refl
bodies_requested (row ∷ rows) [] = refl
bodies_requested (row ∷ rows) (b ∷ bodies) = one_body row b (body_acts rows bodies) ∙ bodies_requested rows bodies

-- ---- what is done at an event

-- the replies to these are put, or still owed
abbrev Answers : List ℕ → Done → Type 0
Answers due done = (n : ℕ) → replied (messages_from n done.acts) ++ owed done.after.pending ≡ due

replies_once : (m : Machine) (asker : Asker) (kind : Kind) (payload : Payload) → is_reply kind ≡ true → Answers (wanting asker.number asker.no_reply) (puts m (reply_act asker kind payload))
replies_once m asker kind payload is n = append-nil (replied (messages_from n (reply_act asker kind payload))) ∙ one_reply asker kind payload is n

refusal : (m : Machine) (asker : Asker) (error : ErrorKind) → Answers (wanting asker.number asker.no_reply) (refused m asker error)
refusal m asker error = replies_once m asker kinds.Err (error_payload error) refl

answered_none : (b : Bool) (m : Machine) (acts : List Act) (requests : ℕ) (r : Running) → are_requests acts ≡ true → Answers [] (answered_by b m acts requests r)
answered_none true m acts requests r are n = append-nil (replied (messages_from n acts)) ∙ requests_after n [] acts are
answered_none false m acts requests r are n =
    append-nil (replied (messages_from n (acts ++ next_acts m.version r))) ∙ requests_after n acts (next_acts m.version r) (next_requested m.version r)
    ∙ requests_after n [] acts are

-- ---- messages

feed_asked : (m : Machine) (asked : Subscription) (feed : Option Running) → Answers (wanting asked.asker.number asked.asker.no_reply) (on_sub_changes m asked feed)
feed_asked m asked None n = refl
feed_asked m asked (Some r) n = refusal m asked.asker errors.FeedRuns409 n

offered : (b : Bool) (m : Machine) (asker : Asker) (wanted : Want) → Answers (wanting asker.number asker.no_reply) (on_changes b m asker wanted)
offered true m asker wanted n = refusal m asker errors.UsePropose409 n
offered false m asker wanted n = refl

served : (m : Machine) (asker : Asker) (r : Request) → Answers (wanting asker.number asker.no_reply) (on_served m asker r)
served m asker (request.GetCheckpoint client) = λ n. refl
served m asker (request.SetCheckpoint client rev body) = λ n. refl
served m asker (request.SubChanges since continuous batch options) =
    feed_asked m (record { asker = asker; since = since; continuous = continuous; batch = batch; options = options }) m.feed
served m asker (request.Changes offers) = offered m.strict m asker (want.Ask offers)
served m asker (request.ProposeChanges offers) = λ n. refl
served m asker (request.Rev revision) = λ n. refl

requested : (m : Machine) (message : Message) (read : Result Request RequestFault) → Answers (wanting message.number message.no_reply) (on_request m message read)
requested m message (Err fault) = refusal m (asker_of message) (error_of fault)
requested m message (Ok r) = served m (asker_of message) r

wanted_rows_are : (m : Machine) (message : Message) (r : Running) (rows : List Row) → Answers [] (on_wanted m message r rows)
wanted_rows_are m message r [] = answered_none (r.continuous && is_none (rest r).rows) m [] m.requests (rest r) refl
wanted_rows_are m message r (row ∷ rows) = λ n. refl

reply_with : (m : Machine) (message : Message) (r : Running) (b : Bool) → Answers [] (if b then on_wanted m message r (wanted_of r message) else puts m [])
reply_with m message r true = wanted_rows_are m message r (wanted_of r message)
reply_with m message r false = λ n. refl

reply_taken : (m : Machine) (message : Message) (feed : Option Running) → Answers [] (on_reply m message feed)
reply_taken m message None = λ n. refl
reply_taken m message (Some r) = reply_with m message r (answers r message)

by_message : (m : Machine) (message : Message) (done : Done) (b : Bool) → DoesByMessage b m message done → Answers (if b then wanting message.number message.no_reply else []) done
by_message m message done true (read, is, e) = subst (Answers (wanting message.number message.no_reply)) (sym e) (requested m message read)
by_message m message done false e = subst (Answers []) (sym e) (reply_taken m message m.feed)

-- ---- answers of the history

first_look : (m : Machine) (asked : Subscription) (answer : Fed) → Answers (wanting asked.asker.number asked.asker.no_reply) (on_first_look m asked answer)
first_look m asked (fed.Future front) = refusal m asked.asker (errors.SincePast400 front)
first_look m asked (fed.Rows front rows) = λ n.
    append-nil (replied (messages_from n (acceptance_act asked.asker ++ next_acts m.version (first_running asked rows front))))
    ∙ requests_after n (acceptance_act asked.asker) (next_acts m.version (first_running asked rows front)) (next_requested m.version (first_running asked rows front))
    ∙ one_reply asked.asker kinds.Rpy ok_payload refl n

next_look : (m : Machine) (feed : Option Running) (answer : Fed) → Answers [] (on_next_look m feed answer)
next_look m None answer = λ n. refl
next_look m (Some r) (fed.Future front) = λ n. refl
next_look m (Some r) (fed.Rows front rows) = answered_none false m [] m.requests (record r { rows = rows; front = front }) refl

fed_to : (m : Machine) (answer : Fed) (awaited : Pending) → AwaitsBy m.feed awaited (event.Fed answer) → Answers (owed awaited) (on_fed m answer awaited)
fed_to m answer pending.Nothing a = absurd a
fed_to m answer (pending.Feed asked) a = first_look m asked answer
fed_to m answer pending.More a = next_look m m.feed answer
fed_to m answer (pending.Bodies rows) a = absurd a
fed_to m answer (pending.Reply asker to) a = absurd a

bodies_of : (m : Machine) (b : Bodies) (wanted : List Row) (feed : Option Running) → Answers [] (on_bodies_of m b wanted feed)
bodies_of m b wanted None = λ n. refl
bodies_of m b wanted (Some r) =
    answered_none (r.continuous && is_none (rest r).rows) m (body_acts wanted b.answers) (m.requests + length wanted) (rest r) (bodies_requested wanted b.answers)

bodied : (m : Machine) (b : Bodies) (awaited : Pending) → AwaitsBy m.feed awaited (event.Bodies b) → Answers (owed awaited) (on_bodies m b awaited)
bodied m b pending.Nothing a = absurd a
bodied m b (pending.Feed asked) a = absurd a
bodied m b pending.More a = absurd a
bodied m b (pending.Bodies rows) a = bodies_of m b rows m.feed
bodied m b (pending.Reply asker to) a = absurd a

outcome_is : (m : Machine) (asker : Asker) (error : Option ErrorKind) → Answers (wanting asker.number asker.no_reply) (puts m (refusal_by asker error))
outcome_is m asker None = replies_once m asker kinds.Rpy ok_payload refl
outcome_is m asker (Some error) = refusal m asker error

answer_replies : (m : Machine) (asker : Asker) (to : Awaited) (e : Event) → IsAwaited e to → Answers (wanting asker.number asker.no_reply) (puts m (answer_act asker to e))
answer_replies m asker to (event.Whole message) a = absurd a
answer_replies m asker to (event.Idle front) a = absurd a
answer_replies m asker to (event.Fed answer) a = absurd a
answer_replies m asker to (event.Bodies b) a = absurd a
answer_replies m asker to (event.Asked answer) a = replies_once m asker kinds.Rpy (answers_payload answer.answers (is_proposed to)) refl
answer_replies m asker to (event.Judged o) a = outcome_is m asker (outcome_error o)
answer_replies m asker to (event.Got (kept0.Found rev body)) a = replies_once m asker kinds.Rpy (checkpoint_payload rev body) refl
answer_replies m asker to (event.Got kept0.Absent404) a = refusal m asker errors.NoCheckpoint404
answer_replies m asker to (event.Set (set.Set rev)) a = replies_once m asker kinds.Rpy (checkpoint_payload rev []) refl
answer_replies m asker to (event.Set (set.Conflict409 current)) a = refusal m asker (errors.Checkpoint409 current)
answer_replies m asker to (event.Set (set.TooLarge413 bytes)) a = refusal m asker errors.TooLarge413
answer_replies m asker to (event.Set set.Full503) a = refusal m asker errors.CheckpointsFull503
answer_replies m asker to (event.Set set.Memory) a = absurd a

answered_to : (m : Machine) (e : Event) (awaited : Pending) → IsReply awaited → AwaitsBy m.feed awaited e → Answers (owed awaited) (on_answer m e awaited)
answered_to m e pending.Nothing is a = absurd is
answered_to m e (pending.Feed asked) is a = absurd is
answered_to m e pending.More is a = absurd is
answered_to m e (pending.Bodies rows) is a = absurd is
answered_to m e (pending.Reply asker to) is a = answer_replies m asker to e a

idled_with : (m : Machine) (front : ℕ) (feed : Option Running) → Answers [] (on_idle m front feed)
idled_with m front None n = refl
idled_with m front (Some r) n =
    elim (nat_lt r.front front) as (λ b. replied (messages_from n (if b then looks_again m [] m.requests r else puts m []).acts)
    ++ owed (if b then looks_again m [] m.requests r else puts m []).after.pending ≡ [])
    [ true ↦ refl | false ↦ refl ]

-- while no answer is awaited none is owed
none_owed : (feed : Option Running) (message : Message) (awaited : Pending) → AwaitsBy feed awaited (event.Whole message) → owed awaited ≡ []
none_owed feed message pending.Nothing a = refl
none_owed feed message (pending.Feed asked) a = absurd a
none_owed feed message pending.More a = absurd a
none_owed feed message (pending.Bodies rows) a = absurd a
none_owed feed message (pending.Reply asker to) a = absurd a

idle_owed : (feed : Option Running) (front : ℕ) (awaited : Pending) → AwaitsBy feed awaited (event.Idle front) → owed awaited ≡ []
idle_owed feed front pending.Nothing a = refl
idle_owed feed front (pending.Feed asked) a = absurd a
idle_owed feed front pending.More a = absurd a
idle_owed feed front (pending.Bodies rows) a = absurd a
idle_owed feed front (pending.Reply asker to) a = absurd a

-- ---- each event

still_owed : (due : List ℕ) (done : Done) → Answers due done → Answers (due ++ []) done
still_owed due done is n = is n ∙ sym (append-nil due)

event_replied : (m : Machine) (x : Event) (done : Done) → AwaitsBy m.feed m.pending x → DoesForEvent m x done → Answers (owed m.pending ++ asked_at x) done
event_replied m (event.Whole message) done a does n =
    by_message m message done (is_request message.kind) does n ∙ ap (λ (xs : List ℕ). xs ++ asked_in message) (sym (none_owed m.feed message m.pending a))
event_replied m (event.Idle front) done a does n =
    subst (Answers []) (sym does) (idled_with m front m.feed) n ∙ ap (λ (xs : List ℕ). xs ++ []) (sym (idle_owed m.feed front m.pending a))
event_replied m (event.Fed answer) done a does n = still_owed (owed m.pending) done (subst (Answers (owed m.pending)) (sym does) (fed_to m answer m.pending a)) n
event_replied m (event.Bodies b) done a does n = still_owed (owed m.pending) done (subst (Answers (owed m.pending)) (sym does) (bodied m b m.pending a)) n
event_replied m (event.Asked answer) done a does n =
    still_owed (owed m.pending) done (subst (Answers (owed m.pending)) (sym does) (answered_to m (event.Asked answer) m.pending (awaits_reply m.feed m.pending (event.Asked answer) refl a) a)) n
event_replied m (event.Judged o) done a does n =
    still_owed (owed m.pending) done (subst (Answers (owed m.pending)) (sym does) (answered_to m (event.Judged o) m.pending (awaits_reply m.feed m.pending (event.Judged o) refl a) a)) n
event_replied m (event.Got k) done a does n =
    still_owed (owed m.pending) done (subst (Answers (owed m.pending)) (sym does) (answered_to m (event.Got k) m.pending (awaits_reply m.feed m.pending (event.Got k) refl a) a)) n
event_replied m (event.Set answer) done a does n =
    still_owed (owed m.pending) done (subst (Answers (owed m.pending)) (sym does) (answered_to m (event.Set answer) m.pending (awaits_reply m.feed m.pending (event.Set answer) refl a) a)) n

step_replied : (m : Machine) (s : SessionStep) (after : Machine) → Steps m s after → replied s.puts ++ owed after.pending ≡ owed m.pending ++ asked_at s.event
step_replied m s after made =
    ap (λ (ms : List Message). replied ms ++ owed after.pending) made.puts
    ∙ ap (λ (x : Machine). replied (messages_from (m.requests + 1) made.done.acts) ++ owed x.pending) made.leads
    ∙ event_replied m s.event made.done made.awaited made.does (m.requests + 1)

-- ---- all steps

pub all_replied : (user : List ℕ) (version : Version) (strict : Bool) (steps : List SessionStep) (m : Machine) → Leads (new_machine user version strict) steps m
    → replied (put_by steps) ++ owed m.pending ≡ asked_by steps
all_replied user version strict [] m leads = ap (λ (x : Machine). owed x.pending) leads
all_replied user version strict (s ∷ earlier) m (before, leads, made) =
    ap (λ (xs : List ℕ). xs ++ owed m.pending) (replied_on (put_by earlier) s.puts)
    ∙ append_assoc (replied (put_by earlier)) (replied s.puts) (owed m.pending)
    ∙ ap (λ (xs : List ℕ). replied (put_by earlier) ++ xs) (step_replied before s m made)
    ∙ sym (append_assoc (replied (put_by earlier)) (owed before.pending) (asked_at s.event))
    ∙ ap (λ (xs : List ℕ). xs ++ asked_at s.event) (all_replied user version strict earlier before leads)
