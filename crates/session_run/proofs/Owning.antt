-- The bodies that a session puts are the user's own.
use Rattle.std.proofs.Common.{◌≡◌, inl, inr, ℕ, ◌+◌, Bool, true, false, ◌&&◌, nat_lt, List, [], ◌∷◌, ◌++◌, length, map, take, codes, Option, Some, None, Result, Ok, Err, refl, sym, ◌∙◌, ap, subst, if◌then◌else◌, arith, append-nil}
use Rattle.std.specs.Prelude.{IsTrue}
use Rattle.std.proofs.lemmas.Option.{none-some}
use Rattle.blip_frame.specs.Props.{value_at}
use Rattle.blip_frame.specs.declared.frame.Kind.{Kind}
use Rattle.blip_frame.specs.declared.frame.Kind.TheVariants as kinds
use Rattle.blip_frame.specs.declared.payload.Payload.{Payload}
use Rattle.blip_mux.specs.declared.message.Message.{Message}
use Rattle.blip_mux.specs.Joining.{is_request}
use Rattle.sg_names.specs.declared.rev_id.RevId.{RevId}
use Rattle.sg_history.specs.declared.entries.Entry.{Entry}
use Rattle.sg_history.specs.declared.entries.Write.{Write}
use Rattle.sg_history.specs.declared.row.Row.{Row}
use Rattle.sg_history.specs.declared.row.Options.{Options}
use Rattle.sg_history.specs.Book.{book_of}
use Rattle.sg_history.specs.History.{past}
use Rattle.sg_history.specs.View.{view}
use Rattle.sg_history.specs.Feed.{changed}
use Rattle.rev_tree.specs.declared.tree.Node.{Node}
use Rattle.rev_tree.specs.Tree.{ancestors_of}
use Rattle.rev_tree.specs.Documents.{trees_up_to}
use Rattle.repl_messages.specs.declared.request.Version.{Version}
use Rattle.repl_messages.specs.declared.request.Request.{Request}
use Rattle.repl_messages.specs.declared.request.Request.TheVariants as request
use Rattle.repl_messages.specs.declared.request.RequestFault.{RequestFault}
use Rattle.repl_messages.specs.declared.error.ErrorKind.{ErrorKind}
use Rattle.repl_messages.specs.declared.looks.Body.{Body}
use Rattle.repl_messages.specs.declared.looks.Body.TheVariants as body
use Rattle.repl_messages.specs.declared.looks.Bodies.{Bodies}
use Rattle.repl_messages.specs.declared.looks.Fed.{Fed}
use Rattle.repl_messages.specs.declared.looks.Fed.TheVariants as fed
use Rattle.repl_messages.specs.Errors.{ok_payload}
use Rattle.repl_messages.specs.Looks.{AreBodies, winning_write, said_by, left_by_write, body_of}
use Rattle.repl_messages.specs.Rev.{rev_payload}
use Rattle.sync_syntax.specs.declared.tree.Program.{Program}
use Rattle.doc_board.specs.Errors.{outcome_error}
use Rattle.checkpoint_store.specs.declared.answers.Kept0.TheVariants as kept0
use Rattle.checkpoint_store.specs.declared.answers.SetAnswer.TheVariants as set
use Rattle.session_core.specs.declared.act.Act.{Act}
use Rattle.session_core.specs.declared.act.Act.TheVariants as act
use Rattle.session_core.specs.declared.act.Want.{Want}
use Rattle.session_core.specs.declared.act.Want.TheVariants as want
use Rattle.session_core.specs.declared.event.Event.{Event}
use Rattle.session_core.specs.declared.event.Event.TheVariants as event
use Rattle.session_core.specs.declared.replies.Asker.{Asker}
use Rattle.session_core.specs.declared.replies.Awaited.{Awaited}
use Rattle.session_core.specs.declared.machine.Subscription.{Subscription}
use Rattle.session_core.specs.declared.machine.Pending.{Pending}
use Rattle.session_core.specs.declared.machine.Pending.TheVariants as pending
use Rattle.session_core.specs.Acts.{messages_from, act_request, reply_act, refusal_by, acceptance_act, answer_act, body_act, body_acts, flagged_rows, offer_act}
use Rattle.session_core.proofs.Replying.{answer_by}
use Rattle.session_core.specs.Conduct.{WantsFor, AreOnOffer}
use Rattle.session_core.specs.Right.{IsRight, AreRight}
use Rattle.session_core.specs.Running.{Running, rest, is_none, is_silent, next_acts}
use Rattle.session_core.specs.State.{Machine, new_machine, AwaitsBy}
use Rattle.session_core.specs.Steps.{SessionStep, Steps, Leads, wanted_after}
use Rattle.session_core.specs.Transitions.{Done, puts, looks_again, answered_by, on_sub_changes, on_changes, on_request, answers, wanted_of, on_wanted, on_reply, first_running, on_next_look, on_fed, on_bodies_of, on_bodies, on_answer, on_idle, DoesForEvent, DoesByMessage}
use Rattle.session_run.specs.Own.{IsAmong, IsShown, AreOwn, CarryNone, OwnAt, HasOwnBodies}
use Rattle.session_run.proofs.Taking.{Wants}

-- ---- what carries no body

abbrev text_in : Option (List ℕ) → List ℕ
text_in None = []
text_in (Some text) = text

seven_three : ◌≡◌ {A = ℕ} 7 3 → ⊥
seven_three e = omega (arith, e)

five_three : ◌≡◌ {A = ℕ} 5 3 → ⊥
five_three e = omega (arith, e)

other_name : (o : Option (List ℕ)) (name : List ℕ) → o ≡ Some name → (length name ≡ 3 → ⊥) → o ≡ Some (codes "rev") → ⊥
other_name o name is other e = other (ap (λ o. length (text_in o)) (sym is ∙ e))

no_name : (o : Option (List ℕ)) → o ≡ None → o ≡ Some (codes "rev") → ⊥
no_name o is e = none-some (codes "rev") (sym is ∙ e)

abbrev ActsCarryNone : List Act → Type 0
ActsCarryNone [] = Unit {0}
ActsCarryNone (act.Reply to kind urgent payload ∷ acts) = (value_at payload.props (codes "Profile") ≡ None) × ActsCarryNone acts
ActsCarryNone (act.Request payload no_reply ∷ acts) = (value_at payload.props (codes "Profile") ≡ Some (codes "rev") → ⊥) × ActsCarryNone acts
ActsCarryNone (act.Want want ∷ acts) = ActsCarryNone acts

carry_none : (n : ℕ) (acts : List Act) → ActsCarryNone acts → CarryNone (messages_from n acts)
carry_none n [] none = tt
carry_none n (act.Reply to kind urgent payload ∷ acts) (is, none) = ((λ rev. no_name _ is rev), carry_none n acts none)
carry_none n (act.Request payload no_reply ∷ acts) (other, none) = ((λ rev. other rev), carry_none (n + 1) acts none)
carry_none n (act.Want want ∷ acts) none = carry_none n acts none

both_none : (acts more : List Act) → ActsCarryNone acts → ActsCarryNone more → ActsCarryNone (acts ++ more)
both_none [] more a b = b
both_none (act.Reply to kind urgent payload ∷ acts) more (is, a) b = (is, both_none acts more a b)
both_none (act.Request payload no_reply ∷ acts) more (other, a) b = (other, both_none acts more a b)
both_none (act.Want want ∷ acts) more a b = both_none acts more a b

reply_none : (asker : Asker) (kind : Kind) (payload : Payload) → value_at payload.props (codes "Profile") ≡ None → ActsCarryNone (reply_act asker kind payload)
reply_none asker kind payload is =
    elim (asker.no_reply) as (λ b. ActsCarryNone (if b then [] else act.Reply asker.number kind asker.urgent payload ∷ [])) [ true ↦ tt | false ↦ (is, tt) ]

offer_none : (version : Version) (r : Running) → ActsCarryNone (next_acts version r)
offer_none version r =
    elim (is_silent r) as (λ b. ActsCarryNone (if b then [] else offer_act r.rows r.batch version ∷ []))
    [ true ↦ tt | false ↦ ((λ e. other_name _ (codes "changes") refl seven_three e), tt) ]

-- ---- events that put no body

answered_none : (b : Bool) (m : Machine) (requests : ℕ) (r : Running) → ActsCarryNone (answered_by b m [] requests r).acts
answered_none true m requests r = tt
answered_none false m requests r = offer_none m.version r

subscribed_none : (m : Machine) (asked : Subscription) (feed : Option Running) → ActsCarryNone (on_sub_changes m asked feed).acts
subscribed_none m asked None = tt
subscribed_none m asked (Some r) = reply_none _ kinds.Err _ refl

changes_none : (b : Bool) (m : Machine) (asker : Asker) (wanted : Want) → ActsCarryNone (on_changes b m asker wanted).acts
changes_none true m asker wanted = reply_none _ kinds.Err _ refl
changes_none false m asker wanted = tt

request_none : (m : Machine) (message : Message) (read : Result Request RequestFault) → ActsCarryNone (on_request m message read).acts
request_none m message (Err fault) = reply_none _ kinds.Err _ refl
request_none m message (Ok (request.GetCheckpoint client)) = tt
request_none m message (Ok (request.SetCheckpoint client rev body)) = tt
request_none m message (Ok (request.SubChanges since continuous batch options)) = subscribed_none m _ m.feed
request_none m message (Ok (request.Changes offers)) = changes_none m.strict m _ _
request_none m message (Ok (request.ProposeChanges offers)) = tt
request_none m message (Ok (request.Rev revision)) = tt

wanted_none : (m : Machine) (message : Message) (r : Running) (rows : List Row) → ActsCarryNone (on_wanted m message r rows).acts
wanted_none m message r [] = answered_none (r.continuous && is_none (rest r).rows) m m.requests (rest r)
wanted_none m message r (row ∷ rows) = tt

replied_with : (m : Machine) (message : Message) (r : Running) (b : Bool) → ActsCarryNone (if b then on_wanted m message r (wanted_of r message) else puts m []).acts
replied_with m message r true = wanted_none m message r (wanted_of r message)
replied_with m message r false = tt

replied_none : (m : Machine) (message : Message) (feed : Option Running) → ActsCarryNone (on_reply m message feed).acts
replied_none m message None = tt
replied_none m message (Some r) = replied_with m message r (answers r message)

message_none : (m : Machine) (message : Message) (b : Bool) (done : Done) → DoesByMessage b m message done → ActsCarryNone done.acts
message_none m message true done (read, is, does) = subst (λ (d : Done). ActsCarryNone d.acts) (sym does) (request_none m message read)
message_none m message false done does = subst (λ (d : Done). ActsCarryNone d.acts) (sym does) (replied_none m message m.feed)

more_none : (m : Machine) (feed : Option Running) (answer : Fed) → ActsCarryNone (on_next_look m feed answer).acts
more_none m None answer = tt
more_none m (Some r) (fed.Future front) = tt
more_none m (Some r) (fed.Rows front rows) = offer_none m.version (record r { rows = rows; front = front })

fed_none : (m : Machine) (answer : Fed) (awaited : Pending) → ActsCarryNone (on_fed m answer awaited).acts
fed_none m (fed.Future front) (pending.Feed asked) = reply_none _ kinds.Err _ refl
fed_none m (fed.Rows front rows) (pending.Feed asked) =
    both_none (acceptance_act asked.asker) (next_acts m.version (first_running asked rows front)) (reply_none asked.asker kinds.Rpy ok_payload refl) (offer_none m.version (first_running asked rows front))
fed_none m answer pending.More = more_none m m.feed answer
fed_none m answer pending.Nothing = tt
fed_none m answer (pending.Bodies rows) = tt
fed_none m answer (pending.Reply asker to) = tt

answered_to_none : (m : Machine) (e : Event) (awaited : Pending) → ActsCarryNone (on_answer m e awaited).acts
answered_to_none m e (pending.Reply asker to) = answer_by (λ acts. ActsCarryNone acts) tt (λ by kind payload none yes unnamed. reply_none by kind payload unnamed) asker to e
answered_to_none m e pending.Nothing = tt
answered_to_none m e (pending.Feed asked) = tt
answered_to_none m e pending.More = tt
answered_to_none m e (pending.Bodies rows) = tt

idle_none : (m : Machine) (front : ℕ) (feed : Option Running) → ActsCarryNone (on_idle m front feed).acts
idle_none m front None = tt
idle_none m front (Some r) =
    elim (nat_lt r.front front) as (λ b. ActsCarryNone (if b then looks_again m [] m.requests r else puts m []).acts) [ true ↦ tt | false ↦ tt ]

-- ---- the bodies

-- what the laws of bodies say
abbrev pub Shows : Type 0
Shows = (es : List Entry) (trees : List ℕ → List Node) (user : List ℕ) (filter : Option (List (List ℕ))) (most : ℕ) (row : Row) (ancestors : List RevId) (bytes : List ℕ) → body_of es trees user filter most row ≡ body.Rev ancestors bytes → view es user filter row.doc ≡ Some (said_by row)

abbrev pub Wins : Type 0
Wins = (es : List Entry) (trees : List ℕ → List Node) (user : List ℕ) (filter : Option (List (List ℕ))) (most : ℕ) (row : Row) (ancestors : List RevId) (bytes : List ℕ) → body_of es trees user filter most row ≡ body.Rev ancestors bytes
    → (w : Write) × (winning_write es row.doc ≡ Some w) × (w.doc ≡ row.doc) × (w.rev ≡ row.rev) × (ancestors ≡ ancestors_of (trees row.doc) w.rev most) × (bytes ≡ w.body)

abbrev pub Removes : Type 0
Removes = (es : List Entry) (trees : List ℕ → List Node) (user : List ℕ) (filter : Option (List (List ℕ))) (most : ℕ) (row : Row) → body_of es trees user filter most row ≡ body.Removed
    → IsTrue (left_by_write row.bits) × (view es user filter row.doc ≡ None) × (length (changed es user filter row.doc) ≡ row.key.by)

shown_with : (es : List Entry) (trees : List ℕ → List Node) (user : List ℕ) (r : Running) (most number : ℕ) (row : Row) (ancestors : List RevId) (bytes : List ℕ)
    → IsAmong row (take r.batch r.rows)
    → view es user r.options.filter row.doc ≡ Some (said_by row)
    → ((w : Write) × (winning_write es row.doc ≡ Some w) × (w.doc ≡ row.doc) × (w.rev ≡ row.rev) × (ancestors ≡ ancestors_of (trees row.doc) w.rev most) × (bytes ≡ w.body))
    → IsShown es trees user r (act_request number false (rev_payload row ancestors bytes))
shown_with es trees user r most number row ancestors bytes on_offer shown (w, winner, doc, rev, ancestors_are, bytes_are) = record {
  row = row;
  on_offer = on_offer;
  most = most;
  write = w;
  payload = ap (λ a. rev_payload row a bytes) ancestors_are ∙ ap (rev_payload row (ancestors_of (trees row.doc) w.rev most)) bytes_are;
  shown = shown;
  winner = winner;
  revision = rev;
}

one_own : Shows → Wins → Removes → (es : List Entry) (trees : List ℕ → List Node) (user : List ℕ) (r : Running) (most number : ℕ) (row : Row) (b : Body) (acts : List Act)
    → IsAmong row (take r.batch r.rows) → body_of es trees user r.options.filter most row ≡ b
    → AreOwn es trees user r (messages_from (number + 1) acts) → AreOwn es trees user r (messages_from number (body_act row b ∷ acts))
one_own shows wins removes es trees user r most number row (body.Rev ancestors bytes) acts on_offer e own =
    ((λ rev. inl (shown_with es trees user r most number row ancestors bytes on_offer (shows es trees user r.options.filter most row ancestors bytes e) (wins es trees user r.options.filter most row ancestors bytes e))), own)
one_own shows wins removes es trees user r most number row body.Removed acts on_offer e own =
    let said = removes es trees user r.options.filter most row e in
    ((λ rev. inr (record { row = row; on_offer = on_offer; payload = refl; left = said.0; gone = said.1 })), own)
one_own shows wins removes es trees user r most number row body.NoRev acts on_offer e own =
    ((λ rev. absurd (other_name _ (codes "norev") refl five_three rev)), own)

-- rows that are all on offer
abbrev AllAmong : List Row → List Row → Type 0
AllAmong [] rows = Unit {0}
AllAmong (row ∷ some) rows = IsAmong row rows × AllAmong some rows

none_own : (es : List Entry) (trees : List ℕ → List Node) (user : List ℕ) (r : Running) (messages : List Message) → CarryNone messages → AreOwn es trees user r messages
none_own es trees user r [] none = tt
none_own es trees user r (m ∷ messages) (not, none) = ((λ rev. absurd (not rev)), none_own es trees user r messages none)

bodies_own : Shows → Wins → Removes → (es : List Entry) (trees : List ℕ → List Node) (user : List ℕ) (r : Running) (most number : ℕ) (rows : List Row) (more : List Act) → AllAmong rows (take r.batch r.rows) → ActsCarryNone more
    → AreOwn es trees user r (messages_from number (body_acts rows (map (body_of es trees user r.options.filter most) rows) ++ more))
bodies_own shows wins removes es trees user r most number [] more all none = none_own es trees user r (messages_from number more) (carry_none number more none)
bodies_own shows wins removes es trees user r most number (row ∷ rows) more (on_offer, all) none =
    one_own shows wins removes es trees user r most number row (body_of es trees user r.options.filter most row) (body_acts rows (map (body_of es trees user r.options.filter most) rows) ++ more) on_offer refl
    (bodies_own shows wins removes es trees user r most (number + 1) rows more all none)

among_more : (row first : Row) (some rows : List Row) → AllAmong some rows → AllAmong some (first ∷ rows)
among_more row first [] rows all = tt
among_more row first (one ∷ some) rows (is, all) = (inr is, among_more row first some rows all)

chosen_among : (rows : List Row) (flags : List Bool) → AllAmong (flagged_rows rows flags) rows
chosen_among [] flags = tt
chosen_among (row ∷ rows) [] = tt
chosen_among (row ∷ rows) (true ∷ flags) = (inl refl, among_more row row (flagged_rows rows flags) rows (chosen_among rows flags))
chosen_among (row ∷ rows) (false ∷ flags) = among_more row row (flagged_rows rows flags) rows (chosen_among rows flags)

-- ---- a step by bodies

by_answers : Shows → Wins → Removes → (es : List Entry) (trees : List ℕ → List Node) (user : List ℕ) (m : Machine) (r : Running) (rows : List Row) (given : List Body) (most number : ℕ) (b : Bool)
    → given ≡ map (body_of es trees user r.options.filter most) rows → AllAmong rows (take r.batch r.rows)
    → AreOwn es trees user r (messages_from number (answered_by b m (body_acts rows given) (m.requests + length rows) (rest r)).acts)
by_answers shows wins removes es trees user m r rows given most number true are all =
    subst (λ bs. AreOwn es trees user r (messages_from number (body_acts rows bs))) (sym are)
    (subst (λ acts. AreOwn es trees user r (messages_from number acts)) (append-nil (body_acts rows (map (body_of es trees user r.options.filter most) rows)))
    (bodies_own shows wins removes es trees user r most number rows [] all tt))
by_answers shows wins removes es trees user m r rows given most number false are all =
    subst (λ bs. AreOwn es trees user r (messages_from number (body_acts rows bs ++ next_acts m.version (rest r)))) (sym are)
    (bodies_own shows wins removes es trees user r most number rows (next_acts m.version (rest r)) all (offer_none m.version (rest r)))

-- what is put by bodies of rows that are on offer
bodies_put : Shows → Wins → Removes → (h : List Entry) (user : List ℕ) (before : Machine) (s : SessionStep) (after : Machine) (b : Bodies) (r : Running) (rows : List Row) (options : Options) (most : ℕ)
    → before.feed ≡ Some r → s.event ≡ event.Bodies b → (made : Steps before s after)
    → made.done ≡ on_bodies_of before b rows (Some r) → AreOnOffer (Some r) options rows → AreBodies h user options rows most b
    → OwnAt h user before s
bodies_put shows wins removes h user before s after b r rows options most runs came made does (options_are, (flags, rows_are)) right =
    let es : List Entry = past h b.front in
    let trees : List ℕ → List Node = trees_up_to (book_of h) right.numbers in
    let answers_are : b.answers ≡ map (body_of es trees user r.options.filter most) rows =
    right.answers ∙ ap (λ (o : Options). map (body_of es trees user o.filter most) rows) options_are in
    let all : AllAmong rows (take r.batch r.rows) = subst (λ rs. AllAmong rs (take r.batch r.rows)) (sym rows_are) (chosen_among (take r.batch r.rows) flags) in
    record {
      feed = r;
      runs = runs;
      answer = b;
      answered = came;
      numbers = right.numbers;
      seen = right.seen;
      own = subst (AreOwn es trees user r) (sym (made.puts ∙ ap (λ (d : Done). messages_from (before.requests + 1) d.acts) does))
          (by_answers shows wins removes es trees user before r rows b.answers most (before.requests + 1) (r.continuous && is_none (rest r).rows) answers_are all);
    }

by_right : Shows → Wins → Removes → (h : List Entry) (user : List ℕ) (program : Program) (strict : Bool) (before : Machine) (s : SessionStep) (after : Machine) (b : Bodies) (rows : List Row) (feed : Option Running) (wanted : Option Want)
    → before.feed ≡ feed → s.event ≡ event.Bodies b → (made : Steps before s after)
    → made.done ≡ on_bodies_of before b rows feed → WantsFor feed (pending.Bodies rows) wanted → IsRight h user program strict wanted (event.Bodies b)
    → HasOwnBodies h user before s
by_right shows wins removes h user program strict before s after b rows None wanted runs came made does w right =
    inl (subst CarryNone (sym (made.puts ∙ ap (λ (d : Done). messages_from (before.requests + 1) d.acts) does)) tt)
by_right shows wins removes h user program strict before s after b rows (Some r) None runs came made does w right = absurd w
by_right shows wins removes h user program strict before s after b rows (Some r) (Some (want.Feed since options)) runs came made does w right = absurd w
by_right shows wins removes h user program strict before s after b rows (Some r) (Some (want.Bodies options wanted most)) runs came made does (same, on_offer) right =
    inr (bodies_put shows wins removes h user before s after b r rows options most runs came made does on_offer (subst (λ rs. AreBodies h user options rs most b) same right))
by_right shows wins removes h user program strict before s after b rows (Some r) (Some (want.Ask offers)) runs came made does w right = absurd w
by_right shows wins removes h user program strict before s after b rows (Some r) (Some (want.Propose revision)) runs came made does w right = absurd w
by_right shows wins removes h user program strict before s after b rows (Some r) (Some (want.GetCheckpoint client)) runs came made does w right = absurd w
by_right shows wins removes h user program strict before s after b rows (Some r) (Some (want.SetCheckpoint client rev body)) runs came made does w right = absurd w

by_bodies : Shows → Wins → Removes → (h : List Entry) (user : List ℕ) (program : Program) (strict : Bool) (before : Machine) (s : SessionStep) (after : Machine) (b : Bodies) (awaited : Pending) (wanted : Option Want)
    → s.event ≡ event.Bodies b → (made : Steps before s after)
    → AwaitsBy before.feed awaited (event.Bodies b) → made.done ≡ on_bodies before b awaited → WantsFor before.feed awaited wanted → IsRight h user program strict wanted (event.Bodies b)
    → HasOwnBodies h user before s
by_bodies shows wins removes h user program strict before s after b pending.Nothing wanted came made a does w right = absurd a
by_bodies shows wins removes h user program strict before s after b (pending.Feed asked) wanted came made a does w right = absurd a
by_bodies shows wins removes h user program strict before s after b pending.More wanted came made a does w right = absurd a
by_bodies shows wins removes h user program strict before s after b (pending.Bodies rows) wanted came made a does w right =
    by_right shows wins removes h user program strict before s after b rows before.feed wanted refl came made does w right
by_bodies shows wins removes h user program strict before s after b (pending.Reply asker to) wanted came made a does w right = absurd a

-- ---- each step

none_put : (h : List Entry) (user : List ℕ) (before : Machine) (s : SessionStep) (after : Machine) → (made : Steps before s after) → ActsCarryNone made.done.acts → HasOwnBodies h user before s
none_put h user before s after made none = inl (subst CarryNone (sym made.puts) (carry_none (before.requests + 1) made.done.acts none))

by_event : Shows → Wins → Removes → (h : List Entry) (user : List ℕ) (program : Program) (strict : Bool) (before : Machine) (s : SessionStep) (after : Machine) (x : Event) (wanted : Option Want)
    → s.event ≡ x → (made : Steps before s after) → AwaitsBy before.feed before.pending x → DoesForEvent before x made.done → WantsFor before.feed before.pending wanted → IsRight h user program strict wanted x
    → HasOwnBodies h user before s
by_event shows wins removes h user program strict before s after (event.Whole message) wanted came made a does w right = none_put h user before s after made (message_none before message (is_request message.kind) made.done does)
by_event shows wins removes h user program strict before s after (event.Idle front) wanted came made a does w right =
    none_put h user before s after made (subst (λ (d : Done). ActsCarryNone d.acts) (sym does) (idle_none before front before.feed))
by_event shows wins removes h user program strict before s after (event.Fed answer) wanted came made a does w right =
    none_put h user before s after made (subst (λ (d : Done). ActsCarryNone d.acts) (sym does) (fed_none before answer before.pending))
by_event shows wins removes h user program strict before s after (event.Bodies b) wanted came made a does w right =
    by_bodies shows wins removes h user program strict before s after b before.pending wanted came made a does w right
by_event shows wins removes h user program strict before s after (event.Asked answer) wanted came made a does w right =
    none_put h user before s after made (subst (λ (d : Done). ActsCarryNone d.acts) (sym does) (answered_to_none before (event.Asked answer) before.pending))
by_event shows wins removes h user program strict before s after (event.Judged o) wanted came made a does w right =
    none_put h user before s after made (subst (λ (d : Done). ActsCarryNone d.acts) (sym does) (answered_to_none before (event.Judged o) before.pending))
by_event shows wins removes h user program strict before s after (event.Got k) wanted came made a does w right =
    none_put h user before s after made (subst (λ (d : Done). ActsCarryNone d.acts) (sym does) (answered_to_none before (event.Got k) before.pending))
by_event shows wins removes h user program strict before s after (event.Set answer) wanted came made a does w right =
    none_put h user before s after made (subst (λ (d : Done). ActsCarryNone d.acts) (sym does) (answered_to_none before (event.Set answer) before.pending))

wants_at : Wants → (user : List ℕ) (version : Version) (strict : Bool) (steps : List SessionStep) (m : Machine) → Leads (new_machine user version strict) steps m → WantsFor m.feed m.pending (wanted_after steps)
wants_at law user version strict [] m leads = subst (λ (m : Machine). WantsFor m.feed m.pending None) (sym leads) tt
wants_at law user version strict (s ∷ steps) m (before, leads, made) =
    subst (λ (m : Machine). WantsFor m.feed m.pending s.want) (sym made.leads)
    (subst (WantsFor made.done.after.feed made.done.after.pending) (sym made.want) (law before s.event made.done made.awaited made.does))

pub own_bodies : Wants → Shows → Wins → Removes → (h : List Entry) (user : List ℕ) (version : Version) (program : Program) (strict : Bool) (earlier : List SessionStep) (before : Machine) (s : SessionStep) (after : Machine)
    → Leads (new_machine user version strict) earlier before → Steps before s after → AreRight h user program strict (s ∷ earlier) → HasOwnBodies h user before s
own_bodies law shows wins removes h user version program strict earlier before s after leads made right =
    by_event shows wins removes h user program strict before s after s.event (wanted_after earlier) refl made made.awaited made.does (wants_at law user version strict earlier before leads) right.0
