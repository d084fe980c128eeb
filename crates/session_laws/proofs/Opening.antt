-- No offer is put while one is open, and at most one in a step.
use Rattle.std.proofs.Common.{◌≡◌, ◌≤◌, ℕ, zero, suc, ◌+◌, Bool, true, false, ◌&&◌, not, List, [], ◌∷◌, ◌++◌, take, Option, Some, None, refl, sym, ◌∙◌, ap, subst, if◌then◌else◌, arith, add-zero}
use Rattle.std.specs.Prelude.{IsSome}
use Rattle.std.proofs.lemmas.Bool.{false≢true}
use Rattle.blip_frame.specs.declared.frame.Kind.TheVariants as kinds
use Rattle.blip_mux.specs.declared.message.Message.{Message}
use Rattle.sg_history.specs.declared.row.Row.{Row}
use Rattle.repl_messages.specs.declared.request.Version.{Version}
use Rattle.repl_messages.specs.Changes.{changes_payload}
use Rattle.repl_messages.specs.Errors.{ok_payload}
use Rattle.session_core.specs.declared.act.Act.{Act}
use Rattle.session_core.specs.declared.act.Act.TheVariants as act
use Rattle.session_core.specs.declared.event.Event.{Event}
use Rattle.session_core.specs.declared.event.Event.TheVariants as event
use Rattle.session_core.specs.declared.replies.Asker.{Asker}
use Rattle.session_core.specs.declared.machine.Subscription.{Subscription}
use Rattle.session_core.specs.declared.machine.Pending.{Pending}
use Rattle.session_core.specs.declared.machine.Pending.TheVariants as pending
use Rattle.session_core.specs.Acts.{messages_from, act_request, act_reply, acceptance_act, offer_act, wants_no_reply}
use Rattle.session_core.specs.Conduct.{requests_among, IsKept}
use Rattle.session_core.specs.Running.{Running, rest, is_none, is_silent, next_acts, next_feed, next_feed_with}
use Rattle.session_core.specs.State.{Machine, new_machine, Awaits}
use Rattle.session_core.specs.Steps.{SessionStep, Steps, Leads}
use Rattle.session_core.specs.Transitions.{Done, goes_on_feed, looks_again, first_running, DoesForEvent}
use Rattle.session_laws.specs.Batches.{is_offer, offers_among, WantReplies, closed_by, opened_by, open_after}
use Rattle.session_laws.proofs.Shapes.{OffersNone, nothing_offered, reply_none, Fits, fits_nothing, IsSized, open_of, Shape, stays, looks_next, answers_all, begins_first, has_more, shape}

-- ---- messages

pub messages_on : (n : ℕ) (acts more : List Act) → messages_from n (acts ++ more) ≡ messages_from n acts ++ messages_from (n + requests_among acts) more
messages_on n [] more = ap (λ k. messages_from k more) (sym (add-zero n))
messages_on n (act.Reply to kind urgent payload ∷ acts) more = ap (λ ms. act_reply to kind urgent payload ∷ ms) (messages_on n acts more)
messages_on n (act.Request payload no_reply ∷ acts) more =
    let count : n + 1 + requests_among acts ≡ n + (1 + requests_among acts) = omega arith in
    ap (λ ms. act_request n no_reply payload ∷ ms) (messages_on (n + 1) acts more ∙ ap (λ k. messages_from (n + 1) acts ++ messages_from k more) count)
messages_on n (act.Want want ∷ acts) more = messages_on n acts more

counted_on : (first second : List Message) → offers_among (first ++ second) ≡ offers_among first + offers_among second
counted_on [] second = omega arith
counted_on (m ∷ first) second = omega (arith, counted_on first second)

opened_on : (first second : List Message) (number : Option ℕ) → opened_by (first ++ second) number ≡ opened_by second (opened_by first number)
opened_on [] second number = refl
opened_on (m ∷ first) second number = opened_on first second (if is_offer m && not m.no_reply then Some m.number else number)

pub none_first : (b : Bool) (count : ℕ) → (if b then 1 else 0) + count ≡ 0 → b ≡ false
none_first true count e = absurd (omega (arith, e))
none_first false count e = refl

pub none_later : (b : Bool) (count : ℕ) → (if b then 1 else 0) + count ≡ 0 → count ≡ 0
none_later true count e = omega (arith, e)
none_later false count e = omega (arith, e)

-- where nothing is offered, nothing opens
none_opened : (messages : List Message) (number : Option ℕ) → offers_among messages ≡ 0 → opened_by messages number ≡ number
none_opened [] number e = refl
none_opened (m ∷ messages) number e =
    let other : is_offer m ≡ false = none_first (is_offer m) (offers_among messages) e in
    ap (λ b. opened_by messages (if b && not m.no_reply then Some m.number else number)) other ∙ none_opened messages number (none_later (is_offer m) (offers_among messages) e)

-- ---- the next offer

offer_counted : (version : Version) (n : ℕ) (r : Running) (b : Bool) → offers_among (messages_from n (if b then [] else offer_act r.rows r.batch version ∷ [])) ≤ 1
offer_counted version n r true = omega arith
offer_counted version n r false = omega arith

pub last_of : (a b c : Bool) → (a && (b && c)) ≡ true → c ≡ true
last_of true true c e = e
last_of true false c e = absurd (false≢true e)
last_of false b c e = absurd (false≢true e)

-- what it opens
waiting_open : (b : Bool) (r : Running) (rows : List Row) → rows ≡ [] → None ≡ open_of (if b then Some (record r { rows = rows; caught_up = true }) else None) pending.Nothing
waiting_open true r rows none = rw none refl
waiting_open false r rows none = refl

abbrev NextOpens : Version → List Row → ℕ → ℕ → Running → Bool → Type 0
NextOpens version rows n requests r b =
    opened_by (messages_from n (if b then [] else offer_act rows r.batch version ∷ [])) None ≡ open_of (next_feed_with rows requests (record r { rows = rows })) pending.Nothing

silent_opens : (version : Version) (rows : List Row) (n requests : ℕ) (r : Running) (b : Bool) → (b ≡ true → is_none rows ≡ true) → n ≡ requests + 1 → NextOpens version rows n requests r b
silent_opens version [] n requests r true silent same = waiting_open r.continuous r [] refl
silent_opens version [] n requests r false silent same = waiting_open r.continuous r [] refl
silent_opens version (row ∷ rows) n requests r true silent same = absurd (false≢true (silent refl))
silent_opens version (row ∷ rows) n requests r false silent same = ap Some same

next_opens : (version : Version) (n requests : ℕ) (r : Running) → n ≡ requests + 1 → opened_by (messages_from n (next_acts version r)) None ≡ open_of (next_feed requests r) pending.Nothing
next_opens version n requests r same = silent_opens version r.rows n requests r (is_silent r) (λ e. last_of r.caught_up r.continuous (is_none r.rows) e) same

-- where it wants no reply, it is empty
pub take_none : (size : ℕ) (rows : List Row) → rows ≡ [] → take size rows ≡ []
take_none zero rows e = refl
take_none (suc n) [] e = refl
take_none (suc n) (row ∷ rows) e = cc

no_rows : (rows : List Row) → wants_no_reply rows ≡ true → rows ≡ []
no_rows [] e = refl
no_rows (row ∷ rows) e = absurd (false≢true e)

next_wants : (version : Version) (n : ℕ) (r : Running) → WantReplies version (messages_from n (next_acts version r))
next_wants version n r =
    elim (is_silent r) as (λ b. WantReplies version (messages_from n (if b then [] else offer_act r.rows r.batch version ∷ []))) [
      | true ↦ tt
      | false ↦ ((λ is none. ap (λ rows. changes_payload rows version) (take_none r.batch r.rows (no_rows r.rows none))), tt)
    ]

wants_on : (version : Version) (first second : List Message) → WantReplies version first → WantReplies version second → WantReplies version (first ++ second)
wants_on version [] second a b = b
wants_on version (m ∷ first) second (one, a) b = (one, wants_on version first second a b)

none_wanted : (version : Version) (messages : List Message) → offers_among messages ≡ 0 → WantReplies version messages
none_wanted version [] e = tt
none_wanted version (m ∷ messages) e =
    ((λ is none. absurd (false≢true (sym (none_first (is_offer m) (offers_among messages) e) ∙ is))), none_wanted version messages (none_later (is_offer m) (offers_among messages) e))

-- ---- one step

abbrev messages_of : Machine → Done → List Message
messages_of m done = messages_from (m.requests + 1) done.acts

record Follows (f : Option Running) (p : Pending) (m : Machine) (x : Event) (done : Done) : Type 0 where
  fits : Fits done.after.feed done.after.pending
  opens : opened_by (messages_of m done) (closed_by x (open_of f p)) ≡ open_of done.after.feed done.after.pending
  waits : IsSome (closed_by x (open_of f p)) → offers_among (messages_of m done) ≡ 0
  one : offers_among (messages_of m done) ≤ 1
  replies : WantReplies m.version (messages_of m done)
  sized : IsSized done.after.pending

none_open : (o : Option ℕ) → o ≡ None → IsSome o → ⊥
none_open o e some = false≢true (subst IsSome e some)

closed_none : (x : Event) → closed_by x None ≡ None
closed_none (event.Whole message) = refl
closed_none (event.Idle front) = refl
closed_none (event.Fed answer) = refl
closed_none (event.Bodies b) = refl
closed_none (event.Asked answer) = refl
closed_none (event.Judged outcome) = refl
closed_none (event.Got kept) = refl
closed_none (event.Set answer) = refl

-- where nothing is offered
offers_nothing : (f : Option Running) (p : Pending) (m : Machine) (x : Event) (done : Done) → OffersNone done.acts → Fits done.after.feed done.after.pending → IsSized done.after.pending
    → closed_by x (open_of f p) ≡ open_of done.after.feed done.after.pending → Follows f p m x done
offers_nothing f p m x done none fits sized same =
    let count : offers_among (messages_of m done) ≡ 0 = none.none (m.requests + 1) in record {
      fits = fits;
      opens = none_opened (messages_of m done) (closed_by x (open_of f p)) count ∙ same;
      waits = λ some. count;
      one = omega (arith, count);
      replies = none_wanted m.version (messages_of m done) count;
      sized = sized;
    }

-- where a feed goes on
feed_goes : (f : Option Running) (p : Pending) (m : Machine) (x : Event) (acts : List Act) (requests : ℕ) (r : Running) → OffersNone acts → requests ≡ m.requests + requests_among acts
    → closed_by x (open_of f p) ≡ None → Follows f p m x (goes_on_feed m acts requests r)
feed_goes f p m x acts requests r none counted closed =
    let first : List Message = messages_from (m.requests + 1) acts in
    let second : List Message = messages_from (m.requests + 1 + requests_among acts) (next_acts m.version r) in
    let parts : messages_of m (goes_on_feed m acts requests r) ≡ first ++ second = messages_on (m.requests + 1) acts (next_acts m.version r) in
    let count : offers_among first ≡ 0 = none.none (m.requests + 1) in record {
      fits = fits_nothing (next_feed requests r);
      opens = ap (λ ms. opened_by ms (closed_by x (open_of f p))) parts ∙ ap (opened_by (first ++ second)) closed ∙ opened_on first second None
          ∙ ap (opened_by second) (none_opened first None count) ∙ next_opens m.version (m.requests + 1 + requests_among acts) requests r (omega (arith, counted));
      waits = λ some. absurd (none_open (closed_by x (open_of f p)) closed some);
      replies = subst (WantReplies m.version) (sym parts)
          (wants_on m.version first second (none_wanted m.version first count) (next_wants m.version (m.requests + 1 + requests_among acts) r));
      sized = tt;
      one = omega (arith, ap offers_among parts, counted_on first second, count, offer_counted m.version (m.requests + 1 + requests_among acts) r (is_silent r));
    }

pub acceptance_none : (asker : Asker) → OffersNone (acceptance_act asker)
acceptance_none asker = reply_none asker kinds.Rpy _ refl

acceptance_counted : (asker : Asker) → requests_among (acceptance_act asker) ≡ 0
acceptance_counted asker = elim (asker.no_reply) as (λ b. requests_among (if b then [] else act.Reply asker.number kinds.Rpy asker.urgent ok_payload ∷ []) ≡ 0) [ true ↦ refl | false ↦ refl ]

follows : (f : Option Running) (p : Pending) (m : Machine) (x : Event) (done : Done) → Shape f p m x done → Follows f p m x done
follows f p m x done (stays none same fits sized look closed) =
    offers_nothing f p m x done none (subst (λ g. Fits g done.after.pending) (sym same) fits) sized (closed ∙ ap (λ g. open_of g done.after.pending) (sym same))
follows f p m x done (looks_next r acts requests is none left look closed e) =
    subst (Follows f p m x) (sym e) (offers_nothing f p m x (looks_again m acts requests (rest r)) none left tt closed)
follows f p m x done (answers_all r acts requests is none counted look closed e) = subst (Follows f p m x) (sym e) (feed_goes f p m x acts requests (rest r) none counted closed)
follows f p m x done (begins_first asked front rows is awaited came e) =
    subst (Follows f p m x) (sym e)
    (feed_goes f p m x (acceptance_act asked.asker) m.requests (first_running asked rows front) (acceptance_none asked.asker) (omega (arith, acceptance_counted asked.asker))
    (ap (λ g. closed_by x (open_of g p)) is ∙ closed_none x))
follows f p m x done (has_more r front rows is awaited left came e) =
    subst (Follows f p m x) (sym e)
    (feed_goes f p m x [] m.requests (record r { rows = rows; front = front }) nothing_offered (omega arith)
    (ap (λ g. closed_by x (open_of g p)) is ∙ ap (λ q. closed_by x (open_of (Some r) q)) awaited ∙ closed_none x))

-- ---- all steps

record Opened (steps : List SessionStep) (m : Machine) : Type 0 where
  fits : Fits m.feed m.pending
  opens : open_after steps ≡ open_of m.feed m.pending
  sized : IsSized m.pending

step_follows : (m : Machine) (s : SessionStep) (after : Machine) (made : Steps m s after) → Fits m.feed m.pending → Follows m.feed m.pending m s.event made.done
step_follows m s after made fits = follows m.feed m.pending m s.event made.done (shape m s.event made.done made.awaited made.does fits)

one_more : (m : Machine) (s : SessionStep) (earlier : List SessionStep) (after : Machine) → Opened earlier m → Steps m s after → Opened (s ∷ earlier) after
one_more m s earlier after so_far made =
    let one : Follows m.feed m.pending m s.event made.done = step_follows m s after made so_far.fits in
    let opens : opened_by s.puts (closed_by s.event (open_after earlier)) ≡ open_of made.done.after.feed made.done.after.pending =
    ap (λ ms. opened_by ms (closed_by s.event (open_after earlier))) made.puts
    ∙ ap (λ o. opened_by (messages_of m made.done) (closed_by s.event o)) so_far.opens ∙ one.opens in record {
      fits = subst (λ (a : Machine). Fits a.feed a.pending) (sym made.leads) one.fits;
      opens = opens ∙ ap (λ (a : Machine). open_of a.feed a.pending) (sym made.leads);
      sized = subst (λ (a : Machine). IsSized a.pending) (sym made.leads) one.sized;
    }

opened : (user : List ℕ) (version : Version) (strict : Bool) (steps : List SessionStep) (m : Machine) → Leads (new_machine user version strict) steps m → Opened steps m
opened user version strict [] m leads = subst (λ (a : Machine). Opened [] a) (sym leads) (record { fits = tt; opens = refl; sized = tt })
opened user version strict (s ∷ earlier) m (before, leads, made) = one_more before s earlier m (opened user version strict earlier before leads) made

pub none_while_open : (user : List ℕ) (version : Version) (strict : Bool) (s : SessionStep) (earlier : List SessionStep) (after : Machine)
    → Leads (new_machine user version strict) (s ∷ earlier) after → IsSome (closed_by s.event (open_after earlier)) → offers_among s.puts ≡ 0
none_while_open user version strict s earlier after (before, leads, made) some =
    let so_far : Opened earlier before = opened user version strict earlier before leads in
    ap offers_among made.puts ∙ (step_follows before s after made so_far.fits).waits (subst (λ o. IsSome (closed_by s.event o)) so_far.opens some)

pub one_at_most : (user : List ℕ) (version : Version) (strict : Bool) (s : SessionStep) (earlier : List SessionStep) (after : Machine)
    → Leads (new_machine user version strict) (s ∷ earlier) after → offers_among s.puts ≤ 1
one_at_most user version strict s earlier after (before, leads, made) =
    subst (λ ms. offers_among ms ≤ 1) (sym made.puts) (step_follows before s after made (opened user version strict earlier before leads).fits).one

-- a feed that is asked for
sized_with : (p : Pending) (asked : Subscription) → p ≡ pending.Feed asked → IsSized p → IsSized (pending.Feed asked)
sized_with p asked e sized = subst IsSized e sized

pub asked_sized : (user : List ℕ) (version : Version) (strict : Bool) (steps : List SessionStep) (m : Machine) (asked : Subscription)
    → Leads (new_machine user version strict) steps m → m.pending ≡ pending.Feed asked → IsSized (pending.Feed asked)
asked_sized user version strict steps m asked leads e = sized_with m.pending asked e (opened user version strict steps m leads).sized

pub batch_sized : (user : List ℕ) (version : Version) (strict : Bool) (steps : List SessionStep) (m : Machine) (asked : Subscription)
    → Leads (new_machine user version strict) steps m → m.pending ≡ pending.Feed asked → (1 ≤ asked.batch) × (asked.batch ≤ 10000)
batch_sized user version strict steps m asked leads e =
    let size : IsSized (pending.Feed asked) = asked_sized user version strict steps m asked leads e in
    (size.0, size.1)

-- what the law of conduct says of what stays
abbrev pub Keeps : Type 0
Keeps = (m : Machine) (event : Event) (done : Done) → Awaits m event → DoesForEvent m event done → IsKept m event done

pub same_version : Keeps → (user : List ℕ) (version : Version) (strict : Bool) (steps : List SessionStep) (m : Machine) → Leads (new_machine user version strict) steps m → m.version ≡ version
same_version keeps user version strict [] m leads = ap (λ (m : Machine). m.version) leads
same_version keeps user version strict (s ∷ steps) m (before, leads, made) =
    ap (λ (m : Machine). m.version) made.leads ∙ (keeps before s.event made.done made.awaited made.does).version ∙ same_version keeps user version strict steps before leads

pub replies_wanted : Keeps → (user : List ℕ) (version : Version) (strict : Bool) (s : SessionStep) (earlier : List SessionStep) (after : Machine)
    → Leads (new_machine user version strict) (s ∷ earlier) after → WantReplies version s.puts
replies_wanted keeps user version strict s earlier after (before, leads, made) =
    subst (WantReplies version) (sym made.puts)
    (subst (λ v. WantReplies v (messages_of before made.done)) (same_version keeps user version strict earlier before leads)
    (step_follows before s after made (opened user version strict earlier before leads).fits).replies)
