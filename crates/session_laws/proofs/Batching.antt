-- The offers of a feed are the batches of the rows of each of its looks.
use Rattle.std.proofs.Common.{◌≡◌, inl, inr, ◌≤◌, ℕ, zero, suc, ◌+◌, Bool, true, false, not, List, [], ◌∷◌, ◌++◌, length, take, drop, flat_map, Option, Some, None, refl, sym, ◌∙◌, ap, subst, if◌then◌else◌, arith, append-nil, append_assoc, le_refl, length-take, length-drop, take-append-drop}
use Rattle.std.specs.Prelude.{IsSome}
use Rattle.std.proofs.lemmas.Bool.{false≢true}
use Rattle.std.proofs.lemmas.Grind.{flat_map-append}
use Rattle.std.proofs.lemmas.List.Elements.{filter-append}
use Rattle.blip_mux.specs.declared.message.Message.{Message}
use Rattle.sg_names.specs.declared.key.Key.{Key}
use Rattle.sg_history.specs.declared.entries.Entry.{Entry}
use Rattle.sg_history.specs.declared.row.Row.{Row}
use Rattle.sg_history.specs.declared.row.Options.{Options}
use Rattle.sg_history.specs.Device.{plain}
use Rattle.sg_history.specs.Feed.{feed}
use Rattle.sg_history.specs.History.{past}
use Rattle.repl_messages.specs.declared.request.Version.{Version}
use Rattle.repl_messages.specs.declared.looks.Fed.TheVariants as fed
use Rattle.sync_syntax.specs.declared.tree.Program.{Program}
use Rattle.session_core.specs.declared.act.Act.{Act}
use Rattle.session_core.specs.declared.act.Want.{Want}
use Rattle.session_core.specs.declared.act.Want.TheVariants as want
use Rattle.session_core.specs.declared.event.Event.{Event}
use Rattle.session_core.specs.declared.event.Event.TheVariants as event
use Rattle.session_core.specs.declared.machine.Subscription.{Subscription}
use Rattle.session_core.specs.declared.machine.Pending.TheVariants as pending
use Rattle.session_core.specs.Acts.{messages_from, acceptance_act, offer_act}
use Rattle.session_core.specs.Conduct.{requests_among, WantsFor}
use Rattle.session_core.specs.Feeds.{not_offered, feed_rows_at, feed_look, feed_looks, LeadsFeed, RunsFeed}
use Rattle.session_core.specs.Right.{IsRight, AreRight}
use Rattle.session_core.specs.Running.{Running, rest, is_none, is_silent, next_since, next_acts, next_feed, next_feed_with}
use Rattle.session_core.specs.State.{Machine, new_machine, Awaits}
use Rattle.session_core.specs.Steps.{SessionStep, Steps, Leads, put_by, wanted_after}
use Rattle.session_core.specs.Transitions.{Done, goes_on_feed, looks_again, first_running, on_first_look, on_fed, DoesForEvent}
use Rattle.session_laws.specs.Batches.{batches_up_to, batches, AreFull, looks_at, is_offer, AreOffers, with_rows, offers_among}
use Rattle.session_laws.proofs.Opening.{messages_on, none_first, none_later, last_of, take_none, acceptance_none, Keeps, same_version}
use Rattle.session_laws.proofs.Shapes.{OffersNone, nothing_offered, Fits, fits_nothing, Shape, stays, looks_next, answers_all, begins_first, has_more, shape}

-- ---- batches

-- more lists than rows are not wanted
enough : (most other size : ℕ) (rows : List Row) → 1 ≤ size → length rows ≤ most → length rows ≤ other → batches_up_to most size rows ≡ batches_up_to other size rows
enough zero zero size rows some a b = refl
enough zero (suc other) size [] some a b = refl
enough zero (suc other) size (row ∷ rows) some a b = absurd (omega (arith, a))
enough (suc most) zero size [] some a b = refl
enough (suc most) zero size (row ∷ rows) some a b = absurd (omega (arith, b))
enough (suc most) (suc other) size [] some a b = refl
enough (suc most) (suc other) size (row ∷ rows) some a b =
    ap (λ later. take size (row ∷ rows) ∷ later)
    (enough most other size (drop size (row ∷ rows)) some (omega (arith, length-drop size (row ∷ rows), a, some)) (omega (arith, length-drop size (row ∷ rows), b, some)))

-- the first batch, and those of the rows behind it
first_batch : (size : ℕ) (row : Row) (rows : List Row) → 1 ≤ size → batches size (row ∷ rows) ≡ take size (row ∷ rows) ∷ batches size (drop size (row ∷ rows))
first_batch size row rows some =
    ap (λ later. take size (row ∷ rows) ∷ later)
    (enough (length rows) (length (drop size (row ∷ rows))) size (drop size (row ∷ rows)) some (omega (arith, length-drop size (row ∷ rows), some)) (le_refl (length (drop size (row ∷ rows)))))

take_some : (size : ℕ) (row : Row) (rows : List Row) → 1 ≤ size → with_rows (take size (row ∷ rows) ∷ []) ≡ take size (row ∷ rows) ∷ []
take_some zero row rows some = absurd (omega (arith, some))
take_some (suc size) row rows some = refl

drop_none : (size : ℕ) (rows : List Row) → rows ≡ [] → drop size rows ≡ []
drop_none zero rows e = e
drop_none (suc n) [] e = refl
drop_none (suc n) (row ∷ rows) e = cc

none_left : (rows : List Row) → is_none rows ≡ true → rows ≡ []
none_left [] e = refl
none_left (row ∷ rows) e = absurd (false≢true e)

-- the rows of the next offer and the batches behind it are the batches of all
next_batch : (size : ℕ) (rows : List Row) → with_rows (take size rows ∷ []) ++ batches size (drop size rows) ≡ batches size rows
next_batch zero rows = refl
next_batch (suc size) [] = refl
next_batch (suc size) (row ∷ rows) = sym (first_batch (suc size) row rows (omega arith))

-- ---- that they are full

one_full : (most size : ℕ) (first left : List Row) → 1 ≤ length first → length first ≤ size → (1 ≤ length left → length first ≡ size) → AreFull size (batches_up_to most size left)
    → AreFull size (first ∷ batches_up_to most size left)
one_full zero size first left some few is full = (some, few)
one_full (suc most) size first [] some few is full = (some, few)
one_full (suc most) size first (row ∷ left) some few is full = (is (omega arith), full)

full_up_to : (most size : ℕ) (rows : List Row) → 1 ≤ size → AreFull size (batches_up_to most size rows)
full_up_to zero size rows some = tt
full_up_to (suc most) size [] some = tt
full_up_to (suc most) size (row ∷ rows) some =
    one_full most size (take size (row ∷ rows)) (drop size (row ∷ rows)) (omega (arith, length-take size (row ∷ rows), some)) (omega (arith, length-take size (row ∷ rows)))
    (λ left. omega (arith, length-take size (row ∷ rows), length-drop size (row ∷ rows), left)) (full_up_to most size (drop size (row ∷ rows)) some)

all_up_to : (most size : ℕ) (rows : List Row) → 1 ≤ size → length rows ≤ most → flat_map (λ piece. piece) (batches_up_to most size rows) ≡ rows
all_up_to zero size [] some few = refl
all_up_to zero size (row ∷ rows) some few = absurd (omega (arith, few))
all_up_to (suc most) size [] some few = refl
all_up_to (suc most) size (row ∷ rows) some few =
    ap (λ later. take size (row ∷ rows) ++ later) (all_up_to most size (drop size (row ∷ rows)) some (omega (arith, length-drop size (row ∷ rows), few, some)))
    ∙ take-append-drop size (row ∷ rows)

pub are_cut : (size : ℕ) (rows : List Row) → 1 ≤ size → AreFull size (batches size rows) × (flat_map (λ piece. piece) (batches size rows) ≡ rows)
are_cut size rows some = (full_up_to (length rows) size rows some, all_up_to (length rows) size rows some (le_refl (length rows)))

pub all_looks : (h : List Entry) (user : List ℕ) (since : Key) (options : Options) (fronts : List ℕ) → flat_map (λ look. look) (looks_at h user since options fronts) ≡ feed_rows_at h user since options fronts
all_looks h user since options [] = refl
all_looks h user since options (front ∷ []) = append-nil (feed (past h front) user since options)
all_looks h user since options (front ∷ before ∷ earlier) =
    let last : List Row = feed (past h front) user (plain before) options in
    flat_map-append (λ look. look) (looks_at h user since options (before ∷ earlier)) (last ∷ [])
    ∙ ap (λ rows. rows ++ (last ++ [])) (all_looks h user since options (before ∷ earlier))
    ∙ ap (λ rows. feed_rows_at h user since options (before ∷ earlier) ++ rows) (append-nil last)

-- ---- offers

offers_on : (version : Version) (ms ns : List Message) (offers more : List (List Row)) → AreOffers version ms offers → AreOffers version ns more → AreOffers version (ms ++ ns) (offers ++ more)
offers_on version [] ns offers more a b = subst (λ os. AreOffers version ns (os ++ more)) (sym a) b
offers_on version (m ∷ ms) ns offers more (inl (not, a)) b = inl (not, offers_on version ms ns offers more a b)
offers_on version (m ∷ ms) ns offers more (inr (rows, later, is, payload, offers_are, a)) b =
    inr (rows, later ++ more, is, payload, ap (λ os. os ++ more) offers_are, offers_on version ms ns later more a b)

none_of : (version : Version) (messages : List Message) → offers_among messages ≡ 0 → AreOffers version messages []
none_of version [] e = refl
none_of version (m ∷ messages) e = inl (none_first (is_offer m) (offers_among messages) e, none_of version messages (none_later (is_offer m) (offers_among messages) e))

-- the next offer, if there is one
abbrev next_offers : Running → List (List Row)
next_offers r = if is_silent r then [] else take r.batch r.rows ∷ []

next_are : (version : Version) (n : ℕ) (r : Running) → AreOffers version (messages_from n (next_acts version r)) (next_offers r)
next_are version n r =
    elim (is_silent r) as (λ b. AreOffers version (messages_from n (if b then [] else offer_act r.rows r.batch version ∷ [])) (if b then [] else take r.batch r.rows ∷ []))
    [ true ↦ refl | false ↦ inr (take r.batch r.rows, [], refl, refl, refl, refl) ]

next_filled_by : (r : Running) (b : Bool) → is_silent r ≡ b → with_rows (if b then [] else take r.batch r.rows ∷ []) ≡ with_rows (take r.batch r.rows ∷ [])
next_filled_by r true silent = ap (λ rows. with_rows (rows ∷ [])) (sym (take_none r.batch r.rows (none_left r.rows (last_of r.caught_up r.continuous (is_none r.rows) silent))))
next_filled_by r false silent = refl

next_left_by : (rows : List Row) (requests : ℕ) (r : Running) → not_offered (next_feed_with rows requests (record r { rows = rows })) ≡ drop r.batch rows
next_left_by [] requests r =
    elim (r.continuous) as (λ b. not_offered (if b then Some (record r { rows = []; caught_up = true }) else None) ≡ drop r.batch []) [ true ↦ refl | false ↦ sym (drop_none r.batch [] refl) ]
next_left_by (row ∷ rows) requests r = refl

next_left : (requests : ℕ) (r : Running) → not_offered (next_feed requests r) ≡ drop r.batch r.rows
next_left requests r = next_left_by r.rows requests r

-- ---- so far

-- the feed that runs is the one that was asked for, and the last look was at its front
abbrev Runs : Subscription → List ℕ → Option Running → Type 0
Runs asked fronts None = Unit {0}
Runs asked fronts (Some r) = (r.options ≡ asked.options) × (r.batch ≡ asked.batch) × ((earlier : List ℕ) × (fronts ≡ r.front ∷ earlier))

record Batched (h : List Entry) (user : List ℕ) (version : Version) (asked : Subscription) (messages : List Message) (fronts : List ℕ) (m : Machine) : Type 0 where
  offers : List (List Row)
  are : AreOffers version messages offers
  sum : with_rows offers ++ batches asked.batch (not_offered m.feed) ≡ flat_map (batches asked.batch) (looks_at h user asked.since asked.options fronts)
  runs : Runs asked fronts m.feed
  fits : Fits m.feed m.pending
  version_is : m.version ≡ version

abbrev After : List Entry → List ℕ → Version → Subscription → List Message → List ℕ → Machine → Done → Type 0
After h user version asked messages fronts m done = Batched h user version asked (messages ++ messages_from (m.requests + 1) done.acts) fronts done.after

next_runs : (asked : Subscription) (fronts : List ℕ) (rows : List Row) (n : ℕ) (r : Running) → Runs asked fronts (Some r) → Runs asked fronts (next_feed_with rows n r)
next_runs asked fronts [] n r runs = elim (r.continuous) as (λ b. Runs asked fronts (if b then Some (record r { caught_up = true }) else None)) [ true ↦ runs | false ↦ tt ]
next_runs asked fronts (row ∷ rows) n r runs = runs

-- a feed goes on with these rows
goes : (h : List Entry) (user : List ℕ) (version : Version) (asked : Subscription) (messages : List Message) (fronts : List ℕ) (m : Machine) (acts : List Act) (requests : ℕ) (r : Running) (offers : List (List Row))
    → AreOffers version messages offers → with_rows offers ++ batches asked.batch r.rows ≡ flat_map (batches asked.batch) (looks_at h user asked.since asked.options fronts)
    → Runs asked fronts (Some r) → m.version ≡ version → OffersNone acts
    → After h user version asked messages fronts m (goes_on_feed m acts requests r)
goes h user version asked messages fronts m acts requests r offers are sum runs version_is none =
    let tail : with_rows (next_offers r) ++ batches asked.batch (drop r.batch r.rows) ≡ batches asked.batch r.rows =
    subst (λ size. with_rows (next_offers r) ++ batches size (drop r.batch r.rows) ≡ batches size r.rows) runs.1
    (ap (λ os. os ++ batches r.batch (drop r.batch r.rows)) (next_filled_by r (is_silent r) refl) ∙ next_batch r.batch r.rows) in record {
      offers = offers ++ next_offers r;
      are = offers_on version messages (messages_from (m.requests + 1) (acts ++ next_acts m.version r)) offers (next_offers r) are
          (subst (λ ms. AreOffers version ms (next_offers r)) (sym (messages_on (m.requests + 1) acts (next_acts m.version r)))
          (offers_on version (messages_from (m.requests + 1) acts) (messages_from (m.requests + 1 + requests_among acts) (next_acts m.version r)) [] (next_offers r)
          (none_of version (messages_from (m.requests + 1) acts) (none.none (m.requests + 1)))
          (subst (λ v. AreOffers version (messages_from (m.requests + 1 + requests_among acts) (next_acts v r)) (next_offers r)) (sym version_is) (next_are version (m.requests + 1 + requests_among acts) r))));
      sum = ap (λ rows. with_rows (offers ++ next_offers r) ++ batches asked.batch rows) (next_left requests r)
          ∙ ap (λ os. os ++ batches asked.batch (drop r.batch r.rows)) (filter-append (λ rows. not (is_none rows)) offers (next_offers r))
          ∙ append_assoc (with_rows offers) (with_rows (next_offers r)) (batches asked.batch (drop r.batch r.rows))
          ∙ ap (λ os. with_rows offers ++ os) tail ∙ sum;
      runs = next_runs asked fronts r.rows requests r runs;
      fits = fits_nothing (next_feed requests r);
      version_is = version_is;
    }

-- nothing is offered
same_offers : (h : List Entry) (user : List ℕ) (version : Version) (asked : Subscription) (messages : List Message) (fronts : List ℕ) (m : Machine) (done : Done)
    → Batched h user version asked messages fronts m → OffersNone done.acts → not_offered done.after.feed ≡ not_offered m.feed → Runs asked fronts done.after.feed → Fits done.after.feed done.after.pending
    → done.after.version ≡ m.version → After h user version asked messages fronts m done
same_offers h user version asked messages fronts m done so_far none same runs fits version_same = record {
  offers = so_far.offers;
  are = subst (AreOffers version (messages ++ messages_from (m.requests + 1) done.acts)) (append-nil so_far.offers)
      (offers_on version messages (messages_from (m.requests + 1) done.acts) so_far.offers [] so_far.are (none_of version (messages_from (m.requests + 1) done.acts) (none.none (m.requests + 1))));
  sum = ap (λ rows. with_rows so_far.offers ++ batches asked.batch rows) same ∙ so_far.sum;
  runs = runs;
  fits = fits;
  version_is = version_same ∙ so_far.version_is;
}

drops_again : (size : ℕ) (rows : List Row) → is_none (drop size rows) ≡ true → drop size (drop size rows) ≡ drop size rows
drops_again size rows none = drop_none size (drop size rows) (none_left (drop size rows) none) ∙ sym (none_left (drop size rows) none)

-- the rows of a later look
by_look : (h : List Entry) (user : List ℕ) (program : Program) (strict : Bool) (r : Running) (front : ℕ) (rows : List Row) (wanted : Option Want)
    → WantsFor (Some r) pending.More wanted → IsRight h user program strict wanted (event.Fed (fed.Rows front rows)) → rows ≡ feed (past h front) user (plain r.front) r.options
by_look h user program strict r front rows None w right = absurd w
by_look h user program strict r front rows (Some (want.Feed since options)) (since_is, options_is) (bound, rows_are) =
    rows_are ∙ ap (λ k. feed (past h front) user k options) since_is ∙ ap (feed (past h front) user (next_since r)) options_is
by_look h user program strict r front rows (Some (want.Bodies options wanted most)) w right = absurd w
by_look h user program strict r front rows (Some (want.Ask offers)) w right = absurd w
by_look h user program strict r front rows (Some (want.Propose revision)) w right = absurd w
by_look h user program strict r front rows (Some (want.GetCheckpoint client)) w right = absurd w
by_look h user program strict r front rows (Some (want.SetCheckpoint client rev body)) w right = absurd w

more_rows : (h : List Entry) (user : List ℕ) (version : Version) (asked : Subscription) (messages : List Message) (fronts : List ℕ) (m : Machine) (r : Running) (front : ℕ) (rows : List Row)
    → Batched h user version asked messages fronts m → m.feed ≡ Some r → is_none r.rows ≡ true → rows ≡ feed (past h front) user (plain r.front) r.options
    → After h user version asked messages (front ∷ fronts) m (goes_on_feed m [] m.requests (record r { rows = rows; front = front }))
more_rows h user version asked messages fronts m r front rows so_far e left are =
    let runs : Runs asked fronts (Some r) = subst (Runs asked fronts) e so_far.runs in
    let cut : List Row → List (List Row) = batches asked.batch in
    let none : not_offered m.feed ≡ [] = ap not_offered e ∙ drop_none r.batch r.rows (none_left r.rows left) in
    let all : with_rows so_far.offers ≡ flat_map cut (looks_at h user asked.since asked.options fronts) =
    sym (append-nil (with_rows so_far.offers)) ∙ ap (λ rs. with_rows so_far.offers ++ cut rs) (sym none) ∙ so_far.sum in
    let before : List (List Row) = looks_at h user asked.since asked.options (r.front ∷ runs.2.0) in
    let last : List Row = feed (past h front) user (plain r.front) asked.options in
    let sum : with_rows so_far.offers ++ cut rows ≡ flat_map cut (looks_at h user asked.since asked.options (front ∷ r.front ∷ runs.2.0)) =
    ap (λ os. os ++ cut rows) (all ∙ ap (λ fs. flat_map cut (looks_at h user asked.since asked.options fs)) runs.2.1)
    ∙ ap (λ rs. flat_map cut before ++ cut rs) (are ∙ ap (feed (past h front) user (plain r.front)) runs.0)
    ∙ ap (λ os. flat_map cut before ++ os) (sym (append-nil (cut last)))
    ∙ sym (flat_map-append cut before (last ∷ [])) in
    goes h user version asked messages (front ∷ fronts) m [] m.requests (record r { rows = rows; front = front }) so_far.offers so_far.are
    (sum ∙ ap (λ fs. flat_map cut (looks_at h user asked.since asked.options (front ∷ fs))) (sym runs.2.1)) (runs.0, runs.1, (fronts, refl)) so_far.version_is nothing_offered

-- ---- one step

event_batched : (h : List Entry) (user : List ℕ) (version : Version) (program : Program) (strict : Bool) (asked : Subscription) (messages : List Message) (fronts : List ℕ) (m : Machine) (x : Event) (done : Done) (wanted : Option Want)
    → Batched h user version asked messages fronts m → IsSome m.feed → WantsFor m.feed m.pending wanted → IsRight h user program strict wanted x → done.after.version ≡ m.version → Shape m.feed m.pending m x done
    → After h user version asked messages (feed_look x ++ fronts) m done
event_batched h user version program strict asked messages fronts m x done wanted so_far some w right same (stays none feed_same fits sized look closed) =
    subst (λ looks. After h user version asked messages (looks ++ fronts) m done) (sym (look some))
    (same_offers h user version asked messages fronts m done so_far none (ap not_offered feed_same) (subst (Runs asked fronts) (sym feed_same) so_far.runs)
    (subst (λ g. Fits g done.after.pending) (sym feed_same) fits) same)
event_batched h user version program strict asked messages fronts m x done wanted so_far some w right same (looks_next r acts requests is none left look closed e) =
    subst (λ looks. After h user version asked messages (looks ++ fronts) m done) (sym look)
    (subst (After h user version asked messages fronts m) (sym e)
    (same_offers h user version asked messages fronts m (looks_again m acts requests (rest r)) so_far none (drops_again r.batch r.rows left ∙ ap not_offered (sym is))
    (subst (Runs asked fronts) is so_far.runs) left refl))
event_batched h user version program strict asked messages fronts m x done wanted so_far some w right same (answers_all r acts requests is none counted look closed e) =
    subst (λ looks. After h user version asked messages (looks ++ fronts) m done) (sym look)
    (subst (After h user version asked messages fronts m) (sym e)
    (goes h user version asked messages fronts m acts requests (rest r) so_far.offers so_far.are
    (ap (λ g. with_rows so_far.offers ++ batches asked.batch (not_offered g)) (sym is) ∙ so_far.sum) (subst (Runs asked fronts) is so_far.runs) so_far.version_is none))
event_batched h user version program strict asked messages fronts m x done wanted so_far some w right same (begins_first other front rows is awaited came e) = absurd (false≢true (subst IsSome is some))
event_batched h user version program strict asked messages fronts m x done wanted so_far some w right same (has_more r front rows is awaited left came e) =
    let wants : WantsFor (Some r) pending.More wanted = subst (λ p. WantsFor (Some r) p wanted) awaited (subst (λ g. WantsFor g m.pending wanted) is w) in
    subst (λ y. After h user version asked messages (feed_look y ++ fronts) m done) (sym came)
    (subst (After h user version asked messages (front ∷ fronts) m) (sym e)
    (more_rows h user version asked messages fronts m r front rows so_far is left (by_look h user program strict r front rows wanted wants (subst (IsRight h user program strict wanted) came right))))

-- ---- all steps

-- what the law of conduct says
abbrev pub Wants : Type 0
Wants = (m : Machine) (event : Event) (done : Done) → Awaits m event → DoesForEvent m event done → WantsFor done.after.feed done.after.pending done.want

wants_after : Wants → (user : List ℕ) (version : Version) (strict : Bool) (steps : List SessionStep) (m : Machine) → Leads (new_machine user version strict) steps m → WantsFor m.feed m.pending (wanted_after steps)
wants_after wants user version strict [] m leads = subst (λ (m : Machine). WantsFor m.feed m.pending None) (sym leads) tt
wants_after wants user version strict (s ∷ steps) m (before, leads, made) =
    subst (λ (m : Machine). WantsFor m.feed m.pending s.want) (sym made.leads)
    (subst (WantsFor made.done.after.feed made.done.after.pending) (sym made.want) (wants before s.event made.done made.awaited made.does))

leads_on : (start first : Machine) (earlier : List SessionStep) → Leads start earlier first → (more : List SessionStep) (m : Machine) → LeadsFeed first more m → Leads start (more ++ earlier) m
leads_on start first earlier leads [] m e = subst (Leads start earlier) (sym e) leads
leads_on start first earlier leads (s ∷ more) m (before, feeds, runs, made) = (before, leads_on start first earlier leads more before feeds, made)

-- the rows of the first look
by_first : (h : List Entry) (user : List ℕ) (program : Program) (strict : Bool) (asked : Subscription) (front : ℕ) (rows : List Row) (f : Option Running) (wanted : Option Want)
    → WantsFor f (pending.Feed asked) wanted → IsRight h user program strict wanted (event.Fed (fed.Rows front rows)) → rows ≡ feed (past h front) user asked.since asked.options
by_first h user program strict asked front rows f None w right = absurd w
by_first h user program strict asked front rows f (Some (want.Feed since options)) (since_is, options_is) (bound, rows_are) =
    rows_are ∙ ap (λ k. feed (past h front) user k options) since_is ∙ ap (feed (past h front) user asked.since) options_is
by_first h user program strict asked front rows f (Some (want.Bodies options wanted most)) w right = absurd w
by_first h user program strict asked front rows f (Some (want.Ask offers)) w right = absurd w
by_first h user program strict asked front rows f (Some (want.Propose revision)) w right = absurd w
by_first h user program strict asked front rows f (Some (want.GetCheckpoint client)) w right = absurd w
by_first h user program strict asked front rows f (Some (want.SetCheckpoint client rev body)) w right = absurd w

-- a feed begins
begins : (h : List Entry) (user : List ℕ) (version : Version) (program : Program) (strict : Bool) (asked : Subscription) (front : ℕ) (rows : List Row) (before : Machine) (s : SessionStep) (first : Machine) (wanted : Option Want)
    → before.version ≡ version → before.pending ≡ pending.Feed asked → s.event ≡ event.Fed (fed.Rows front rows) → Steps before s first
    → WantsFor before.feed before.pending wanted → IsRight h user program strict wanted s.event
    → Batched h user version asked (put_by (s ∷ [])) (feed_looks (s ∷ [])) first
begins h user version program strict asked front rows before s first wanted version_is awaited came made w right =
    let does : made.done ≡ on_first_look before asked (fed.Rows front rows) =
    subst (λ p. made.done ≡ on_fed before (fed.Rows front rows) p) awaited (subst (λ x. DoesForEvent before x made.done) came made.does) in
    let are : rows ≡ feed (past h front) user asked.since asked.options =
    by_first h user program strict asked front rows before.feed wanted (subst (λ p. WantsFor before.feed p wanted) awaited w) (subst (IsRight h user program strict wanted) came right) in
    subst (λ fs. Batched h user version asked (put_by (s ∷ [])) fs first) (ap (λ x. feed_look x ++ []) (sym came))
    (subst (λ ms. Batched h user version asked ms (front ∷ []) first) (sym made.puts)
    (subst (Batched h user version asked (messages_from (before.requests + 1) made.done.acts) (front ∷ [])) (sym made.leads)
    (subst (After h user version asked [] (front ∷ []) before) (sym does)
    (goes h user version asked [] (front ∷ []) before (acceptance_act asked.asker) before.requests (first_running asked rows front) [] refl
    (ap (batches asked.batch) are ∙ sym (append-nil (batches asked.batch (feed (past h front) user asked.since asked.options))))
    (refl, refl, ([], refl)) version_is (acceptance_none asked.asker)))))

one_more : Keeps → (h : List Entry) (user : List ℕ) (version : Version) (program : Program) (strict : Bool) (asked : Subscription) (messages : List Message) (fronts : List ℕ) (before : Machine) (s : SessionStep) (after : Machine) (wanted : Option Want)
    → Batched h user version asked messages fronts before → IsSome before.feed → Steps before s after → WantsFor before.feed before.pending wanted → IsRight h user program strict wanted s.event
    → Batched h user version asked (messages ++ s.puts) (feed_look s.event ++ fronts) after
one_more keeps h user version program strict asked messages fronts before s after wanted so_far some made w right =
    subst (λ ms. Batched h user version asked (messages ++ ms) (feed_look s.event ++ fronts) after) (sym made.puts)
    (subst (Batched h user version asked (messages ++ messages_from (before.requests + 1) made.done.acts) (feed_look s.event ++ fronts)) (sym made.leads)
    (event_batched h user version program strict asked messages fronts before s.event made.done wanted so_far some w right (keeps before s.event made.done made.awaited made.does).version
    (shape before s.event made.done made.awaited made.does so_far.fits)))

feed_batched : Wants → Keeps → (h : List Entry) (user : List ℕ) (version : Version) (program : Program) (strict : Bool) (asked : Subscription) (earlier : List SessionStep) (s : SessionStep) (first : Machine)
    → Leads (new_machine user version strict) (s ∷ earlier) first → Batched h user version asked (put_by (s ∷ [])) (feed_looks (s ∷ [])) first
    → (more : List SessionStep) (m : Machine) → LeadsFeed first more m → AreRight h user program strict (more ++ s ∷ earlier)
    → Batched h user version asked (put_by (more ++ s ∷ [])) (feed_looks (more ++ s ∷ [])) m
feed_batched wants keeps h user version program strict asked earlier s first leads begun [] m e right = subst (Batched h user version asked (put_by (s ∷ [])) (feed_looks (s ∷ []))) (sym e) begun
feed_batched wants keeps h user version program strict asked earlier s first leads begun (t ∷ more) m (before, feeds, runs, made) right =
    one_more keeps h user version program strict asked (put_by (more ++ s ∷ [])) (feed_looks (more ++ s ∷ [])) before t m (wanted_after (more ++ s ∷ earlier))
    (feed_batched wants keeps h user version program strict asked earlier s first leads begun more before feeds right.1) runs made
    (wants_after wants user version strict (more ++ s ∷ earlier) before (leads_on (new_machine user version strict) first (s ∷ earlier) leads more before feeds)) right.0

right_before : (h : List Entry) (user : List ℕ) (program : Program) (strict : Bool) (more earlier : List SessionStep) → AreRight h user program strict (more ++ earlier) → AreRight h user program strict earlier
right_before h user program strict [] earlier right = right
right_before h user program strict (s ∷ more) earlier (one, right) = right_before h user program strict more earlier right

are_batches : Wants → Keeps → (h : List Entry) (user : List ℕ) (version : Version) (program : Program) (strict : Bool) (asked : Subscription) (front : ℕ) (rows : List Row) (earlier more : List SessionStep) (before first after : Machine) (s : SessionStep)
    → Leads (new_machine user version strict) earlier before → before.pending ≡ pending.Feed asked → s.event ≡ event.Fed (fed.Rows front rows) → Steps before s first
    → LeadsFeed first more after → AreRight h user program strict (more ++ s ∷ earlier)
    → (offers : List (List Row)) × AreOffers version (put_by (more ++ s ∷ [])) offers
    × (with_rows offers ++ batches asked.batch (not_offered after.feed) ≡ flat_map (batches asked.batch) (looks_at h user asked.since asked.options (feed_looks (more ++ s ∷ []))))
are_batches wants keeps h user version program strict asked front rows earlier more before first after s leads awaited came made feeds right =
    let all : Batched h user version asked (put_by (more ++ s ∷ [])) (feed_looks (more ++ s ∷ [])) after =
    feed_batched wants keeps h user version program strict asked earlier s first (before, leads, made)
    (begins h user version program strict asked front rows before s first (wanted_after earlier) (same_version keeps user version strict earlier before leads) awaited came made
    (wants_after wants user version strict earlier before leads) (right_before h user program strict more (s ∷ earlier) right).0) more after feeds right in
    (all.offers, all.are, all.sum)

pub offers_are_batches : Wants → Keeps → (h : List Entry) (user : List ℕ) (version : Version) (program : Program) (strict : Bool) (earlier : List SessionStep) (begin : SessionStep) (more : List SessionStep) (after : Machine)
    → (f : RunsFeed user version strict earlier begin more after) → AreRight h user program strict (more ++ begin ∷ earlier)
    → (offers : List (List Row)) × AreOffers version (put_by (more ++ begin ∷ [])) offers
    × (with_rows offers ++ batches f.asked.batch (not_offered after.feed) ≡ flat_map (batches f.asked.batch) (looks_at h user f.asked.since f.asked.options (feed_looks (more ++ begin ∷ []))))
offers_are_batches wants keeps h user version program strict earlier begin more after f right =
    are_batches wants keeps h user version program strict f.asked f.front f.rows earlier more f.before f.first after begin f.leads f.awaited f.event f.begins f.runs right
