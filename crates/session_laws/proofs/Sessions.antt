-- Resuming, over the feeds of sessions.
use Rattle.std.proofs.Common.{◌≡◌, ◌⊎◌, ◌≤◌, ℕ, Bool, List, [], ◌∷◌, ◌++◌, length, Option, Some, None, refl, sym, ◌∙◌, ap, subst, arith, le_trans}
use Rattle.std.proofs.lemmas.List.{append_assoc, map-append}
use Rattle.std.specs.Arc.{arc_value}
use Rattle.sg_outside.specs.declared.sink.Gave.{Gave}
use Rattle.sg_outside.specs.declared.wire.Got.{Got}
use Rattle.sg_history.specs.declared.entries.Entry.{Entry}
use Rattle.sg_history.specs.declared.row.Options.{Options}
use Rattle.sg_history.specs.declared.row.Row.{Row}
use Rattle.sg_history.specs.Feed.{feed}
use Rattle.sg_names.specs.declared.key.Key.{Key}
use Rattle.repl_messages.specs.declared.looks.Fed.TheVariants as fed
use Rattle.repl_messages.specs.declared.request.Version.{Version}
use Rattle.feed_rows.specs.Laws.{HasRow, IsAhead, Rising, all_of}
use Rattle.sync_syntax.specs.declared.tree.Program.{Program}
use Rattle.session_core.specs.declared.act.Want.{Want}
use Rattle.session_core.specs.declared.act.Want.TheVariants as want
use Rattle.session_core.specs.declared.event.Event.{Event}
use Rattle.session_core.specs.declared.event.Event.TheVariants as event
use Rattle.session_core.specs.declared.machine.Pending.{Pending}
use Rattle.session_core.specs.declared.machine.Pending.TheVariants as pending
use Rattle.session_core.specs.declared.machine.Subscription.{Subscription}
use Rattle.session_core.specs.Conduct.{WantsFor, AreWithin}
use Rattle.session_core.specs.Feeds.{AreRowsOffered, RunsFeed, not_offered, feed_rows_at, feed_look, feed_looks}
use Rattle.session_core.specs.Fronts.{look_of, looks_of, fronts_of, RiseBetween}
use Rattle.session_core.specs.Right.{IsRight, AreRight}
use Rattle.session_core.specs.Running.{Running}
use Rattle.session_core.specs.State.{Machine, Awaits, new_machine}
use Rattle.session_core.specs.Steps.{SessionStep, Leads, put_by, wanted_after}
use Rattle.session_core.specs.Transitions.{Done, DoesForEvent}
use Rattle.write_path.specs.Reads.{IsLaterThanAll}
use Rattle.session_run.specs.declared.ended.Ended.{Ended}
use Rattle.session_run.specs.declared.serve.Setup.{Setup}
use Rattle.session_run.specs.Answered.{Moment, AreAnswered, look_fronts}
use Rattle.session_run.specs.Served.{IsSession}
use Rattle.session_run.specs.Turns.{undone, steps_of}
use Rattle.session_laws.specs.Rising.{AreFronts, IsWithin}
use Rattle.session_laws.proofs.Opening.{asked_sized}
use Rattle.session_laws.proofs.Resuming.{Members, Ordered, Plainly, looks_rise, resumes}

-- ---- what was wanted

abbrev pub Wants : Type 0
Wants = (m : Machine) (e : Event) (done : Done) → Awaits m e → DoesForEvent m e done → WantsFor done.after.feed done.after.pending done.want

wants_feed : (feed : Option Running) (asked : Subscription) (w : Option Want) → WantsFor feed (pending.Feed asked) w → w ≡ Some (want.Feed asked.since asked.options)
wants_feed feed asked None wants = absurd wants
wants_feed feed asked (Some (want.Feed since options)) (same, too) = ap (λ (k : Key). Some (want.Feed k options)) same ∙ ap (λ (o : Options). Some (want.Feed asked.since o)) too
wants_feed feed asked (Some (want.Bodies options rows most)) wants = absurd wants
wants_feed feed asked (Some (want.Ask offers)) wants = absurd wants
wants_feed feed asked (Some (want.Propose revision)) wants = absurd wants
wants_feed feed asked (Some (want.GetCheckpoint client)) wants = absurd wants
wants_feed feed asked (Some (want.SetCheckpoint client rev body)) wants = absurd wants

abbrev IsIdle : Pending → Type 0
IsIdle pending.Nothing = Unit {0}
IsIdle other = ⊥

wanted_at : Wants → (user : List ℕ) (version : Version) (strict : Bool) (earlier : List SessionStep) (before : Machine) (asked : Subscription)
    → Leads (new_machine user version strict) earlier before → before.pending ≡ pending.Feed asked → wanted_after earlier ≡ Some (want.Feed asked.since asked.options)
wanted_at law user version strict [] before asked is awaited = absurd (subst IsIdle (sym (ap (λ (m : Machine). m.pending) is) ∙ awaited) tt)
wanted_at law user version strict (s ∷ earlier) before asked (m, leads, made) awaited =
    made.want ∙ wants_feed made.done.after.feed asked made.done.want
    (subst (λ p. WantsFor made.done.after.feed p made.done.want) (sym (ap (λ (m : Machine). m.pending) made.leads) ∙ awaited) (law m s.event made.done made.awaited made.does))

-- ---- the first look

right_at : (h : List Entry) (user : List ℕ) (program : Program) (strict : Bool) (more : List SessionStep) (s : SessionStep) (earlier : List SessionStep) → AreRight h user program strict (more ++ s ∷ earlier) → IsRight h user program strict (wanted_after earlier) s.event
right_at h user program strict [] s earlier right = right.0
right_at h user program strict (x ∷ more) s earlier right = right_at h user program strict more s earlier right.1

first_within : (h : List Entry) (user : List ℕ) (program : Program) (strict : Bool) (asked : Subscription) (front : ℕ) (rows : List Row) (wanted : Option Want) (e : Event) → wanted ≡ Some (want.Feed asked.since asked.options)
    → e ≡ event.Fed (fed.Rows front rows) → IsRight h user program strict wanted e → asked.since.by ≤ front
first_within h user program strict asked front rows wanted e is came right =
    (subst (λ (e : Event). IsRight h user program strict (Some (want.Feed asked.since asked.options)) e) came (subst (λ (w : Option Want). IsRight h user program strict w e) is right)).0

within_on : (by : ℕ) (fronts : List ℕ) (front : ℕ) → by ≤ front → IsWithin by (fronts ++ front ∷ [])
within_on by [] front within = within
within_on by (f ∷ []) front within = within
within_on by (f ∷ g ∷ fronts) front within = within_on by (g ∷ fronts) front within

-- ---- fronts

looks_append : (more earlier : List SessionStep) → feed_looks (more ++ earlier) ≡ feed_looks more ++ feed_looks earlier
looks_append [] earlier = refl
looks_append (s ∷ more) earlier = ap (λ fs. feed_look s.event ++ fs) (looks_append more earlier) ∙ sym (append_assoc (feed_look s.event) (feed_looks more) (feed_looks earlier))

-- of the looks of all steps, those of the last ones
looks_split : (more : List SessionStep) (s : SessionStep) (earlier : List SessionStep) → feed_looks (more ++ s ∷ earlier) ≡ feed_looks (more ++ s ∷ []) ++ feed_looks earlier
looks_split more s earlier =
    ap (λ (steps : List SessionStep). feed_looks steps) (sym (append_assoc more (s ∷ []) earlier)) ∙ looks_append (more ++ s ∷ []) earlier

drop_tail : (low : ℕ) (first second : List ℕ) (high : ℕ) → AreFronts low (first ++ second) high → AreFronts 0 first high
drop_tail low [] second high are = omega arith
drop_tail low (front ∷ first) second high (below, are) = (below, drop_tail low first second front are)

last_rise : (more : List SessionStep) (begin : SessionStep) (earlier : List SessionStep) (low high : ℕ) → AreFronts low (feed_looks (more ++ begin ∷ earlier)) high → AreFronts 0 (feed_looks (more ++ begin ∷ [])) high
last_rise more begin earlier low high are =
    drop_tail low (feed_looks (more ++ begin ∷ [])) (feed_looks earlier) high (subst (λ fs. AreFronts low fs high) (looks_split more begin earlier) are)

capped : (fronts : List ℕ) (high most : ℕ) → AreFronts 0 fronts high → AreWithin most fronts → AreFronts 0 fronts most
capped [] high most are within = omega arith
capped (front ∷ fronts) high most (below, are) (first, within) = (first, are)

split_within : (most : ℕ) (first second : List ℕ) → AreWithin most (first ++ second) → AreWithin most first × AreWithin most second
split_within most [] second within = (tt, within)
split_within most (front ∷ first) second (below, within) =
    let both : AreWithin most first × AreWithin most second = split_within most first second within in
    ((below, both.0), both.1)

join_within : (most : ℕ) (first second : List ℕ) → AreWithin most first → AreWithin most second → AreWithin most (first ++ second)
join_within most [] second a b = b
join_within most (front ∷ first) second (below, a) b = (below, join_within most first second a b)

event_within : (most : ℕ) (e : Event) → AreWithin most (look_fronts (look_of e)) → AreWithin most (feed_look e)
event_within most (event.Whole message) within = tt
event_within most (event.Idle front) within = tt
event_within most (event.Fed answer) within = within
event_within most (event.Bodies b) within = tt
event_within most (event.Asked answer) within = tt
event_within most (event.Judged outcome) within = tt
event_within most (event.Got kept) within = tt
event_within most (event.Set answer) within = tt

feeds_within : (most : ℕ) (steps : List SessionStep) → AreWithin most (look_fronts (looks_of steps)) → AreWithin most (feed_looks steps)
feeds_within most [] within = tt
feeds_within most (s ∷ earlier) within =
    let both : AreWithin most (look_fronts (looks_of earlier)) × AreWithin most (look_fronts (look_of s.event)) =
    split_within most (look_fronts (looks_of earlier)) (look_fronts (look_of s.event)) (subst (AreWithin most) (map-append _ (looks_of earlier) (look_of s.event)) within) in
    join_within most (feed_look s.event) (feed_looks earlier) (event_within most s.event both.1) (feeds_within most earlier both.0)

-- ---- resuming

abbrev pub AnswersRight : Type 0
AnswersRight = (start now : Moment) (user : List ℕ) (program : Program) (strict : Bool) (steps : List SessionStep) (h : List Entry) → AreAnswered start user program strict steps now → IsLaterThanAll now.read h → AreRight h user program strict steps

abbrev pub AnswersRise : Type 0
AnswersRise = (start now : Moment) (user : List ℕ) (program : Program) (strict : Bool) (steps : List SessionStep) → AreAnswered start user program strict steps now → RiseBetween start.lowest (fronts_of steps) now.lowest

abbrev pub AnswersWithin : Type 0
AnswersWithin = (start now : Moment) (user : List ℕ) (program : Program) (strict : Bool) (steps : List SessionStep) (h : List Entry) → AreAnswered start user program strict steps now → IsLaterThanAll now.read h
    → AreWithin (length h) (look_fronts (looks_of steps))

abbrev pub Feeds : Type 0
Feeds = (h : List Entry) (user : List ℕ) (version : Version) (program : Program) (strict : Bool) (earlier : List SessionStep) (begin : SessionStep) (more : List SessionStep) (after : Machine)
    → (f : RunsFeed user version strict earlier begin more after) → AreRight h user program strict (more ++ begin ∷ earlier)
    → (offered : List Row) × AreRowsOffered version (put_by (more ++ begin ∷ [])) offered
    × (offered ++ not_offered after.feed ≡ feed_rows_at h user f.asked.since f.asked.options (feed_looks (more ++ begin ∷ [])))

pub resume_sessions : Members → Ordered → Plainly → Wants → Feeds → AnswersRight → AnswersRise → AnswersWithin
    → (start now : Moment) (h : List Entry) (user : List ℕ) (version : Version) (program : Program) (strict : Bool) (earlier : List SessionStep) (begin : SessionStep) (more : List SessionStep) (after : Machine)
    → (f : RunsFeed user version strict earlier begin more after) → AreAnswered start user program strict (more ++ begin ∷ earlier) now → IsLaterThanAll now.read h
    → (offered : List Row) × AreRowsOffered version (put_by (more ++ begin ∷ [])) offered
    × (offered ++ not_offered after.feed ≡ feed_rows_at h user f.asked.since f.asked.options (feed_looks (more ++ begin ∷ [])))
    × ((sent row : Row) → HasRow offered sent → HasRow (feed (all_of h) user f.asked.since f.asked.options) row
    → HasRow offered row ⊎ IsAhead (feed (all_of h) user sent.key f.asked.options) sent.key row)
resume_sessions members ordered plainly wants feeds rights rises within start now h user version program strict earlier begin more after f answered later =
    let right : AreRight h user program strict (more ++ begin ∷ earlier) = rights start now user program strict (more ++ begin ∷ earlier) h answered later in
    let by : f.asked.since.by ≤ f.front =
    first_within h user program strict f.asked f.front f.rows (wanted_after earlier) begin.event (wanted_at wants user version strict earlier f.before f.asked f.leads f.awaited) f.event (right_at h user program strict more begin earlier right) in
    let first_look : IsWithin f.asked.since.by (feed_looks (more ++ begin ∷ [])) =
    subst (IsWithin f.asked.since.by) (sym (looks_append more (begin ∷ []) ∙ ap (λ (e : Event). feed_looks more ++ (feed_look e ++ [])) f.event)) (within_on f.asked.since.by (feed_looks more) f.front by) in
    let rise : AreFronts 0 (feed_looks (more ++ begin ∷ [])) now.lowest =
    last_rise more begin earlier start.lowest now.lowest (looks_rise (more ++ begin ∷ earlier) start.lowest now.lowest (rises start now user program strict (more ++ begin ∷ earlier) answered)) in
    let bounded : AreWithin (length h) (feed_looks (more ++ begin ∷ [])) =
    (split_within (length h) (feed_looks (more ++ begin ∷ [])) (feed_looks earlier) (subst (AreWithin (length h)) (looks_split more begin earlier)
    (feeds_within (length h) (more ++ begin ∷ earlier) (within start now user program strict (more ++ begin ∷ earlier) h answered later)))).0 in
    let fronts : AreFronts 0 (feed_looks (more ++ begin ∷ [])) (length h) = capped (feed_looks (more ++ begin ∷ [])) now.lowest (length h) rise bounded in
    let given : (offered : List Row) × AreRowsOffered version (put_by (more ++ begin ∷ [])) offered
    × (offered ++ not_offered after.feed ≡ feed_rows_at h user f.asked.since f.asked.options (feed_looks (more ++ begin ∷ []))) =
    feeds h user version program strict earlier begin more after f right in (
      given.0,
      given.1,
      given.2,
      λ sent row has there.
          resumes members ordered plainly h user f.asked.since f.asked.options (feed_looks (more ++ begin ∷ [])) given.0 (not_offered after.feed) sent row (asked_sized user version strict earlier f.before f.asked f.leads f.awaited).2 first_look fronts given.2 has there,
    )

-- ---- whole sessions

abbrev pub Rights : Type 0
Rights = (setup : Setup) (start final : Moment) (ended : Ended) (results : List Got) (sent : List (List ℕ)) (failed : List Gave) (h : List Entry)
    → (session : IsSession setup start final ended results sent failed) → IsLaterThanAll final.read h → AreRight h setup.user (arc_value setup.program) setup.strict (steps_of session.turns)

abbrev pub RowsRise : Type 0
RowsRise = (h : List Entry) (user : List ℕ) (since : Key) (options : Options) (fronts : List ℕ) (high : ℕ) → AreFronts 0 fronts high → Rising (feed_rows_at h user since options fronts)

abbrev pub LooksRise : Type 0
LooksRise = (steps : List SessionStep) (low high : ℕ) → RiseBetween low (fronts_of steps) high → AreFronts low (feed_looks steps) high

right_behind : (h : List Entry) (user : List ℕ) (program : Program) (strict : Bool) (later steps : List SessionStep) → AreRight h user program strict (later ++ steps) → AreRight h user program strict steps
right_behind h user program strict [] steps right = right
right_behind h user program strict (s ∷ later) steps right = right_behind h user program strict later steps right.1

raised : (low : ℕ) (fronts : List ℕ) (middle high : ℕ) → AreFronts low fronts middle → middle ≤ high → AreFronts low fronts high
raised low [] middle high are below = le_trans are below
raised low (front ∷ fronts) middle high (first, are) below = (le_trans first below, are)

drop_head : (low : ℕ) (first second : List ℕ) (high : ℕ) → AreFronts low (first ++ second) high → AreFronts low second high
drop_head low [] second high are = are
drop_head low (front ∷ first) second high (below, are) = raised low second front high (drop_head low first second front are) below

-- the fronts of the looks of the first steps don't fall, since those of all don't
first_rise : (later steps : List SessionStep) (low high : ℕ) → AreFronts low (feed_looks (later ++ steps)) high → AreFronts low (feed_looks steps) high
first_rise later steps low high are =
    drop_head low (feed_looks later) (feed_looks steps) high (subst (λ fs. AreFronts low fs high) (looks_append later steps) are)

pub offered_whole : Feeds → RowsRise → LooksRise → AnswersRise → Rights
    → (setup : Setup) (start final : Moment) (ended : Ended) (results : List Got) (sent : List (List ℕ)) (failed : List Gave) (h : List Entry) (earlier : List SessionStep) (begin : SessionStep) (more later : List SessionStep) (after : Machine)
    → (session : IsSession setup start final ended results sent failed) → steps_of session.turns ≡ later ++ (more ++ begin ∷ earlier)
    → (f : RunsFeed setup.user setup.version setup.strict earlier begin more after) → IsLaterThanAll final.read h
    → (offered : List Row) × AreRowsOffered setup.version (put_by (more ++ begin ∷ [])) offered
    × (offered ++ not_offered after.feed ≡ feed_rows_at h setup.user f.asked.since f.asked.options (feed_looks (more ++ begin ∷ [])))
    × Rising (offered ++ not_offered after.feed)
offered_whole feeds rows_rise looks_rise rises rights setup start final ended results sent failed h earlier begin more later after session split f is_later =
    let given : (offered : List Row) × AreRowsOffered setup.version (put_by (more ++ begin ∷ [])) offered
    × (offered ++ not_offered after.feed ≡ feed_rows_at h setup.user f.asked.since f.asked.options (feed_looks (more ++ begin ∷ []))) =
    feeds h setup.user setup.version (arc_value setup.program) setup.strict earlier begin more after f
    (right_behind h setup.user (arc_value setup.program) setup.strict later (more ++ begin ∷ earlier)
    (subst (AreRight h setup.user (arc_value setup.program) setup.strict) split (rights setup start final ended results sent failed h session is_later))) in
    let all : AreFronts start.lowest (feed_looks (steps_of session.turns)) session.now.lowest =
    first_rise (undone session.halted) (steps_of session.turns) start.lowest session.now.lowest
    (looks_rise (undone session.halted ++ steps_of session.turns) start.lowest session.now.lowest
    (rises start session.now setup.user (arc_value setup.program) setup.strict (undone session.halted ++ steps_of session.turns) session.answered)) in
    let fronts : AreFronts 0 (feed_looks (more ++ begin ∷ [])) session.now.lowest =
    last_rise more begin earlier start.lowest session.now.lowest
    (first_rise later (more ++ begin ∷ earlier) start.lowest session.now.lowest (subst (λ (steps : List SessionStep). AreFronts start.lowest (feed_looks steps) session.now.lowest) split all)) in (
      given.0,
      given.1,
      given.2,
      subst Rising (sym given.2) (rows_rise h setup.user f.asked.since f.asked.options (feed_looks (more ++ begin ∷ [])) session.now.lowest fronts),
    )
