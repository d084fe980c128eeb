-- sessions over one history, by the laws of sessions
use Rattle.std.proofs.Common.{◌≡◌, ◌⊎◌, ℕ, Bool, List, [], ◌∷◌, ◌++◌, Option, Some, None, map, reverse, subst}
use Rattle.std.specs.Arc.{arc_value}
use Rattle.sg_outside.specs.declared.sink.Gave.{Gave}
use Rattle.sg_outside.specs.declared.wire.Got.{Got}
use Rattle.sg_history.specs.declared.book.Waiting.{Waiting}
use Rattle.sg_history.specs.declared.entries.Entry.{Entry}
use Rattle.sg_history.specs.declared.row.Row.{Row}
use Rattle.sg_history.specs.Board.{BoardState}
use Rattle.sg_history.specs.Feed.{feed}
use Rattle.feed_rows.specs.Laws.{HasRow, IsAhead, all_of}
use Rattle.repl_messages.specs.declared.request.Version.{Version}
use Rattle.sync_syntax.specs.declared.tree.Program.{Program}
use Rattle.session_core.specs.declared.act.Want.{Want}
use Rattle.session_core.specs.declared.act.Want.TheVariants as want
use Rattle.session_core.specs.declared.event.Event.{Event}
use Rattle.session_core.specs.declared.event.Event.TheVariants as event
use Rattle.session_core.specs.Feeds.{AreRowsOffered, RunsFeed, feed_looks, not_offered, feed_rows_at}
use Rattle.session_core.specs.Right.{AreRight}
use Rattle.session_core.specs.State.{Machine, new_machine}
use Rattle.session_core.specs.Steps.{Leads, SessionStep, put_by, wanted_after}
use Rattle.write_path.specs.Reads.{IsLaterThanAll, Reads}
use Rattle.session_run.specs.declared.ended.Ended.{Ended}
use Rattle.session_run.specs.declared.serve.Setup.{Setup}
use Rattle.session_run.specs.Answered.{AreAnswered, IsEventAnswered, Moment}
use Rattle.session_run.specs.Judged.{AreJudged}
use Rattle.session_run.specs.Own.{HaveOwnBodies}
use Rattle.session_run.specs.Served.{IsSession}
use Rattle.session_run.specs.Turns.{AreLed, SessionTurn, steps_of, undone}
use Rattle.session_threads.specs.Played.{Device, IsSessionOf, Leaves}

-- ---- what is said of each session

abbrev pub LeadsLaw : Type 0
LeadsLaw = (user : List ℕ) (version : Version) (strict : Bool) (halted : Option Event) (turns : List SessionTurn) (m : Machine)
    → AreLed (new_machine user version strict) halted turns m → Leads (new_machine user version strict) (steps_of turns) m

abbrev pub RightLaw : Type 0
RightLaw = (setup : Setup) (start final : Moment) (ended : Ended) (results : List Got) (sent : List (List ℕ)) (failed : List Gave) (h : List Entry) → (session : IsSession setup start final ended results sent failed)
    → IsLaterThanAll final.read h → AreRight h setup.user (arc_value setup.program) setup.strict (steps_of session.turns)

abbrev pub BodiesLaw : Type 0
BodiesLaw = (setup : Setup) (start final : Moment) (ended : Ended) (results : List Got) (sent : List (List ℕ)) (failed : List Gave) (h : List Entry) → (session : IsSession setup start final ended results sent failed)
    → IsLaterThanAll final.read h → HaveOwnBodies h setup.user (new_machine setup.user setup.version setup.strict) (steps_of session.turns)

-- what holds of a setup's user, version, strictness and program holds of the device's and the given ones
of_device : (P : List ℕ → Version → Bool → Program → Type 0) (board : BoardState) (program : Program) (strict : Bool) (device : Device) (left : Leaves) (is : IsSessionOf board program strict device left)
    → P is.setup.user is.setup.version is.setup.strict (arc_value is.setup.program) → P device.user device.version strict program
of_device P board program strict device left is so =
    subst (λ (u : List ℕ). P u device.version strict program) is.is_setup.user
    (subst (λ (v : Version). P is.setup.user v strict program) is.is_setup.version
    (subst (λ (b : Bool). P is.setup.user is.setup.version b program) is.is_setup.strictness
    (subst (λ (p : Program). P is.setup.user is.setup.version is.setup.strict p) is.is_setup.judged_by so)))

pub leads_in : LeadsLaw → (board : BoardState) (program : Program) (strict : Bool) (device : Device) (left : Leaves) (is : IsSessionOf board program strict device left)
    → Leads (new_machine device.user device.version strict) (steps_of is.served.session.turns) is.served.session.machine
leads_in law board program strict device left is =
    of_device (λ u v b p. Leads (new_machine u v b) (steps_of is.served.session.turns) is.served.session.machine) board program strict device left is
    (law is.setup.user is.setup.version is.setup.strict is.served.session.halted is.served.session.turns is.served.session.machine is.served.session.led)

pub right_in : RightLaw → (board : BoardState) (program : Program) (strict : Bool) (device : Device) (left : Leaves) (is : IsSessionOf board program strict device left)
    → AreRight board.log device.user program strict (steps_of is.served.session.turns)
right_in law board program strict device left is =
    of_device (λ u v b p. AreRight board.log u p b (steps_of is.served.session.turns)) board program strict device left is
    (law is.setup is.start is.final left.ended is.served.results is.served.sent is.served.failed board.log is.served.session is.later)

pub bodies_in : BodiesLaw → (board : BoardState) (program : Program) (strict : Bool) (device : Device) (left : Leaves) (is : IsSessionOf board program strict device left)
    → HaveOwnBodies board.log device.user (new_machine device.user device.version strict) (steps_of is.served.session.turns)
bodies_in law board program strict device left is =
    of_device (λ u v b p. HaveOwnBodies board.log u (new_machine u v b) (steps_of is.served.session.turns)) board program strict device left is
    (law is.setup is.start is.final left.ended is.served.results is.served.sent is.served.failed board.log is.served.session is.later)

abbrev pub OwnLaw : Type 0
OwnLaw = (setup : Setup) (start final : Moment) (ended : Ended) (results : List Got) (sent : List (List ℕ)) (failed : List Gave) → IsSession setup start final ended results sent failed
    → (added : List Waiting) × (final.own ≡ added ++ start.own) × (map (λ (w : Waiting). w.number) added ≡ reverse ended.stored) × AreJudged (arc_value setup.program) setup.user start.read final.read added

pub own_in : OwnLaw → (board : BoardState) (program : Program) (strict : Bool) (device : Device) (left : Leaves) (is : IsSessionOf board program strict device left)
    → (added : List Waiting) × (is.final.own ≡ added ++ is.start.own) × (map (λ (w : Waiting). w.number) added ≡ reverse left.ended.stored) × AreJudged program device.user is.start.read is.final.read added
own_in law board program strict device left is =
    of_device (λ u v b p. (added : List Waiting) × (is.final.own ≡ added ++ is.start.own) × (map (λ (w : Waiting). w.number) added ≡ reverse left.ended.stored) × AreJudged p u is.start.read is.final.read added) board program strict device left is
    (law is.setup is.start is.final left.ended is.served.results is.served.sent is.served.failed is.served.session)

-- ---- what was read before

later_than_first : (added before : List BoardState) (h : List Entry) → IsLaterThanAll (added ++ before) h → IsLaterThanAll before h
later_than_first [] before h later = later
later_than_first (b ∷ added) before h later = later_than_first added before h later.1

pub later_before : (before after : List BoardState) (low high : ℕ) (h : List Entry) → Reads before after low high → IsLaterThanAll after h → IsLaterThanAll before h
later_before before after low high h reads later = later_than_first reads.added before h (subst (λ bs. IsLaterThanAll bs h) reads.read later)

later_than_answered : (before after : Moment) (user : List ℕ) (program : Program) (strict : Bool) (wanted : Option Want) (e : Event) (h : List Entry) → IsEventAnswered before user program strict wanted e after → IsLaterThanAll after.read h → IsLaterThanAll before.read h
later_than_answered before after user program strict None (event.Whole message) h answered later = subst (λ (m : Moment). IsLaterThanAll m.read h) answered later
later_than_answered before after user program strict None (event.Idle front) h answered later = subst (λ bs. IsLaterThanAll bs h) answered.read later
later_than_answered before after user program strict None (event.Fed answer) h answered later = absurd answered
later_than_answered before after user program strict None (event.Bodies answer) h answered later = absurd answered
later_than_answered before after user program strict None (event.Asked answer) h answered later = absurd answered
later_than_answered before after user program strict None (event.Judged answer) h answered later = absurd answered
later_than_answered before after user program strict None (event.Got answer) h answered later = absurd answered
later_than_answered before after user program strict None (event.Set answer) h answered later = absurd answered
later_than_answered before after user program strict (Some (want.Feed since options)) (event.Whole message) h answered later = absurd answered
later_than_answered before after user program strict (Some (want.Feed since options)) (event.Idle front) h answered later = absurd answered
later_than_answered before after user program strict (Some (want.Feed since options)) (event.Fed answer) h answered later =
    later_before before.read after.read before.lowest after.lowest h answered.0.reads later
later_than_answered before after user program strict (Some (want.Feed since options)) (event.Bodies answer) h answered later = absurd answered
later_than_answered before after user program strict (Some (want.Feed since options)) (event.Asked answer) h answered later = absurd answered
later_than_answered before after user program strict (Some (want.Feed since options)) (event.Judged answer) h answered later = absurd answered
later_than_answered before after user program strict (Some (want.Feed since options)) (event.Got answer) h answered later = absurd answered
later_than_answered before after user program strict (Some (want.Feed since options)) (event.Set answer) h answered later = absurd answered
later_than_answered before after user program strict (Some (want.Bodies options rows most)) (event.Whole message) h answered later = absurd answered
later_than_answered before after user program strict (Some (want.Bodies options rows most)) (event.Idle front) h answered later = absurd answered
later_than_answered before after user program strict (Some (want.Bodies options rows most)) (event.Fed answer) h answered later = absurd answered
later_than_answered before after user program strict (Some (want.Bodies options rows most)) (event.Bodies answer) h answered later =
    later_before before.read after.read before.lowest after.lowest h answered.0.reads later
later_than_answered before after user program strict (Some (want.Bodies options rows most)) (event.Asked answer) h answered later = absurd answered
later_than_answered before after user program strict (Some (want.Bodies options rows most)) (event.Judged answer) h answered later = absurd answered
later_than_answered before after user program strict (Some (want.Bodies options rows most)) (event.Got answer) h answered later = absurd answered
later_than_answered before after user program strict (Some (want.Bodies options rows most)) (event.Set answer) h answered later = absurd answered
later_than_answered before after user program strict (Some (want.Ask offers)) (event.Whole message) h answered later = absurd answered
later_than_answered before after user program strict (Some (want.Ask offers)) (event.Idle front) h answered later = absurd answered
later_than_answered before after user program strict (Some (want.Ask offers)) (event.Fed answer) h answered later = absurd answered
later_than_answered before after user program strict (Some (want.Ask offers)) (event.Bodies answer) h answered later = absurd answered
later_than_answered before after user program strict (Some (want.Ask offers)) (event.Asked answer) h answered later =
    later_before before.read after.read before.lowest after.lowest h answered.0.reads later
later_than_answered before after user program strict (Some (want.Ask offers)) (event.Judged answer) h answered later = absurd answered
later_than_answered before after user program strict (Some (want.Ask offers)) (event.Got answer) h answered later = absurd answered
later_than_answered before after user program strict (Some (want.Ask offers)) (event.Set answer) h answered later = absurd answered
later_than_answered before after user program strict (Some (want.Propose r)) (event.Whole message) h answered later = absurd answered
later_than_answered before after user program strict (Some (want.Propose r)) (event.Idle front) h answered later = absurd answered
later_than_answered before after user program strict (Some (want.Propose r)) (event.Fed answer) h answered later = absurd answered
later_than_answered before after user program strict (Some (want.Propose r)) (event.Bodies answer) h answered later = absurd answered
later_than_answered before after user program strict (Some (want.Propose r)) (event.Asked answer) h answered later = absurd answered
later_than_answered before after user program strict (Some (want.Propose r)) (event.Judged answer) h answered later =
    later_before before.read after.read before.lowest after.lowest h answered.stores.reads later
later_than_answered before after user program strict (Some (want.Propose r)) (event.Got answer) h answered later = absurd answered
later_than_answered before after user program strict (Some (want.Propose r)) (event.Set answer) h answered later = absurd answered
later_than_answered before after user program strict (Some (want.GetCheckpoint client)) (event.Whole message) h answered later = absurd answered
later_than_answered before after user program strict (Some (want.GetCheckpoint client)) (event.Idle front) h answered later = absurd answered
later_than_answered before after user program strict (Some (want.GetCheckpoint client)) (event.Fed answer) h answered later = absurd answered
later_than_answered before after user program strict (Some (want.GetCheckpoint client)) (event.Bodies answer) h answered later = absurd answered
later_than_answered before after user program strict (Some (want.GetCheckpoint client)) (event.Asked answer) h answered later = absurd answered
later_than_answered before after user program strict (Some (want.GetCheckpoint client)) (event.Judged answer) h answered later = absurd answered
later_than_answered before after user program strict (Some (want.GetCheckpoint client)) (event.Got answer) h answered later = later_before before.read after.read before.lowest after.lowest h answered.0.reads later
later_than_answered before after user program strict (Some (want.GetCheckpoint client)) (event.Set answer) h answered later = absurd answered
later_than_answered before after user program strict (Some (want.SetCheckpoint client rev body)) (event.Whole message) h answered later = absurd answered
later_than_answered before after user program strict (Some (want.SetCheckpoint client rev body)) (event.Idle front) h answered later = absurd answered
later_than_answered before after user program strict (Some (want.SetCheckpoint client rev body)) (event.Fed answer) h answered later = absurd answered
later_than_answered before after user program strict (Some (want.SetCheckpoint client rev body)) (event.Bodies answer) h answered later = absurd answered
later_than_answered before after user program strict (Some (want.SetCheckpoint client rev body)) (event.Asked answer) h answered later = absurd answered
later_than_answered before after user program strict (Some (want.SetCheckpoint client rev body)) (event.Judged answer) h answered later = absurd answered
later_than_answered before after user program strict (Some (want.SetCheckpoint client rev body)) (event.Got answer) h answered later = absurd answered
later_than_answered before after user program strict (Some (want.SetCheckpoint client rev body)) (event.Set answer) h answered later = later_before before.read after.read before.lowest after.lowest h answered.reads later

-- the steps up to some of them were answered by a moment of which the same history is later
pub answered_by_then : (start now : Moment) (user : List ℕ) (program : Program) (strict : Bool) (later_steps steps : List SessionStep) (h : List Entry) → AreAnswered start user program strict (later_steps ++ steps) now → IsLaterThanAll now.read h
    → (then : Moment) × AreAnswered start user program strict steps then × IsLaterThanAll then.read h
answered_by_then start now user program strict [] steps h answered later = (now, answered, later)
answered_by_then start now user program strict (s ∷ later_steps) steps h (between, before, one) later =
    answered_by_then start between user program strict later_steps steps h before (later_than_answered between now user program strict (wanted_after (later_steps ++ steps)) s.event h one later)

-- ---- resuming

abbrev pub ResumeLaw : Type 0
ResumeLaw = (start now : Moment) (h : List Entry) (user : List ℕ) (version : Version) (program : Program) (strict : Bool) (earlier : List SessionStep) (begin : SessionStep) (more : List SessionStep) (after : Machine)
    → (runs : RunsFeed user version strict earlier begin more after) → AreAnswered start user program strict (more ++ begin ∷ earlier) now → IsLaterThanAll now.read h
    → (offered : List Row) × AreRowsOffered version (put_by (more ++ begin ∷ [])) offered
    × (offered ++ not_offered after.feed ≡ feed_rows_at h user runs.asked.since runs.asked.options (feed_looks (more ++ begin ∷ [])))
    × ((sent row : Row) → HasRow offered sent → HasRow (feed (all_of h) user runs.asked.since runs.asked.options) row
    → HasRow offered row ⊎ IsAhead (feed (all_of h) user sent.key runs.asked.options) sent.key row)

pub resume_in : ResumeLaw → (board : BoardState) (program : Program) (strict : Bool) (device : Device) (left : Leaves) (earlier : List SessionStep) (begin : SessionStep) (more later : List SessionStep) (after : Machine)
    → (is : IsSessionOf board program strict device left) → steps_of is.served.session.turns ≡ later ++ (more ++ begin ∷ earlier)
    → (runs : RunsFeed device.user device.version strict earlier begin more after)
    → (offered : List Row) × AreRowsOffered device.version (put_by (more ++ begin ∷ [])) offered
    × (offered ++ not_offered after.feed ≡ feed_rows_at board.log device.user runs.asked.since runs.asked.options (feed_looks (more ++ begin ∷ [])))
    × ((sent row : Row) → HasRow offered sent → HasRow (feed (all_of board.log) device.user runs.asked.since runs.asked.options) row
    → HasRow offered row ⊎ IsAhead (feed (all_of board.log) device.user sent.key runs.asked.options) sent.key row)
resume_in law board program strict device left earlier begin more later after is split runs =
    let session = is.served.session in
    let whole : (then : Moment) × AreAnswered is.start is.setup.user (arc_value is.setup.program) is.setup.strict (steps_of session.turns) then × IsLaterThanAll then.read board.log =
    answered_by_then is.start session.now is.setup.user (arc_value is.setup.program) is.setup.strict (undone session.halted) (steps_of session.turns) board.log session.answered
    (later_before session.now.read is.final.read session.now.lowest is.final.lowest board.log session.reads.reads is.later) in
    let answered : AreAnswered is.start device.user program strict (later ++ (more ++ begin ∷ earlier)) whole.0 =
    subst (λ steps. AreAnswered is.start device.user program strict steps whole.0) split
    (of_device (λ u v b p. AreAnswered is.start u p b (steps_of session.turns) whole.0) board program strict device left is whole.1) in
    let by_then : (then : Moment) × AreAnswered is.start device.user program strict (more ++ begin ∷ earlier) then × IsLaterThanAll then.read board.log =
    answered_by_then is.start whole.0 device.user program strict later (more ++ begin ∷ earlier) board.log answered whole.2 in
    law is.start by_then.0 board.log device.user device.version program strict earlier begin more after runs by_then.1 by_then.2
