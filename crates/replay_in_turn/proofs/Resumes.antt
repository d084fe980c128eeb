-- the sessions of a replay, by the laws of sessions
use Rattle.std.proofs.Common.{◌≡◌, ◌⊎◌, ℕ, Bool, List, [], ◌∷◌, ◌++◌, Option, map, reverse, subst}
use Rattle.std.specs.Arc.{arc_value}
use Rattle.sg_outside.specs.declared.sink.Gave.{Gave}
use Rattle.sg_outside.specs.declared.wire.Got.{Got}
use Rattle.sg_history.specs.declared.book.Waiting.{Waiting}
use Rattle.sg_history.specs.declared.entries.Entry.{Entry}
use Rattle.sg_history.specs.declared.row.Row.{Row}
use Rattle.sg_history.specs.Feed.{feed}
use Rattle.feed_rows.specs.Laws.{HasRow, IsAhead, all_of}
use Rattle.record_file.specs.declared.record.Recorded.{Recorded}
use Rattle.repl_messages.specs.declared.request.Version.{Version}
use Rattle.sync_syntax.specs.declared.tree.Program.{Program}
use Rattle.session_core.specs.declared.event.Event.{Event}
use Rattle.session_core.specs.Feeds.{AreRowsOffered, RunsFeed, feed_looks, not_offered, feed_rows_at}
use Rattle.session_core.specs.Right.{AreRight}
use Rattle.session_core.specs.State.{Machine, new_machine}
use Rattle.session_core.specs.Steps.{Leads, SessionStep, put_by}
use Rattle.write_path.specs.Reads.{IsLaterThanAll}
use Rattle.session_run.specs.declared.ended.Ended.{Ended}
use Rattle.session_run.specs.declared.serve.Setup.{Setup}
use Rattle.session_run.specs.Answered.{AreAnswered, Moment}
use Rattle.session_run.specs.Judged.{AreJudged}
use Rattle.session_run.specs.Own.{HaveOwnBodies}
use Rattle.session_run.specs.Served.{IsSession}
use Rattle.session_run.specs.Turns.{AreLed, SessionTurn, steps_of, undone}
use Rattle.session_threads.proofs.Sessions.{answered_by_then, later_before}
use Rattle.replay_in_turn.specs.Sessions.{IsRun}
use Rattle.transcripts.specs.Transcript.{Run}

-- ---- what is said of each session

abbrev pub LeadsLaw : Type 0
LeadsLaw = (user : List ℕ) (version : Version) (strict : Bool) (halted : Option Event) (turns : List SessionTurn) (m : Machine)
    → AreLed (new_machine user version strict) halted turns m → Leads (new_machine user version strict) (steps_of turns) m

abbrev pub RightLaw : Type 0
RightLaw = (setup : Setup) (start final : Moment) (ended : Ended) (results : List Got) (sent : List (List ℕ)) (failed : List Gave) (h : List Entry) → (session : IsSession setup start final ended results sent failed)
    → IsLaterThanAll final.read h → AreRight h setup.user (arc_value setup.program) setup.strict (steps_of session.turns)

abbrev pub BodiesLaw : Type 0
BodiesLaw = (setup : Setup) (start final : Moment) (ended : Ended) (results : List Got) (sent : List (List ℕ)) (failed : List Gave) (h : List Entry) → (session : IsSession setup start final ended results sent failed)
    → IsLaterThanAll final.read h → HaveOwnBodies h setup.user (new_machine setup.user setup.version setup.strict) (steps_of session.turns)

-- what holds of a setup's user, version, strictness and program holds of the recorded ones
of_recorded : (P : List ℕ → Version → Bool → Program → Type 0) (history : List Entry) (program : Program) (strict : Bool) (start final : Moment) (recorded : Recorded) (run : Run) (is : IsRun history program strict start recorded run final)
    → P is.setup.user is.setup.version is.setup.strict (arc_value is.setup.program) → P recorded.user recorded.version strict program
of_recorded P history program strict start final recorded run is so =
    subst (λ (u : List ℕ). P u recorded.version strict program) is.is_setup.user
    (subst (λ (v : Version). P is.setup.user v strict program) is.is_setup.version
    (subst (λ (b : Bool). P is.setup.user is.setup.version b program) is.is_setup.strictness
    (subst (λ (p : Program). P is.setup.user is.setup.version is.setup.strict p) is.is_setup.judged_by so)))

pub leads_in : LeadsLaw → (history : List Entry) (program : Program) (strict : Bool) (start final : Moment) (recorded : Recorded) (run : Run) (is : IsRun history program strict start recorded run final)
    → Leads (new_machine recorded.user recorded.version strict) (steps_of is.served.session.turns) is.served.session.machine
leads_in law history program strict start final recorded run is =
    of_recorded (λ u v b p. Leads (new_machine u v b) (steps_of is.served.session.turns) is.served.session.machine) history program strict start final recorded run is
    (law is.setup.user is.setup.version is.setup.strict is.served.session.halted is.served.session.turns is.served.session.machine is.served.session.led)

pub right_in : RightLaw → (history : List Entry) (program : Program) (strict : Bool) (start final : Moment) (recorded : Recorded) (run : Run) (is : IsRun history program strict start recorded run final)
    → AreRight history recorded.user program strict (steps_of is.served.session.turns)
right_in law history program strict start final recorded run is =
    of_recorded (λ u v b p. AreRight history u p b (steps_of is.served.session.turns)) history program strict start final recorded run is
    (law is.setup start final run.ended is.served.results is.served.sent is.served.failed history is.served.session is.later)

pub bodies_in : BodiesLaw → (history : List Entry) (program : Program) (strict : Bool) (start final : Moment) (recorded : Recorded) (run : Run) (is : IsRun history program strict start recorded run final)
    → HaveOwnBodies history recorded.user (new_machine recorded.user recorded.version strict) (steps_of is.served.session.turns)
bodies_in law history program strict start final recorded run is =
    of_recorded (λ u v b p. HaveOwnBodies history u (new_machine u v b) (steps_of is.served.session.turns)) history program strict start final recorded run is
    (law is.setup start final run.ended is.served.results is.served.sent is.served.failed history is.served.session is.later)

abbrev pub OwnLaw : Type 0
OwnLaw = (setup : Setup) (start final : Moment) (ended : Ended) (results : List Got) (sent : List (List ℕ)) (failed : List Gave) → IsSession setup start final ended results sent failed
    → (added : List Waiting) × (final.own ≡ added ++ start.own) × (map (λ (w : Waiting). w.number) added ≡ reverse ended.stored) × AreJudged (arc_value setup.program) setup.user start.read final.read added

pub own_in : OwnLaw → (history : List Entry) (program : Program) (strict : Bool) (start final : Moment) (recorded : Recorded) (run : Run) → IsRun history program strict start recorded run final
    → (added : List Waiting) × (final.own ≡ added ++ start.own) × (map (λ (w : Waiting). w.number) added ≡ reverse run.ended.stored) × AreJudged program recorded.user start.read final.read added
own_in law history program strict start final recorded run is =
    of_recorded (λ u v b p. (added : List Waiting) × (final.own ≡ added ++ start.own) × (map (λ (w : Waiting). w.number) added ≡ reverse run.ended.stored) × AreJudged p u start.read final.read added) history program strict start final recorded run is
    (law is.setup start final run.ended is.served.results is.served.sent is.served.failed is.served.session)

-- ---- resuming

abbrev pub ResumeLaw : Type 0
ResumeLaw = (start now : Moment) (h : List Entry) (user : List ℕ) (version : Version) (program : Program) (strict : Bool) (earlier : List SessionStep) (begin : SessionStep) (more : List SessionStep) (after : Machine)
    → (runs : RunsFeed user version strict earlier begin more after) → AreAnswered start user program strict (more ++ begin ∷ earlier) now → IsLaterThanAll now.read h
    → (offered : List Row) × AreRowsOffered version (put_by (more ++ begin ∷ [])) offered
    × (offered ++ not_offered after.feed ≡ feed_rows_at h user runs.asked.since runs.asked.options (feed_looks (more ++ begin ∷ [])))
    × ((sent row : Row) → HasRow offered sent → HasRow (feed (all_of h) user runs.asked.since runs.asked.options) row
    → HasRow offered row ⊎ IsAhead (feed (all_of h) user sent.key runs.asked.options) sent.key row)

pub resume_in : ResumeLaw → (history : List Entry) (program : Program) (strict : Bool) (start final : Moment) (recorded : Recorded) (run : Run) (earlier : List SessionStep) (begin : SessionStep) (more later : List SessionStep) (after : Machine)
    → (is : IsRun history program strict start recorded run final) → steps_of is.served.session.turns ≡ later ++ (more ++ begin ∷ earlier)
    → (runs : RunsFeed recorded.user recorded.version strict earlier begin more after)
    → (offered : List Row) × AreRowsOffered recorded.version (put_by (more ++ begin ∷ [])) offered
    × (offered ++ not_offered after.feed ≡ feed_rows_at history recorded.user runs.asked.since runs.asked.options (feed_looks (more ++ begin ∷ [])))
    × ((sent row : Row) → HasRow offered sent → HasRow (feed (all_of history) recorded.user runs.asked.since runs.asked.options) row
    → HasRow offered row ⊎ IsAhead (feed (all_of history) recorded.user sent.key runs.asked.options) sent.key row)
resume_in law history program strict start final recorded run earlier begin more later after is split runs =
    let session = is.served.session in
    let whole : (then : Moment) × AreAnswered start is.setup.user (arc_value is.setup.program) is.setup.strict (steps_of session.turns) then × IsLaterThanAll then.read history =
    answered_by_then start session.now is.setup.user (arc_value is.setup.program) is.setup.strict (undone session.halted) (steps_of session.turns) history session.answered
    (later_before session.now.read final.read session.now.lowest final.lowest history session.reads.reads is.later) in
    let answered : AreAnswered start recorded.user program strict (later ++ (more ++ begin ∷ earlier)) whole.0 =
    subst (λ steps. AreAnswered start recorded.user program strict steps whole.0) split
    (of_recorded (λ u v b p. AreAnswered start u p b (steps_of session.turns) whole.0) history program strict start final recorded run is whole.1) in
    let by_then : (then : Moment) × AreAnswered start recorded.user program strict (more ++ begin ∷ earlier) then × IsLaterThanAll then.read history =
    answered_by_then start whole.0 recorded.user program strict later (more ++ begin ∷ earlier) history answered whole.2 in
    law start by_then.0 history recorded.user recorded.version program strict earlier begin more after runs by_then.1 by_then.2
