-- What holds of whole sessions.
use Rattle.std.proofs.Common.{◌≡◌, ◌≤◌, ◌+◌, ℕ, Bool, List, [], ◌∷◌, ◌++◌, Option, Some, None, length, sym, ◌∙◌, ap, subst, append-nil, length-append, arith}
use Rattle.std.proofs.lemmas.List.{append_assoc}
use Rattle.std.specs.Arc.{arc_value}
use Rattle.sync_syntax.specs.declared.tree.Program.{Program}
use Rattle.sg_outside.specs.declared.sink.Gave.{Gave}
use Rattle.sg_outside.specs.declared.wire.Got.{Got}
use Rattle.sg_history.specs.declared.entries.Entry.{Entry}
use Rattle.sg_history.specs.Board.{BoardState}
use Rattle.sg_history.specs.History.{Extends}
use Rattle.repl_messages.specs.declared.request.Version.{Version}
use Rattle.doc_board.specs.declared.outcome.Outcome.{Outcome}
use Rattle.doc_board.specs.declared.outcome.Outcome.TheVariants as outcome
use Rattle.session_core.specs.declared.event.Event.{Event}
use Rattle.session_core.specs.declared.event.Event.TheVariants as event
use Rattle.session_core.specs.declared.look.Look.{Look}
use Rattle.session_core.specs.Conduct.{AreWithin}
use Rattle.session_core.specs.Fronts.{looks_of, stored_as, stored_by, stored_of, RiseBetween}
use Rattle.session_core.specs.Right.{AreRight}
use Rattle.session_core.specs.State.{Machine, new_machine}
use Rattle.session_core.specs.Steps.{SessionStep, Steps, Leads}
use Rattle.write_path.specs.Proposals.{recorded_after}
use Rattle.write_path.specs.Reads.{Reads, WasRead, IsLaterThanAll}
use Rattle.session_run.specs.declared.ended.Ended.{Ended}
use Rattle.session_run.specs.declared.serve.Setup.{Setup}
use Rattle.session_run.specs.Answered.{Moment, AreAnswered, AreLooksAt, length_after, look_fronts, recorded_by}
use Rattle.session_run.specs.Own.{HasOwnBodies, HaveOwnBodies}
use Rattle.session_run.specs.Served.{IsSession}
use Rattle.session_run.specs.Turns.{SessionTurn, undone, steps_of, AreLed}
use Rattle.session_run.proofs.Answering.{OwnSince, own_read, looks_on, rise_on}

leads_on : (start middle after : Machine) (steps earlier : List SessionStep) → Leads start earlier middle → Leads middle steps after → Leads start (steps ++ earlier) after
leads_on start middle after [] earlier lead is = subst (Leads start earlier) (sym is) lead
leads_on start middle after (s ∷ steps) earlier lead (before, leads, made) = (before, leads_on start middle before steps earlier lead leads, made)

pub all_lead : (start : Machine) (halted : Option Event) (turns : List SessionTurn) (m : Machine) → AreLed start halted turns m → Leads start (steps_of turns) m
all_lead start halted [] m (is, none) = is
all_lead start halted (t ∷ earlier) m (before, led, leads, calls) =
    leads_on start before m t.steps (steps_of earlier) (all_lead start None earlier before led) leads

-- ---- what was answered

-- what holds of all steps holds of those that were made
right_made : (h : List Entry) (user : List ℕ) (program : Program) (strict : Bool) (halted : Option Event) (steps : List SessionStep) → AreRight h user program strict (undone halted ++ steps) → AreRight h user program strict steps
right_made h user program strict None steps right = right
right_made h user program strict (Some e) steps right = right.1

abbrev pub AnswersRight : Type 0
AnswersRight = (start now : Moment) (user : List ℕ) (program : Program) (strict : Bool) (steps : List SessionStep) (h : List Entry) → AreAnswered start user program strict steps now → IsLaterThanAll now.read h → AreRight h user program strict steps

abbrev pub ReadBefore : Type 0
ReadBefore = (before after : List BoardState) (low high : ℕ) (h : List Entry) → Reads before after low high → IsLaterThanAll after h → IsLaterThanAll before h

pub all_right : AnswersRight → ReadBefore → (setup : Setup) (start final : Moment) (ended : Ended) (results : List Got) (sent : List (List ℕ)) (failed : List Gave) (h : List Entry)
    → (session : IsSession setup start final ended results sent failed) → IsLaterThanAll final.read h → AreRight h setup.user (arc_value setup.program) setup.strict (steps_of session.turns)
all_right law read setup start final ended results sent failed h session later =
    right_made h setup.user (arc_value setup.program) setup.strict session.halted (steps_of session.turns)
    (law start session.now setup.user (arc_value setup.program) setup.strict (undone session.halted ++ steps_of session.turns) h session.answered
    (read session.now.read final.read session.now.lowest final.lowest h session.reads.reads later))

-- ---- bodies

abbrev pub OwnBodies : Type 0
OwnBodies = (h : List Entry) (user : List ℕ) (version : Version) (program : Program) (strict : Bool) (earlier : List SessionStep) (before : Machine) (s : SessionStep) (after : Machine)
    → Leads (new_machine user version strict) earlier before → Steps before s after → AreRight h user program strict (s ∷ earlier) → HasOwnBodies h user before s

have_own : OwnBodies → (h : List Entry) (user : List ℕ) (version : Version) (program : Program) (strict : Bool) (steps : List SessionStep) (after : Machine)
    → Leads (new_machine user version strict) steps after → AreRight h user program strict steps → HaveOwnBodies h user (new_machine user version strict) steps
have_own law h user version program strict [] after leads right = tt
have_own law h user version program strict (s ∷ earlier) after (before, leads, made) right = (
  (before, leads, law h user version program strict earlier before s after leads made right),
  have_own law h user version program strict earlier before leads right.1,
)

pub all_own : OwnBodies → AnswersRight → ReadBefore → (setup : Setup) (start final : Moment) (ended : Ended) (results : List Got) (sent : List (List ℕ)) (failed : List Gave) (h : List Entry)
    → (session : IsSession setup start final ended results sent failed) → IsLaterThanAll final.read h
    → HaveOwnBodies h setup.user (new_machine setup.user setup.version setup.strict) (steps_of session.turns)
all_own law right read setup start final ended results sent failed h session later =
    have_own law h setup.user setup.version (arc_value setup.program) setup.strict (steps_of session.turns) session.machine
    (all_lead (new_machine setup.user setup.version setup.strict) session.halted session.turns session.machine session.led)
    (all_right right read setup start final ended results sent failed h session later)

-- ---- looks

-- more boards were read in the end
reads_on : (before : List BoardState) (looks : List Look) (after : List BoardState) → AreLooksAt before looks after → (added : List BoardState) × (after ≡ added ++ before)
reads_on before [] after at = at
reads_on before (l ∷ looks) after (between, b, was, is, later) =
    let rest : (added : List BoardState) × (after ≡ added ++ between) = reads_on between looks after later in
    (rest.0 ++ was.added, rest.1 ∙ ap (λ read. rest.0 ++ read) was.read ∙ sym (append_assoc rest.0 was.added before))

later_than_first : (added before : List BoardState) (h : List Entry) → IsLaterThanAll (added ++ before) h → IsLaterThanAll before h
later_than_first [] before h later = later
later_than_first (b ∷ added) before h later = later_than_first added before h later.1

abbrev pub Extended : Type 0
Extended = (before after : List BoardState) (b : BoardState) (h : List Entry) → WasRead before after b → IsLaterThanAll after h → Extends b.log h

longer : (log h : List Entry) → Extends log h → length log ≤ length h
longer log h (more, is) = subst (λ n. length log ≤ n) (sym (ap (λ (es : List Entry). length es) is ∙ length-append log more)) (omega arith)

pub looks_within : Extended → (before : List BoardState) (looks : List Look) (after : List BoardState) (h : List Entry) → AreLooksAt before looks after → IsLaterThanAll after h → AreWithin (length h) (look_fronts looks)
looks_within law before [] after h at later = tt
looks_within law before (l ∷ looks) after h (between, b, was, is, more) later =
    let rest : (added : List BoardState) × (after ≡ added ++ between) = reads_on between looks after more in
    let still : IsLaterThanAll between h = later_than_first rest.0 between h (subst (λ read. IsLaterThanAll read h) rest.1 later) in
    (subst (λ n. n ≤ length h) (sym is) (longer b.log h (law before between b h was still)), looks_within law between looks after h more later)

abbrev pub AnswersLooks : Type 0
AnswersLooks = (start now : Moment) (user : List ℕ) (program : Program) (strict : Bool) (steps : List SessionStep) → AreAnswered start user program strict steps now → AreLooksAt start.read (looks_of steps) now.read

abbrev pub AnswersFronts : Type 0
AnswersFronts = (start now : Moment) (user : List ℕ) (program : Program) (strict : Bool) (steps : List SessionStep) → AreAnswered start user program strict steps now → RiseBetween start.lowest (look_fronts (looks_of steps)) now.lowest

pub all_looks : AnswersLooks → (setup : Setup) (start final : Moment) (ended : Ended) (results : List Got) (sent : List (List ℕ)) (failed : List Gave)
    → IsSession setup start final ended results sent failed → AreLooksAt start.read ended.looks final.read
all_looks law setup start final ended results sent failed session =
    subst (λ looks. AreLooksAt start.read looks final.read) (append-nil _ ∙ sym session.looks)
    (looks_on start.read session.now.read final.read (looks_of (undone session.halted ++ steps_of session.turns)) []
    (law start session.now setup.user (arc_value setup.program) setup.strict (undone session.halted ++ steps_of session.turns) session.answered)
    (session.reads.reads.added, session.reads.reads.read))

pub all_fronts : AnswersFronts → (setup : Setup) (start final : Moment) (ended : Ended) (results : List Got) (sent : List (List ℕ)) (failed : List Gave)
    → IsSession setup start final ended results sent failed → RiseBetween start.lowest (look_fronts ended.looks) final.lowest
all_fronts law setup start final ended results sent failed session =
    subst (λ looks. RiseBetween start.lowest (look_fronts looks) final.lowest) (sym session.looks)
    (subst (λ fronts. RiseBetween start.lowest fronts final.lowest) (append-nil _)
    (rise_on start.lowest session.now.lowest final.lowest (look_fronts (looks_of (undone session.halted ++ steps_of session.turns))) []
    (law start session.now setup.user (arc_value setup.program) setup.strict (undone session.halted ++ steps_of session.turns) session.answered)
    session.reads.reads.rises))

-- ---- own entries

abbrev pub AnswersOwn : Type 0
AnswersOwn = (start now : Moment) (user : List ℕ) (program : Program) (strict : Bool) (steps : List SessionStep) → AreAnswered start user program strict steps now → OwnSince start user program (stored_of steps) now

pub all_judged : AnswersOwn → (setup : Setup) (start final : Moment) (ended : Ended) (results : List Got) (sent : List (List ℕ)) (failed : List Gave)
    → IsSession setup start final ended results sent failed → OwnSince start setup.user (arc_value setup.program) ended.stored final
all_judged law setup start final ended results sent failed session =
    subst (λ stored. OwnSince start setup.user (arc_value setup.program) stored final) (sym session.stored)
    (own_read start session.now final setup.user (arc_value setup.program) (stored_of (undone session.halted ++ steps_of session.turns)) session.reads
    (law start session.now setup.user (arc_value setup.program) setup.strict (undone session.halted ++ steps_of session.turns) session.answered))

-- ---- reads

abbrev pub AnswersReads : Type 0
AnswersReads = (start now : Moment) (user : List ℕ) (program : Program) (strict : Bool) (steps : List SessionStep) → AreAnswered start user program strict steps now → Reads start.read now.read start.lowest now.lowest

abbrev pub ReadOn : Type 0
ReadOn = (first second third : List BoardState) (low middle high : ℕ) → Reads first second low middle → Reads second third middle high → Reads first third low high

pub all_reads : AnswersReads → ReadOn → (setup : Setup) (start final : Moment) (ended : Ended) (results : List Got) (sent : List (List ℕ)) (failed : List Gave)
    → IsSession setup start final ended results sent failed → Reads start.read final.read start.lowest final.lowest
all_reads law on setup start final ended results sent failed session =
    on start.read session.now.read final.read start.lowest session.now.lowest final.lowest
    (law start session.now setup.user (arc_value setup.program) setup.strict (undone session.halted ++ steps_of session.turns) session.answered)
    session.reads.reads

-- ---- the recorded length

more_stored : (m : ℕ) (answer : Outcome) → recorded_after (Some m) answer ≡ Some (m + length (stored_as answer))
more_stored m (outcome.Bad400 field) = ap Some (omega arith)
more_stored m (outcome.TooLarge413 bytes) = ap Some (omega arith)
more_stored m (outcome.UserGone401 at) = ap Some (omega arith)
more_stored m (outcome.Known at) = ap Some (omega arith)
more_stored m (outcome.BadHistory400 at) = ap Some (omega arith)
more_stored m (outcome.Conflict409 at leaf) = ap Some (omega arith)
more_stored m (outcome.Denied403 at rule) = ap Some (omega arith)
more_stored m (outcome.Stored sequence at) = ap Some (omega arith)
more_stored m (outcome.Full503 at places) = ap Some (omega arith)
more_stored m (outcome.LogFull509 at entries bytes) = ap Some (omega arith)
more_stored m outcome.Memory507 = ap Some (omega arith)

more_by : (m : ℕ) (e : Event) → length_after (Some m) e ≡ Some (m + length (stored_by e))
more_by m (event.Whole message) = ap Some (omega arith)
more_by m (event.Idle front) = ap Some (omega arith)
more_by m (event.Fed answer) = ap Some (omega arith)
more_by m (event.Bodies bodies) = ap Some (omega arith)
more_by m (event.Asked answer) = ap Some (omega arith)
more_by m (event.Judged answer) = more_stored m answer
more_by m (event.Got answer) = ap Some (omega arith)
more_by m (event.Set answer) = ap Some (omega arith)

one_for_each : (n : ℕ) (steps : List SessionStep) → recorded_by (Some n) steps ≡ Some (n + length (stored_of steps))
one_for_each n [] = ap Some (omega arith)
one_for_each n (s ∷ earlier) =
    ap (λ (recorded : Option ℕ). length_after recorded s.event) (one_for_each n earlier)
    ∙ more_by (n + length (stored_of earlier)) s.event
    ∙ ap Some (omega (arith, length-append (stored_of earlier) (stored_by s.event)))

abbrev pub AnswersRecorded : Type 0
AnswersRecorded = (start now : Moment) (user : List ℕ) (program : Program) (strict : Bool) (steps : List SessionStep) → AreAnswered start user program strict steps now → now.recorded ≡ recorded_by start.recorded steps

pub all_recorded : AnswersRecorded → (setup : Setup) (start final : Moment) (ended : Ended) (results : List Got) (sent : List (List ℕ)) (failed : List Gave) (n : ℕ)
    → IsSession setup start final ended results sent failed → start.recorded ≡ Some n → final.recorded ≡ Some (n + length ended.stored)
all_recorded law setup start final ended results sent failed n session is =
    let steps : List SessionStep = undone session.halted ++ steps_of session.turns in
    session.reads.recorded
    ∙ law start session.now setup.user (arc_value setup.program) setup.strict steps session.answered
    ∙ ap (λ (recorded : Option ℕ). recorded_by recorded steps) is
    ∙ one_for_each n steps
    ∙ ap (λ (stored : List ℕ). Some (n + length stored)) (sym session.stored)
