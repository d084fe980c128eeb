-- a device at the looks of a replay's sessions
use Rattle.std.proofs.Common.{◌≡◌, ◌≤◌, ℕ, Bool, List, [], ◌∷◌, ◌++◌, IsTrue, length, map, reverse, sym, ◌∙◌, subst, append-nil, arith, inl, inr}
use Rattle.std.proofs.lemmas.List.{reverse-append}
use Rattle.sg_outside.specs.declared.sink.Gave.{Gave}
use Rattle.sg_outside.specs.declared.wire.Got.{Got}
use Rattle.sg_history.specs.declared.entries.Entry.{Entry}
use Rattle.sg_history.specs.declared.row.Options.{Options}
use Rattle.sg_history.specs.Device as device
use Rattle.sg_history.specs.Device.{DeviceTurn, TakesAll, live, shown_to, state_after}
use Rattle.sg_history.specs.History.{past}
use Rattle.record_file.specs.declared.record.Recorded.{Recorded}
use Rattle.sync_syntax.specs.declared.tree.Program.{Program}
use Rattle.session_core.specs.declared.look.Look.{Look}
use Rattle.session_core.specs.Conduct.{AreWithin}
use Rattle.session_core.specs.Fronts.{RiseBetween, looks_of}
use Rattle.session_core.specs.Steps.{SessionStep}
use Rattle.write_path.specs.Reads.{IsLaterThanAll}
use Rattle.session_run.specs.declared.ended.Ended.{Ended}
use Rattle.session_run.specs.declared.serve.Setup.{Setup}
use Rattle.session_run.specs.Answered.{AreAnswered, Moment, look_fronts}
use Rattle.session_run.specs.Served.{IsSession}
use Rattle.session_run.specs.Turns.{steps_of, undone}
use Rattle.session_laws.specs.Rising.{AreFronts}
use Rattle.std.specs.Arc.{arc_value}
use Rattle.replay_in_turn.specs.Devices.{AreAtLooks, AreOver, StandAmong, fronts_of}
use Rattle.replay_in_turn.specs.Sessions.{AreRuns, IsRun}
use Rattle.transcripts.specs.Transcript.{Run}
use Rattle.session_threads.proofs.Sessions.{later_before}

-- ---- fronts that don't fall

rise_from : (low middle : ℕ) (fronts : List ℕ) (high : ℕ) → low ≤ middle → RiseBetween middle fronts high → RiseBetween low fronts high
rise_from low middle [] high below rise = omega (arith, below, rise)
rise_from low middle (front ∷ fronts) high below (first, rise) = (omega (arith, below, first), rise)

rise_on : (low : ℕ) (first : List ℕ) (middle : ℕ) (second : List ℕ) (high : ℕ) → RiseBetween low first middle → RiseBetween middle second high → RiseBetween low (first ++ second) high
rise_on low [] middle second high rise more = rise_from low middle second high rise more
rise_on low (front ∷ first) middle second high (below, rise) more = (below, rise_on front first middle second high rise more)

-- the same numbers, the last one first
fall_to : (low x : ℕ) (fronts : List ℕ) (high : ℕ) → low ≤ x → AreFronts x fronts high → AreFronts low (fronts ++ x ∷ []) high
fall_to low x [] high below are = (are, below)
fall_to low x (front ∷ fronts) high below (first, are) = (first, fall_to low x fronts front below are)

falls : (low : ℕ) (fronts : List ℕ) (high : ℕ) → RiseBetween low fronts high → AreFronts low (reverse fronts) high
falls low [] high rise = rise
falls low (front ∷ fronts) high (below, rise) =
    subst (λ (fs : List ℕ). AreFronts low fs high) (sym (reverse-append (front ∷ []) fronts)) (fall_to low front (reverse fronts) high below (falls front fronts high rise))

from_start : (low : ℕ) (fronts : List ℕ) (high : ℕ) → AreFronts low fronts high → AreFronts 0 fronts high
from_start low [] high are = omega arith
from_start low (front ∷ fronts) high (below, are) = (below, from_start low fronts front are)

below_more : (fronts : List ℕ) (low high : ℕ) → low ≤ high → AreFronts 0 fronts low → AreFronts 0 fronts high
below_more [] low high below are = omega arith
below_more (front ∷ fronts) low high below (first, are) = (omega (arith, below, first), are)

-- ---- fronts within the history

within_both : (most : ℕ) (first second : List ℕ) → AreWithin most first → AreWithin most second → AreWithin most (first ++ second)
within_both most [] second a b = b
within_both most (front ∷ first) second (below, a) b = (below, within_both most first second a b)

within_reverse : (most : ℕ) (fronts : List ℕ) → AreWithin most fronts → AreWithin most (reverse fronts)
within_reverse most [] within = tt
within_reverse most (front ∷ fronts) (below, within) =
    subst (λ (fs : List ℕ). AreWithin most fs) (sym (reverse-append (front ∷ []) fronts)) (within_both most (reverse fronts) (front ∷ []) (within_reverse most fronts within) (below, tt))

capped : (fronts : List ℕ) (high most : ℕ) → AreFronts 0 fronts high → AreWithin most fronts → AreFronts 0 fronts most
capped [] high most are within = omega arith
capped (front ∷ fronts) high most (below, are) (first, within) = (first, are)

-- ---- the looks of all sessions

abbrev pub FrontsLaw : Type 0
FrontsLaw = (setup : Setup) (start final : Moment) (ended : Ended) (results : List Got) (sent : List (List ℕ)) (failed : List Gave) → IsSession setup start final ended results sent failed
    → RiseBetween start.lowest (look_fronts ended.looks) final.lowest

abbrev pub WithinLaw : Type 0
WithinLaw = (start now : Moment) (user : List ℕ) (program : Program) (strict : Bool) (steps : List SessionStep) (h : List Entry) → AreAnswered start user program strict steps now → IsLaterThanAll now.read h
    → AreWithin (length h) (look_fronts (looks_of steps))

all_rise : FrontsLaw → (history : List Entry) (program : Program) (strict : Bool) (start final : Moment) (records : List Recorded) (runs : List Run) → AreRuns history program strict start records runs final → RiseBetween start.lowest (fronts_of runs) final.lowest
all_rise law history program strict start final [] [] are = subst (λ (m : Moment). start.lowest ≤ m.lowest) (sym are) (omega arith)
all_rise law history program strict start final (recorded ∷ records) (run ∷ runs) (between, first, rest) =
    rise_on start.lowest (look_fronts run.ended.looks) between.lowest (fronts_of runs) final.lowest
    (law first.setup start between run.ended first.served.results first.served.sent first.served.failed first.served.session)
    (all_rise law history program strict between final records runs rest)
all_rise law history program strict start final [] (run ∷ runs) are = absurd are
all_rise law history program strict start final (recorded ∷ records) [] are = absurd are

one_within : WithinLaw → (history : List Entry) (program : Program) (strict : Bool) (start final : Moment) (recorded : Recorded) (run : Run) → IsRun history program strict start recorded run final → AreWithin (length history) (look_fronts run.ended.looks)
one_within law history program strict start final recorded run is =
    let session = is.served.session in
    subst (λ (looks : List Look). AreWithin (length history) (look_fronts looks)) (sym session.looks)
    (law start session.now is.setup.user (arc_value is.setup.program) is.setup.strict (undone session.halted ++ steps_of session.turns) history session.answered
    (later_before session.now.read final.read session.now.lowest final.lowest history session.reads.reads is.later))

all_within : WithinLaw → (history : List Entry) (program : Program) (strict : Bool) (start final : Moment) (records : List Recorded) (runs : List Run) → AreRuns history program strict start records runs final → AreWithin (length history) (fronts_of runs)
all_within law history program strict start final [] [] are = tt
all_within law history program strict start final (recorded ∷ records) (run ∷ runs) (between, first, rest) =
    within_both (length history) (look_fronts run.ended.looks) (fronts_of runs) (one_within law history program strict start between recorded run first) (all_within law history program strict between final records runs rest)
all_within law history program strict start final [] (run ∷ runs) are = absurd are
all_within law history program strict start final (recorded ∷ records) [] are = absurd are

-- ---- the turns of a device

falls_among : (fronts others : List ℕ) (high : ℕ) → StandAmong fronts others → AreFronts 0 others high → AreFronts 0 fronts high
falls_among [] others high stand are = omega arith
falls_among (front ∷ fronts) [] high stand are = absurd stand
falls_among (front ∷ fronts) (other ∷ others) high (inl (same, stand)) (below, are) =
    (subst (λ (n : ℕ). n ≤ high) (sym same) below, subst (λ (n : ℕ). AreFronts 0 fronts n) (sym same) (falls_among fronts others other stand are))
falls_among (front ∷ fronts) (other ∷ others) high (inr stand) (below, are) =
    falls_among (front ∷ fronts) others high stand (below_more others other high below are)

is_run : (history : List Entry) (turns : List DeviceTurn) (high : ℕ) → high ≤ length history → AreOver history turns → AreFronts 0 (map (λ (turn : DeviceTurn). turn.front) turns) high → device.IsRun turns
is_run history [] high within over are = tt
is_run history (turn ∷ []) high within (same, over) (below, are) =
    (subst (λ (h : List Entry). turn.front ≤ length h) (sym same) (omega (arith, below, within)), tt, tt)
is_run history (turn ∷ before ∷ earlier) high within (same, over) (below, are) = (
  subst (λ (h : List Entry). turn.front ≤ length h) (sym same) (omega (arith, below, within)),
  (([], same ∙ sym over.0 ∙ sym (append-nil before.history)), are.0),
  is_run history (before ∷ earlier) turn.front (omega (arith, below, within)) over are,
)

abbrev pub DeviceLaw : Type 0
DeviceLaw = (user : List ℕ) (options : Options) (last : DeviceTurn) (earlier : List DeviceTurn) (doc : List ℕ) → IsTrue options.revocations → device.IsRun (last ∷ earlier) → TakesAll user options last earlier
    → live options ((state_after user options (last ∷ earlier)).copy doc) ≡ live options (shown_to (past last.history last.front) user options.filter doc)

pub device_in : DeviceLaw → FrontsLaw → WithinLaw → (history : List Entry) (program : Program) (strict : Bool) (start final : Moment) (records : List Recorded) (runs : List Run) (user : List ℕ) (options : Options) (last : DeviceTurn) (earlier : List DeviceTurn) (doc : List ℕ)
    → AreRuns history program strict start records runs final → AreAtLooks history runs (last ∷ earlier) → IsTrue options.revocations → TakesAll user options last earlier
    → live options ((state_after user options (last ∷ earlier)).copy doc) ≡ live options (shown_to (past history last.front) user options.filter doc)
device_in law fronts within history program strict start final records runs user options last earlier doc are at revocations all =
    let fall : AreFronts 0 (reverse (fronts_of runs)) (length history) =
    capped (reverse (fronts_of runs)) final.lowest (length history) (from_start start.lowest (reverse (fronts_of runs)) final.lowest (falls start.lowest (fronts_of runs) final.lowest (all_rise fronts history program strict start final records runs are)))
    (within_reverse (length history) (fronts_of runs) (all_within within history program strict start final records runs are)) in
    let run : device.IsRun (last ∷ earlier) =
    is_run history (last ∷ earlier) (length history) (omega arith) at.over (falls_among (map (λ (turn : DeviceTurn). turn.front) (last ∷ earlier)) (reverse (fronts_of runs)) (length history) at.fronts fall) in
    subst (λ (h : List Entry). live options ((state_after user options (last ∷ earlier)).copy doc) ≡ live options (shown_to (past h last.front) user options.filter doc)) at.over.0
    (law user options last earlier doc revocations run all)
