-- a device at the looks of sessions
use Rattle.std.proofs.Common.{◌≡◌, ◌≤◌, ℕ, Bool, List, [], ◌∷◌, ◌++◌, IsTrue, length, sym, ◌∙◌, subst, append-nil, inl, inr}
use Rattle.std.specs.Arc.{arc_value}
use Rattle.sg_history.specs.declared.entries.Entry.{Entry}
use Rattle.sg_history.specs.declared.row.Options.{Options}
use Rattle.sg_history.specs.Board.{BoardState}
use Rattle.sg_history.specs.Device as device
use Rattle.sg_history.specs.Device.{DeviceTurn, TakesAll, live, shown_to, state_after}
use Rattle.sg_history.specs.History.{past}
use Rattle.sync_syntax.specs.declared.tree.Program.{Program}
use Rattle.session_core.specs.declared.look.Look.{Look}
use Rattle.session_core.specs.Conduct.{AreWithin}
use Rattle.session_core.specs.Fronts.{looks_of}
use Rattle.session_core.specs.Steps.{SessionStep}
use Rattle.write_path.specs.Reads.{IsLaterThanAll}
use Rattle.session_run.specs.Answered.{AreAnswered, Moment, look_fronts}
use Rattle.session_run.specs.Turns.{steps_of, undone}
use Rattle.session_threads.specs.Devices.{AreAtLooks, AreLookedAt, AreOver, AreRising, IsLookedAt, IsOneOfThese}
use Rattle.session_threads.specs.Pairs.{AllPairs}
use Rattle.session_threads.specs.Played.{Device, IsSessionOf, Leaves}
use Rattle.session_threads.proofs.Sessions.{later_before}

abbrev pub WithinLaw : Type 0
WithinLaw = (start now : Moment) (user : List ℕ) (program : Program) (strict : Bool) (steps : List SessionStep) (h : List Entry) → AreAnswered start user program strict steps now → IsLaterThanAll now.read h
    → AreWithin (length h) (look_fronts (looks_of steps))

one_within : WithinLaw → (board : BoardState) (program : Program) (strict : Bool) (d : Device) (one : Leaves) → IsSessionOf board program strict d one → AreWithin (length board.log) (look_fronts one.ended.looks)
one_within law board program strict d one is =
    let session = is.served.session in
    subst (λ (looks : List Look). AreWithin (length board.log) (look_fronts looks)) (sym session.looks)
    (law is.start session.now is.setup.user (arc_value is.setup.program) is.setup.strict (undone session.halted ++ steps_of session.turns) board.log session.answered
    (later_before session.now.read is.final.read session.now.lowest is.final.lowest board.log session.reads.reads is.later))

within_one : (most front : ℕ) (fronts : List ℕ) → AreWithin most fronts → IsOneOfThese fronts front → front ≤ most
within_one most front [] within one = absurd one
within_one most front (first ∷ fronts) within (inl is) = subst (λ (n : ℕ). n ≤ most) is within.0
within_one most front (first ∷ fronts) within (inr one) = within_one most front fronts within.1 one

looked_within : WithinLaw → (board : BoardState) (program : Program) (strict : Bool) (devices : List Device) (left : List Leaves) (front : ℕ) → AllPairs (IsSessionOf board program strict) devices left → IsLookedAt left front → front ≤ length board.log
looked_within law board program strict [] [] front all looked = absurd looked
looked_within law board program strict (d ∷ devices) (one ∷ left) front all (inl here) = within_one (length board.log) front (look_fronts one.ended.looks) (one_within law board program strict d one all.0) here
looked_within law board program strict (d ∷ devices) (one ∷ left) front all (inr others) = looked_within law board program strict devices left front all.1 others
looked_within law board program strict [] (one ∷ left) front all looked = absurd all
looked_within law board program strict (d ∷ devices) [] front all looked = absurd all

is_run : WithinLaw → (board : BoardState) (program : Program) (strict : Bool) (devices : List Device) (left : List Leaves) (turns : List DeviceTurn) → AllPairs (IsSessionOf board program strict) devices left
    → AreOver board.log turns → AreLookedAt left turns → AreRising turns → device.IsRun turns
is_run law board program strict devices left [] all over looked rising = tt
is_run law board program strict devices left (turn ∷ []) all (same, over) (at, looked) rising =
    (subst (λ (h : List Entry). turn.front ≤ length h) (sym same) (looked_within law board program strict devices left turn.front all at), tt, tt)
is_run law board program strict devices left (turn ∷ before ∷ earlier) all (same, over) (at, looked) (rises, rising) = (
  subst (λ (h : List Entry). turn.front ≤ length h) (sym same) (looked_within law board program strict devices left turn.front all at),
  (([], same ∙ sym over.0 ∙ sym (append-nil before.history)), rises),
  is_run law board program strict devices left (before ∷ earlier) all over looked rising,
)

abbrev pub DeviceLaw : Type 0
DeviceLaw = (user : List ℕ) (options : Options) (last : DeviceTurn) (earlier : List DeviceTurn) (doc : List ℕ) → IsTrue options.revocations → device.IsRun (last ∷ earlier) → TakesAll user options last earlier
    → live options ((state_after user options (last ∷ earlier)).copy doc) ≡ live options (shown_to (past last.history last.front) user options.filter doc)

pub device_in : DeviceLaw → WithinLaw → (board : BoardState) (program : Program) (strict : Bool) (devices : List Device) (left : List Leaves) (user : List ℕ) (options : Options) (last : DeviceTurn) (earlier : List DeviceTurn) (doc : List ℕ)
    → AllPairs (IsSessionOf board program strict) devices left → AreAtLooks board.log left (last ∷ earlier) → IsTrue options.revocations → TakesAll user options last earlier
    → live options ((state_after user options (last ∷ earlier)).copy doc) ≡ live options (shown_to (past board.log last.front) user options.filter doc)
device_in law within board program strict devices left user options last earlier doc all at revocations taken =
    subst (λ (h : List Entry). live options ((state_after user options (last ∷ earlier)).copy doc) ≡ live options (shown_to (past h last.front) user options.filter doc)) at.over.0
    (law user options last earlier doc revocations (is_run within board program strict devices left (last ∷ earlier) all at.over at.looked at.rising) taken)
