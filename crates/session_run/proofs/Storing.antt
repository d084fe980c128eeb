-- Where the checkpoints are recorded, what a session has of them is of one store.
use Rattle.std.proofs.Common.{◌≡◌, Bool, List, [], ◌∷◌, ◌++◌, Option, Some, None, ℕ, refl, ◌∙◌, ap, subst}
use Rattle.std.specs.Arc.{arc_value}
use Rattle.sg_outside.specs.declared.sink.Gave.{Gave}
use Rattle.sg_outside.specs.declared.wire.Got.{Got}
use Rattle.sg_history.specs.Board.{BoardState, SideEntry}
use Rattle.checkpoint_store.specs.declared.answers.Kept0.{Kept0}
use Rattle.checkpoint_store.specs.declared.answers.SetAnswer.{SetAnswer}
use Rattle.checkpoint_store.specs.Answers.{kept_at, Sets}
use Rattle.checkpoint_store.specs.Checkpoints.{checkpoint_text}
use Rattle.sync_syntax.specs.declared.tree.Program.{Program}
use Rattle.session_core.specs.declared.act.Want.{Want}
use Rattle.session_core.specs.declared.act.Want.TheVariants as want
use Rattle.session_core.specs.declared.event.Event.{Event}
use Rattle.session_core.specs.declared.event.Event.TheVariants as event
use Rattle.session_core.specs.Steps.{SessionStep, wanted_after}
use Rattle.write_path.specs.Checkpoints.{HasCheckpoints, checkpoints_after}
use Rattle.session_run.specs.Answered.{Moment, SawCheckpoint, IsSet, IsEventAnswered, AreAnswered, IsOfStore, AreOfStore}
use Rattle.session_run.specs.Served.{IsSession}
use Rattle.session_run.specs.Turns.{undone, steps_of}
use Rattle.session_run.specs.declared.ended.Ended.{Ended}
use Rattle.session_run.specs.declared.serve.Setup.{Setup}

-- these are recorded, as this says of what was recorded
abbrev pub StoredThen : List ℕ → List SideEntry → Option Want → Event → Moment → Type 0
StoredThen user before wanted e after = (left : List SideEntry) × (after.checkpoints ≡ Some left) × IsOfStore user before wanted e left

-- the recorded checkpoints are those of the board
of_board : (recorded : Option (List SideEntry)) (side : List SideEntry) (b : BoardState) → recorded ≡ Some side → HasCheckpoints recorded b → b.side ≡ side
of_board recorded side b is has = subst (λ r. HasCheckpoints r b) is has

got_stored : (before after : Moment) (user client : List ℕ) (side : List SideEntry) (answer : Kept0) → before.checkpoints ≡ Some side → after.checkpoints ≡ before.checkpoints
    → SawCheckpoint before after user client answer → StoredThen user side (Some (want.GetCheckpoint client)) (event.Got answer) after
got_stored before after user client side answer is same (b, was, has, answered) =
    (side, same ∙ is, (answered ∙ ap (λ s. kept_at s (checkpoint_text user client)) (of_board before.checkpoints side b is has), refl))

set_stored : (before after : Moment) (user client : List ℕ) (rev : ℕ) (body : List ℕ) (side : List SideEntry) (answer : SetAnswer) → before.checkpoints ≡ Some side
    → IsSet before user client rev body answer after → StoredThen user side (Some (want.SetCheckpoint client rev body)) (event.Set answer) after
set_stored before after user client rev body side answer is set = (
  set.sets.left.side,
  set.sets.recorded_is ∙ ap (λ r. checkpoints_after r set.sets.left.side) is,
  subst (λ s. Sets s (checkpoint_text user client) rev body answer set.sets.left.side) (of_board before.checkpoints side set.sets.found is set.sets.has_checkpoints) set.sets.sets,
)

one_stored : (before after : Moment) (user : List ℕ) (program : Program) (strict : Bool) (side : List SideEntry) (wanted : Option Want) (e : Event) → before.checkpoints ≡ Some side
    → IsEventAnswered before user program strict wanted e after → StoredThen user side wanted e after
one_stored before after user program strict side None (event.Whole message) is a = (side, ap (λ (m : Moment). m.checkpoints) a ∙ is, refl)
one_stored before after user program strict side None (event.Idle front) is a = (side, a.checkpoints ∙ is, refl)
one_stored before after user program strict side None (event.Fed answer) is a = absurd a
one_stored before after user program strict side None (event.Bodies answer) is a = absurd a
one_stored before after user program strict side None (event.Asked answer) is a = absurd a
one_stored before after user program strict side None (event.Judged answer) is a = absurd a
one_stored before after user program strict side None (event.Got answer) is a = absurd a
one_stored before after user program strict side None (event.Set answer) is a = absurd a
one_stored before after user program strict side (Some (want.Feed since options)) (event.Whole message) is a = absurd a
one_stored before after user program strict side (Some (want.Feed since options)) (event.Idle front) is a = absurd a
one_stored before after user program strict side (Some (want.Feed since options)) (event.Fed answer) is a = (side, a.0.checkpoints ∙ is, refl)
one_stored before after user program strict side (Some (want.Feed since options)) (event.Bodies answer) is a = absurd a
one_stored before after user program strict side (Some (want.Feed since options)) (event.Asked answer) is a = absurd a
one_stored before after user program strict side (Some (want.Feed since options)) (event.Judged answer) is a = absurd a
one_stored before after user program strict side (Some (want.Feed since options)) (event.Got answer) is a = absurd a
one_stored before after user program strict side (Some (want.Feed since options)) (event.Set answer) is a = absurd a
one_stored before after user program strict side (Some (want.Bodies options rows most)) (event.Whole message) is a = absurd a
one_stored before after user program strict side (Some (want.Bodies options rows most)) (event.Idle front) is a = absurd a
one_stored before after user program strict side (Some (want.Bodies options rows most)) (event.Fed answer) is a = absurd a
one_stored before after user program strict side (Some (want.Bodies options rows most)) (event.Bodies answer) is a = (side, a.0.checkpoints ∙ is, refl)
one_stored before after user program strict side (Some (want.Bodies options rows most)) (event.Asked answer) is a = absurd a
one_stored before after user program strict side (Some (want.Bodies options rows most)) (event.Judged answer) is a = absurd a
one_stored before after user program strict side (Some (want.Bodies options rows most)) (event.Got answer) is a = absurd a
one_stored before after user program strict side (Some (want.Bodies options rows most)) (event.Set answer) is a = absurd a
one_stored before after user program strict side (Some (want.Ask offers)) (event.Whole message) is a = absurd a
one_stored before after user program strict side (Some (want.Ask offers)) (event.Idle front) is a = absurd a
one_stored before after user program strict side (Some (want.Ask offers)) (event.Fed answer) is a = absurd a
one_stored before after user program strict side (Some (want.Ask offers)) (event.Bodies answer) is a = absurd a
one_stored before after user program strict side (Some (want.Ask offers)) (event.Asked answer) is a = (side, a.0.checkpoints ∙ is, refl)
one_stored before after user program strict side (Some (want.Ask offers)) (event.Judged answer) is a = absurd a
one_stored before after user program strict side (Some (want.Ask offers)) (event.Got answer) is a = absurd a
one_stored before after user program strict side (Some (want.Ask offers)) (event.Set answer) is a = absurd a
one_stored before after user program strict side (Some (want.Propose r)) (event.Whole message) is a = absurd a
one_stored before after user program strict side (Some (want.Propose r)) (event.Idle front) is a = absurd a
one_stored before after user program strict side (Some (want.Propose r)) (event.Fed answer) is a = absurd a
one_stored before after user program strict side (Some (want.Propose r)) (event.Bodies answer) is a = absurd a
one_stored before after user program strict side (Some (want.Propose r)) (event.Asked answer) is a = absurd a
one_stored before after user program strict side (Some (want.Propose r)) (event.Judged answer) is a = (side, a.checkpoints ∙ is, refl)
one_stored before after user program strict side (Some (want.Propose r)) (event.Got answer) is a = absurd a
one_stored before after user program strict side (Some (want.Propose r)) (event.Set answer) is a = absurd a
one_stored before after user program strict side (Some (want.GetCheckpoint client)) (event.Whole message) is a = absurd a
one_stored before after user program strict side (Some (want.GetCheckpoint client)) (event.Idle front) is a = absurd a
one_stored before after user program strict side (Some (want.GetCheckpoint client)) (event.Fed answer) is a = absurd a
one_stored before after user program strict side (Some (want.GetCheckpoint client)) (event.Bodies answer) is a = absurd a
one_stored before after user program strict side (Some (want.GetCheckpoint client)) (event.Asked answer) is a = absurd a
one_stored before after user program strict side (Some (want.GetCheckpoint client)) (event.Judged answer) is a = absurd a
one_stored before after user program strict side (Some (want.GetCheckpoint client)) (event.Got answer) is a = got_stored before after user client side answer is a.0.checkpoints a.1
one_stored before after user program strict side (Some (want.GetCheckpoint client)) (event.Set answer) is a = absurd a
one_stored before after user program strict side (Some (want.SetCheckpoint client rev body)) (event.Whole message) is a = absurd a
one_stored before after user program strict side (Some (want.SetCheckpoint client rev body)) (event.Idle front) is a = absurd a
one_stored before after user program strict side (Some (want.SetCheckpoint client rev body)) (event.Fed answer) is a = absurd a
one_stored before after user program strict side (Some (want.SetCheckpoint client rev body)) (event.Bodies answer) is a = absurd a
one_stored before after user program strict side (Some (want.SetCheckpoint client rev body)) (event.Asked answer) is a = absurd a
one_stored before after user program strict side (Some (want.SetCheckpoint client rev body)) (event.Judged answer) is a = absurd a
one_stored before after user program strict side (Some (want.SetCheckpoint client rev body)) (event.Got answer) is a = absurd a
one_stored before after user program strict side (Some (want.SetCheckpoint client rev body)) (event.Set answer) is a = set_stored before after user client rev body side answer is a

pub all_stored : (start now : Moment) (user : List ℕ) (program : Program) (strict : Bool) (side : List SideEntry) (steps : List SessionStep) → AreAnswered start user program strict steps now → start.checkpoints ≡ Some side
    → (left : List SideEntry) × (now.checkpoints ≡ Some left) × AreOfStore user side steps left
all_stored start now user program strict side [] a is = (side, ap (λ (m : Moment). m.checkpoints) a ∙ is, refl)
all_stored start now user program strict side (s ∷ earlier) (between, a, one) is =
    let before : (left : List SideEntry) × (between.checkpoints ≡ Some left) × AreOfStore user side earlier left = all_stored start between user program strict side earlier a is in
    let last : StoredThen user before.0 (wanted_after earlier) s.event now = one_stored between now user program strict before.0 (wanted_after earlier) s.event before.1 one in
    (last.0, last.1, (before.0, before.2, last.2))

-- of a whole session
pub session_stored : (setup : Setup) (start final : Moment) (ended : Ended) (results : List Got) (sent : List (List ℕ)) (failed : List Gave) (side : List SideEntry)
    → (session : IsSession setup start final ended results sent failed) → start.checkpoints ≡ Some side
    → (left : List SideEntry) × (final.checkpoints ≡ Some left) × AreOfStore setup.user side (undone session.halted ++ steps_of session.turns) left
session_stored setup start final ended results sent failed side session is =
    let all : (left : List SideEntry) × (session.now.checkpoints ≡ Some left) × AreOfStore setup.user side (undone session.halted ++ steps_of session.turns) left =
    all_stored start session.now setup.user (arc_value setup.program) setup.strict side (undone session.halted ++ steps_of session.turns) session.answered is in
    (all.0, session.reads.checkpoints ∙ all.1, all.2)
