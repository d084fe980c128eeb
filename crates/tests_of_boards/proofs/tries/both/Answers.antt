use Rattle.std.proofs.Common.{arith, subst}
use Rattle.doc_board.specs.State.{State}
use Rattle.board_steps.specs.declared.retry.Retried.{Retried}
use Rattle.board_steps.specs.declared.retry.Retried.TheVariants.{Answered}
use Rattle.tests_of_boards.specs.inner.Again.{Leaves}
use Rattle.tests_of_boards.proofs.Again.{others_free}
use Rattle.tests_of_boards.proofs.tries.both.Goals as goal

pub overtaken-requires-clause-three : goal.overtaken-requires-clause-three
overtaken-requires-clause-three c =
    let s : State = c.args.board.now in
    let t : State = c.tried.new.board in
    let L : Retried → Type 0 = λ tried. Leaves s t 4 tried in
    let left : L (Answered c.in-Some-Answered.first) = subst L c.in-Some-Answered.field-0-is c.in-Some-Answered.ensures in
    others_free s t left.0 c.requires.log c.requires.pending left.1 3 (omega arith) (λ e. absurd (omega (arith, e)))

pub overtaken-requires-clause-five : goal.overtaken-requires-clause-five
overtaken-requires-clause-five c =
    let s : State = c.args.board.now in
    let t : State = c.tried.new.board in
    let L : Retried → Type 0 = λ tried. Leaves s t 4 tried in
    let left : L (Answered c.in-Some-Answered.first) = subst L c.in-Some-Answered.field-0-is c.in-Some-Answered.ensures in
    others_free s t left.0 c.requires.log c.requires.pending left.1 5 (omega arith) (λ e. absurd (omega (arith, e)))
