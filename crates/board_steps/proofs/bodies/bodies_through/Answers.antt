use Rattle.std.proofs.Common.{◌∙◌, sym, subst, ℕ, List, length, reverse}
use Rattle.sg_history.specs.declared.entries.Entry.{Entry}
use Rattle.sg_history.specs.History.{past}
use Rattle.sg_history.specs.Principals.{has_channel}
use Rattle.log_index.specs.Index.{Indexes}
use Rattle.grant_history.specs.declared.periods.Period.{Period}
use Rattle.grant_history.specs.Periods.{AreInOrder, ArePeriods}
use Rattle.feed_rows.specs.PassAt.{IsViewer}
use Rattle.board_steps.proofs.AllRows.{bodies_are}
use Rattle.board_steps.proofs.bodies.bodies_through.Goals as goal

pub answers_of-answers-requires-clause-index : goal.answers_of-answers-requires-clause-index
answers_of-answers-requires-clause-index c =
    subst (λ (es : List Entry). Indexes c.in_ok-look.look.index.now (reverse es)) (sym c.in_ok-look.ensures.entries) c.in_ok-look.ensures.index

pub answers_of-answers-requires-clause-viewer : goal.answers_of-answers-requires-clause-viewer
answers_of-answers-requires-clause-viewer c = λ some.
    let log = c.args.board.now.log in
    let user = c.args.user.now in
    let are = c.in_ok-periods.ensures.periods log c.requires.stands some in
    let there : ArePeriods c.as_slice.result.now (λ x k. has_channel (past log k) user x) (length log) =
    subst (λ (n : ℕ). ArePeriods c.as_slice.result.now (λ x k. has_channel (past log k) user x) n) c.requires.applied
    (subst (λ (l : List Period). ArePeriods l (λ x k. has_channel (past log k) user x) c.args.grants.now.applied) (sym c.as_slice.ensures) are) in
    let order : AreInOrder c.as_slice.result.now = subst (λ (l : List Period). AreInOrder l) (sym c.as_slice.ensures) c.in_ok-periods.ensures.in_order in
    subst (λ (es : List Entry). IsViewer c.in_ok-look.look.viewer (reverse es)) (sym c.in_ok-look.ensures.entries) (c.in_ok-look.ensures.viewer there order)

pub returns-clause-answers : goal.returns-clause-answers
returns-clause-answers c =
    c.in_ok-answers.ensures
    ∙ bodies_are c.args.board.now c.args.user.now c.args.filter.now c.as_slice.result.now c.in_ok-look.look c.args.most c.in_ok-look.ensures c.args.rows.now
