use Rattle.std.proofs.Common.{◌∙◌, ap}
use Rattle.sync_meaning.specs.Variables.{behind, behind_all}
use Rattle.sync_code.proofs.Behind.{block_left, while_left, of_left}
use Rattle.sync_code.proofs.InTurn.{next_step, if_else, for_body}
use Rattle.sync_code.proofs.statement.+compile.Goals as goal

pub steps_of-loop-statement-preserved : goal.steps_of-loop-statement-preserved
steps_of-loop-statement-preserved t c =
    let l = c.loop-statement in
    let one = c.in_ok-step_of in
    rw c.in_ok-push.ensures.ok (next_step l.made one.field-0 c.args.statements.now c.statement-item.result l.statement-index c.args.scope.now l.scope c.step_of.new.scope
    l.invariant c.loop-statement-test.true c.statement-item.is one.ensures.code one.ensures.seen)

pub block-returns-clause-seen : goal.block-returns-clause-seen
block-returns-clause-seen t c =
    let outer = c.args.scope.now in
    block_left c.args.place c.args.statements.now c.len-count.result outer c.steps_of.new.scope c.leave.new.self
    (c.in_ok-steps.ensures.seen ∙ ap (λ ss. behind_all ss outer) c.as_slice.ensures) c.len-count.ensures c.leave.ensures.seen c.leave.ensures.next

pub loop_while-returns-clause-code : goal.loop_while-returns-clause-code
loop_while-returns-clause-code t c =
    for_body c.args.place c.in_ok-begin.field-0 c.in_ok-body.body c.args.start.now c.args.condition.now c.args.last.now c.args.body.now c.args.scope.now
    c.while_head.new.scope c.in_ok-begin.ensures.code c.in_ok-begin.ensures.seen c.in_ok-body.ensures.code

pub loop_while-returns-clause-seen : goal.loop_while-returns-clause-seen
loop_while-returns-clause-seen t c =
    while_left c.args.place c.args.start.now c.args.condition.now c.args.last.now c.args.body.now c.len-count.result c.args.scope.now
    c.while_head.new.scope c.boxed_step.new.scope c.leave.new.self c.in_ok-begin.ensures.seen c.in_ok-body.ensures.seen
    c.len-count.ensures c.leave.ensures.seen c.leave.ensures.next

pub step_of-returns-in-Ok-clause-seen : goal.step_of-returns-in-Ok-clause-seen
step_of-returns-in-Ok-clause-seen t c =
    let found = c.in-ForOf in
    rw found.is (of_left found.place found.declares found.name found.expr found.body _ c.args.scope.now _ _ _
    c.in_ok-held-in-ForOf.ensures.seen (c.in-Ok.ensures.seen ∙ ap (λ s. behind s c.of_head.new.scope) c.get-in-ForOf-2.ensures)
    c.len-count.ensures c.leave.ensures.seen c.leave.ensures.next)

pub step_of-returns-in_ok-last-in-Some-clause-code : goal.step_of-returns-in_ok-last-in-Some-clause-code
step_of-returns-in_ok-last-in-Some-clause-code t c =
    rw (c.in-If.is, c.in-Some.is) (if_else c.in-If.place _ _ _ _ c.in-If.condition _ c.in-If.first _ c.in-Some.last
    c.args.scope.now _ c.get.ensures c.get-in-If.ensures c.get-in-Some.ensures
    c.in_ok-condition-in-If.ensures c.in_ok-step-in-If.ensures.code c.in_ok-step-in-If.ensures.seen c.in_ok-last-in-Some.ensures.code)
