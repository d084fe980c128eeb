use Rattle.sync_code.proofs.InTurn.{next_name}
use Rattle.sync_code.proofs.simple.declared_all.Goals as goal

pub loop-name-preserved : goal.loop-name-preserved
loop-name-preserved c =
    let l = c.loop-name in
    let one = c.in_ok-declared_one in
    rw c.in_ok-push.ensures.ok (next_name c.args.declares l.made one.field-0 c.args.found.now c.name-item.result l.name-index c.args.scope.now l.scope c.declare.new.self
    l.invariant c.loop-name-test.true c.name-item.is one.ensures.held one.ensures.value c.in_ok-declare.ensures)
