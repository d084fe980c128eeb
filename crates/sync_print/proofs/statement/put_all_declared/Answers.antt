use Rattle.std.proofs.Common.{rules, arith}
use Rattle.sync_print.proofs.Steps.{declared_step}
use Rattle.sync_print.proofs.statement.put_all_declared.Goals as goal

pub loop-declared-preserved : goal.loop-declared-preserved
loop-declared-preserved c =
    let s = declared_step c.loop-declared.first c.args.names.now c.loop-declared.declared-index c.declared-item.result c.loop-declared.out (omega arith) c.declared-item.is in first_of (search (rules, s), grind (arith, s))
