use Rattle.sg_history.specs.declared.row.Row.{Row}
use Rattle.repl_messages.specs.Changes.{row_data}
use Rattle.repl_messages.proofs.Mapped.{mapped_more}
use Rattle.repl_messages.proofs.changes.changes_value.Goals as goal

pub loop-row-preserved : goal.loop-row-preserved
loop-row-preserved c =
    mapped_more (λ (row : Row). row_data c.args.version row) c.args.rows.now c.loop-row.row-index c.row-item.result c.in_ok-row_value.field-0
    c.loop-row.values.items c.push.new.self.items c.loop-row-test.true c.row-item.is c.in_ok-row_value.ensures c.in_ok-push.ensures.items c.loop-row.invariant
