use Rattle.std.proofs.Common.{◌≡◌, ◌++◌, map, drop}
use Rattle.serde_json.specs.View.{view}
use Rattle.repl_messages.specs.Changes.{row_data}
use Rattle.repl_messages.proofs.changes.changes_value.Given as goal

abbrev pub invariant-loop-row : goal.invariant-loop-row
invariant-loop-row l = map view l.values.items ++ map (λ row. row_data l.version row) (drop l.row-index l.rows) ≡ map (λ row. row_data l.version row) l.rows
