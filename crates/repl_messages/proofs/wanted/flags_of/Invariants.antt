use Rattle.std.proofs.Common.{◌≡◌, ◌-◌, ◌++◌, drop}
use Rattle.serde_json.specs.View.{items_view}
use Rattle.repl_messages.specs.Wanted.{wanted_rows}
use Rattle.repl_messages.proofs.wanted.flags_of.Given as goal

abbrev pub invariant-loop-i : goal.invariant-loop-i
invariant-loop-i l = l.flags ++ wanted_rows (l.rows - l.i) (items_view (drop l.i l.items)) ≡ wanted_rows l.rows (items_view l.items)
