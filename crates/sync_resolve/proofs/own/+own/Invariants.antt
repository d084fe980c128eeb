use Rattle.std.proofs.Common.{◌≡◌, ◌++◌, drop}
use Rattle.sync_resolve.specs.Statements.{all_var_names}
use Rattle.sync_resolve.proofs.own.+own.Given as goal

abbrev pub invariant-add_all_names-loop-statement : goal.invariant-add_all_names-loop-statement
invariant-add_all_names-loop-statement l =
    l.names ++ all_var_names (drop l.statement-index l.statements) ≡ l.fn.names ++ all_var_names l.fn.statements
