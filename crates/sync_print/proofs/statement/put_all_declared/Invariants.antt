use Rattle.std.proofs.Common.{◌≡◌, drop}
use Rattle.sync_print.specs.Spelling.{put_all}
use Rattle.sync_print.specs.Trees as t
use Rattle.sync_print.proofs.statement.put_all_declared.Given as goal

abbrev pub invariant-loop-declared : goal.invariant-loop-declared
invariant-loop-declared l = put_all (t.declared_from l.first (drop l.declared-index l.names)) l.out ≡ put_all (t.all_declared l.fn.names) l.fn.out
