use Rattle.std.proofs.Common.{◌≡◌, drop, map}
use Rattle.sync_print.specs.Spelling.{put_all}
use Rattle.sync_print.specs.Trees as t
use Rattle.sync_print.proofs.statement.+print.Given as goal

abbrev pub invariant-put_in_turn-loop-statement : goal.invariant-put_in_turn-loop-statement
invariant-put_in_turn-loop-statement l = put_all (t.in_turn (map t.statement (drop l.statement-index l.statements))) l.out ≡ put_all (t.in_turn (map t.statement l.fn.statements)) l.fn.out
