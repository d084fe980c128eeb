use Rattle.sync_syntax.proofs.expression.+nested.Given as goal

abbrev pub decreases-nested : goal.decreases-nested
decreases-nested l = l.room
