use Rattle.sync_eval.proofs.expression.+evaluated.Given as goal

abbrev pub decreases-evaluated : goal.decreases-evaluated
decreases-evaluated l = l.depth
