use Rattle.sync_eval.proofs.statement.+run.Given as goal

abbrev pub decreases-run : goal.decreases-run
decreases-run l = l.depth
