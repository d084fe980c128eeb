use Rattle.sync_eval.proofs.statement.Statements.inner.Goals as goal

pub returns : goal.returns
returns g c = λ scope f. c.requires.does _ _ _ _ _ c.inner.ensures scope f
