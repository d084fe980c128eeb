use Rattle.std.proofs.Common.{List, ℕ, ◌∷◌, ap, codes}
use Rattle.std.proofs.lemmas.Result.{err_from_is_err_and}
use Rattle.sg_history.proofs.line.read_put_role.Goals as goal

pub returns-clause-ok : goal.returns-clause-ok
returns-clause-ok c = (c.in_ok-name.ensures.ok.0, ap (λ (ts : List (List ℕ)). codes "R" ∷ ts) c.in_ok-name.ensures.ok.1)

pub returns-in_err-name-clause-reason : goal.returns-in_err-name-clause-reason
returns-in_err-name-clause-reason c =
    let exit = err_from_is_err_and c.from_residual.result c.from_residual.ensures.1 in
    rw (exit.1, exit.2) c.in_err-name.ensures.reason
