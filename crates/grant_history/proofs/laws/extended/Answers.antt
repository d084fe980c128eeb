use Rattle.grant_history.proofs.Applied.{stands_longer}
use Rattle.grant_history.proofs.laws.extended.Goals as goal

pub returns : goal.returns
returns c = λ earlier later stands extends. stands_longer c.args.history.now earlier later stands extends
