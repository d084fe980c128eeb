use Rattle.principals.proofs.FaultLemmas.{many_of_kind, no_kind}
use Rattle.principals.proofs.line.fault_of_kind.Goals as goal

pub returns-in-Some : goal.returns-in-Some
returns-in-Some c = many_of_kind c.args.kind.now _ c.in-Some.ensures.some

pub returns-in-None : goal.returns-in-None
returns-in-None c = λ texts many. no_kind c.args.kind.now texts c.in-None.ensures.none
