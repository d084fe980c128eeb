use Rattle.std.proofs.Common.{arith}
use Rattle.sync_resolve.proofs.First.{found_first, found_none}
use Rattle.sync_resolve.specs.Resolving.{faults}
use Rattle.sync_resolve.proofs.program.check.Goals as goal

pub returns-in-Some-clause-fault : goal.returns-in-Some-clause-fault
returns-in-Some-clause-fault c = λ other. found_first (faults c.args.program.now) c.in-Some.fault (grind arith)

pub returns-in-None-clause-ok : goal.returns-in-None-clause-ok
returns-in-None-clause-ok c = found_none (faults c.args.program.now) (grind arith)
