use Rattle.principals.proofs.Either.{script_or_bad}
use Rattle.principals.proofs.Scripts.{bad_one, script_apart, script_same}
use Rattle.principals.proofs.laws.scripts.Goals as goal

pub returns-clause-one : goal.returns-clause-one
returns-clause-one c = script_same

pub returns-clause-one_bad : goal.returns-clause-one_bad
returns-clause-one_bad c = bad_one

pub returns-clause-apart : goal.returns-clause-apart
returns-clause-apart c = script_apart

pub returns-clause-either : goal.returns-clause-either
returns-clause-either c = script_or_bad
