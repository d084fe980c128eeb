use Rattle.sg_names.proofs.OneText.{hex_is, hex_same}
use Rattle.sg_names.proofs.laws.hexadecimals.Goals as goal

pub returns-clause-written : goal.returns-clause-written
returns-clause-written c = hex_is

pub returns-clause-one : goal.returns-clause-one
returns-clause-one c = hex_same
