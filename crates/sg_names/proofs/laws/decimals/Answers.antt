use Rattle.std.proofs.lemmas.Fmt.{decimal_injective}
use Rattle.sg_names.proofs.Decimals.{is_decimal-decimal}
use Rattle.sg_names.proofs.laws.decimals.Goals as goal

pub returns-clause-written : goal.returns-clause-written
returns-clause-written c = is_decimal-decimal

pub returns-clause-one : goal.returns-clause-one
returns-clause-one c = decimal_injective
