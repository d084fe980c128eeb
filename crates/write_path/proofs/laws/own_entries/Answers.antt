use Rattle.write_path.proofs.OwnEnds.{ends_commanded, ends_proposed}
use Rattle.write_path.proofs.laws.own_entries.Goals as goal

pub returns-clause-proposed : goal.returns-clause-proposed
returns-clause-proposed c = ends_proposed

pub returns-clause-commanded : goal.returns-clause-commanded
returns-clause-commanded c = ends_commanded
