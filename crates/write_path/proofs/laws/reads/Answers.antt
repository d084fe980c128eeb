use Rattle.write_path.proofs.ReadLaws.{no_read, read_on, later_than_before}
use Rattle.write_path.proofs.laws.reads.Goals as goal

pub returns-clause-reflexive : goal.returns-clause-reflexive
returns-clause-reflexive c = no_read

pub returns-clause-transitive : goal.returns-clause-transitive
returns-clause-transitive c = read_on

pub returns-clause-before : goal.returns-clause-before
returns-clause-before c = later_than_before
