use Rattle.write_path.proofs.ReadLaws.{read_after, read_between, later_than_read}
use Rattle.write_path.proofs.laws.was_read.Goals as goal

pub returns-clause-before : goal.returns-clause-before
returns-clause-before c = read_after

pub returns-clause-lowest : goal.returns-clause-lowest
returns-clause-lowest c = λ before after low high b r w. (read_between before after low high b r w).0

pub returns-clause-front : goal.returns-clause-front
returns-clause-front c = λ before after low high b r w. (read_between before after low high b r w).1

pub returns-clause-since : goal.returns-clause-since
returns-clause-since c = later_than_read

pub returns-clause-extended : goal.returns-clause-extended
returns-clause-extended c = λ before after b h w all.
    c.later.ensures.log b.log b.pending h (later_than_read before after b h w all)
