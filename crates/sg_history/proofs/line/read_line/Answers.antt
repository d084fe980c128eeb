use Rattle.sg_history.proofs.LinesRead.{read_as, read_none}
use Rattle.sg_history.proofs.line.read_line.Goals as goal

pub returns-clause-ok : goal.returns-clause-ok
returns-clause-ok c = read_as c.read_fields.result c.args.line.now c.read_fields.ensures.ok

pub returns-clause-none : goal.returns-clause-none
returns-clause-none c = read_none c.read_fields.result c.args.line.now c.read_fields.ensures.reason
