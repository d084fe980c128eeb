use Rattle.sg_history.proofs.OneLine.{line_same}
use Rattle.sg_history.proofs.laws.lines.Goals as goal

pub returns : goal.returns
returns c = line_same
