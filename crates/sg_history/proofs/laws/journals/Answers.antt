use Rattle.sg_history.proofs.BadLines.{journal_same}
use Rattle.sg_history.proofs.laws.journals.Goals as goal

pub returns : goal.returns
returns c = journal_same
