use Rattle.sg_names.proofs.OneText.{names_same}
use Rattle.sg_names.proofs.laws.names.Goals as goal

pub returns : goal.returns
returns c = names_same
