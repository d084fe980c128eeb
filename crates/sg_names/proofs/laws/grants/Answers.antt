use Rattle.sg_names.proofs.OneText.{grants_same}
use Rattle.sg_names.proofs.laws.grants.Goals as goal

pub returns : goal.returns
returns c = grants_same
