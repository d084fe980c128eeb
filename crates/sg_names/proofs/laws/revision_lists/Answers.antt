use Rattle.sg_names.proofs.OneText.{revs_same}
use Rattle.sg_names.proofs.laws.revision_lists.Goals as goal

pub returns : goal.returns
returns c = revs_same
