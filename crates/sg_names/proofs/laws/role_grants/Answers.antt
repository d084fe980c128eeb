use Rattle.sg_names.proofs.OneText.{role_grants_same}
use Rattle.sg_names.proofs.laws.role_grants.Goals as goal

pub returns : goal.returns
returns c = role_grants_same
