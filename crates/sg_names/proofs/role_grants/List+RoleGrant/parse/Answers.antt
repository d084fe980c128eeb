use Rattle.sg_names.proofs.ItemTexts.{role_grants_apart}
use Rattle.sg_names.proofs.role_grants.List+RoleGrant.parse.Goals as goal

pub read_rising-requires : goal.read_rising-requires
read_rising-requires c = role_grants_apart
