use Rattle.sg_names.proofs.ItemTexts.{grants_apart}
use Rattle.sg_names.proofs.grants.List+Grant.parse.Goals as goal

pub read_rising-requires : goal.read_rising-requires
read_rising-requires c = grants_apart
