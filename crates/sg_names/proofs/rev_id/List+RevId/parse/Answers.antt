use Rattle.sg_names.proofs.ItemTexts.{revs_apart}
use Rattle.sg_names.proofs.rev_id.List+RevId.parse.Goals as goal

pub read_list-requires : goal.read_list-requires
read_list-requires c = revs_apart
