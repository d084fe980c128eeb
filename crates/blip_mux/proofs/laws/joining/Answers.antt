use Rattle.blip_mux.proofs.Joins.{new_joined}
use Rattle.blip_mux.proofs.laws.joining.Goals as goal

pub returns : goal.returns
returns c = new_joined
