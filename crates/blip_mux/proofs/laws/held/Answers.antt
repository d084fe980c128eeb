use Rattle.blip_mux.proofs.Bounds.{bounded}
use Rattle.blip_mux.proofs.laws.held.Goals as goal

pub returns : goal.returns
returns c = bounded
