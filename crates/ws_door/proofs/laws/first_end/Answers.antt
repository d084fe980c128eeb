use Rattle.ws_door.proofs.Endings.{ends_so}
use Rattle.ws_door.proofs.laws.first_end.Goals as goal

pub returns : goal.returns
returns c = ends_so
