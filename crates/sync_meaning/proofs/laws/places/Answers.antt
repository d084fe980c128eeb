use Rattle.sync_meaning.proofs.Places.{places}
use Rattle.sync_meaning.proofs.laws.places.Goals as goal

pub returns : goal.returns
returns c = places
