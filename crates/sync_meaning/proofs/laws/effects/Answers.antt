use Rattle.sync_meaning.proofs.Lawful.{lawful}
use Rattle.sync_meaning.proofs.laws.effects.Goals as goal

pub returns : goal.returns
returns c = lawful
