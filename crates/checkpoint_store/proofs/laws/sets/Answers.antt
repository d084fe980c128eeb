use Rattle.checkpoint_store.proofs.Setting.{set_follows}
use Rattle.checkpoint_store.proofs.laws.sets.Goals as goal

pub returns : goal.returns
returns c = set_follows
