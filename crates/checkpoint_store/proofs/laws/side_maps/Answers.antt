use Rattle.checkpoint_store.proofs.Rising.{rising_same, rising_count}
use Rattle.checkpoint_store.proofs.laws.side_maps.Goals as goal

pub returns : goal.returns
returns c = record { same = rising_same; count = rising_count }
