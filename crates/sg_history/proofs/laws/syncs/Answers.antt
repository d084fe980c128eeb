use Rattle.sg_history.proofs.Syncs.{same_syncs, same_last_sync}
use Rattle.sg_history.proofs.laws.syncs.Goals as goal

pub returns : goal.returns
returns c = record { same = λ earlier later last number is_later is low. same_syncs earlier later last is_later is number low; last = same_last_sync }
