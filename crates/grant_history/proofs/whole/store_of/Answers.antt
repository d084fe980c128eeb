use Rattle.std.proofs.Common.{refl}
use Rattle.grant_history.proofs.whole.store_of.Goals as goal

pub returns : goal.returns
returns c = record { kept = c.in_ok-ledger.ledger; same = refl; at = c.in_ok-ledger.ensures }
