use Rattle.sync_meaning.proofs.Named.{grants_total}
use Rattle.sync_meaning.proofs.effects.Gathered.add_grant.Goals as goal

pub put-requires-clause-total : goal.put-requires-clause-total
put-requires-clause-total c = grants_total
