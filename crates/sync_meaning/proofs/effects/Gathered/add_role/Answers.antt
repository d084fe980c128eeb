use Rattle.sync_meaning.proofs.Named.{role_grants_total}
use Rattle.sync_meaning.proofs.effects.Gathered.add_role.Goals as goal

pub put-requires-clause-total : goal.put-requires-clause-total
put-requires-clause-total c = role_grants_total
