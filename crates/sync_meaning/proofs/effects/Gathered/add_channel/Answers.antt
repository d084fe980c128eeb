use Rattle.sync_meaning.proofs.Named.{texts_total}
use Rattle.sync_meaning.proofs.effects.Gathered.add_channel.Goals as goal

pub put-requires-clause-total : goal.put-requires-clause-total
put-requires-clause-total c = texts_total
