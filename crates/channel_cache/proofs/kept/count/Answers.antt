use Rattle.channel_cache.proofs.Names.{apart_names}
use Rattle.channel_cache.proofs.kept.count.Goals as goal

pub returns-clause-apart : goal.returns-clause-apart
returns-clause-apart c = apart_names c.args.lists.now.entries c.len.ensures.valid.0
