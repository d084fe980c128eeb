use Rattle.channel_cache.proofs.Keeping.{stands_longer}
use Rattle.channel_cache.proofs.laws.extended.Goals as goal

pub returns : goal.returns
returns c = λ earlier later stands extends. stands_longer c.args.lists.now earlier later stands extends
