use Rattle.channel_cache.proofs.Keeping.{cached_longer}
use Rattle.channel_cache.proofs.laws.extended_caches.Goals as goal

pub returns : goal.returns
returns c = λ earlier later stands extends. cached_longer c.args.caches.now earlier later stands extends
