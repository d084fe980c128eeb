use Rattle.std.proofs.Common.{◌∙◌}
use Rattle.channel_cache.proofs.Having.{lacks_by}
use Rattle.channel_cache.proofs.order.lacks.Goals as goal

pub returns : goal.returns
returns c = c.is_err.ensures.value ∙ lacks_by c.args.numbers.now c.args.number c.binary_search.result c.binary_search.ensures.position c.requires
