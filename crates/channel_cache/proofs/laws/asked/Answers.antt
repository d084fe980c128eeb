use Rattle.channel_cache.proofs.LastAsked.{asked_all}
use Rattle.channel_cache.proofs.laws.asked.Goals as goal

pub returns : goal.returns
returns c = λ most channels some. asked_all most channels some
