use Rattle.sync_tokens.proofs.Rises.{tokens_rise}
use Rattle.sync_tokens.proofs.laws.tokens_rise.Goals as goal

pub returns : goal.returns
returns c = tokens_rise
