use Rattle.sync_tokens.proofs.Spells.{texts_have_tokens}
use Rattle.sync_tokens.proofs.laws.texts_have_tokens.Goals as goal

pub returns : goal.returns
returns c = texts_have_tokens
