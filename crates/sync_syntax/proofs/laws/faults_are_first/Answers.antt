use Rattle.sync_syntax.proofs.FaultTokens.{faults_are_first}
use Rattle.sync_syntax.proofs.laws.faults_are_first.Goals as goal

pub returns : goal.returns
returns c = faults_are_first c.texts_have_tokens.ensures c.tokens_rise.ensures
