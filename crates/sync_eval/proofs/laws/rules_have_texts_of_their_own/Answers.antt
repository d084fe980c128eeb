use Rattle.sync_eval.proofs.Texts.{same_rule}
use Rattle.sync_eval.proofs.laws.rules_have_texts_of_their_own.Goals as goal

pub returns : goal.returns
returns c = same_rule
