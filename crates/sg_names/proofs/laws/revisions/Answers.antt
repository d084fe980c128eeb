use Rattle.sg_names.proofs.ItemTexts.{rev_has_one_text}
use Rattle.sg_names.proofs.laws.revisions.Goals as goal

pub returns : goal.returns
returns c = rev_has_one_text
