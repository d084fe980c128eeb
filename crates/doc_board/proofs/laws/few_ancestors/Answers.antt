use Rattle.doc_board.proofs.Following.{few_extend}
use Rattle.doc_board.proofs.laws.few_ancestors.Goals as goal

pub returns : goal.returns
returns c = few_extend
