use Rattle.doc_board.proofs.OneVerdict.{one_verdict}
use Rattle.doc_board.proofs.laws.verdicts.Goals as goal

pub returns : goal.returns
returns c = one_verdict
