use Rattle.doc_board.proofs.Lawful.{recorded_is_lawful}
use Rattle.doc_board.proofs.laws.recorded.Goals as goal

pub returns : goal.returns
returns c = recorded_is_lawful
