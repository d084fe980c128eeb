use Rattle.doc_board.proofs.JudgedWrites.{none_above_last}
use Rattle.doc_board.proofs.laws.last_writes.Goals as goal

pub returns : goal.returns
returns c = none_above_last
