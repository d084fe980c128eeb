use Rattle.doc_board.proofs.JudgedWrites.{judged_next, judged_later}
use Rattle.doc_board.proofs.laws.judged_writes.Goals as goal

pub returns : goal.returns
returns c = record { next = judged_next; later = judged_later }
