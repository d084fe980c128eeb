use Rattle.doc_board.proofs.Alone.{alone_next, alone_above, alone_stored, alone_book}
use Rattle.doc_board.proofs.laws.alone.Goals as goal

pub returns : goal.returns
returns c = record { next = alone_next; above = alone_above; stored = alone_stored; book = alone_book }
