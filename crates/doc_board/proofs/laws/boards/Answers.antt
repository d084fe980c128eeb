use Rattle.doc_board.proofs.BoardTrees.{same_last, same_tree, same_base, written_tree}
use Rattle.doc_board.proofs.laws.boards.Goals as goal

pub returns : goal.returns
returns c = record { last = same_last; trees = same_tree; bases = same_base; written = written_tree }
