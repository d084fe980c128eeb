use Rattle.doc_board.proofs.LaterBoards.{later_tree, later_base, least_of_log}
use Rattle.doc_board.proofs.laws.later_boards.Goals as goal

pub returns-clause-trees : goal.returns-clause-trees
returns-clause-trees c = later_tree c.later_books.ensures.trees

pub returns-clause-bases : goal.returns-clause-bases
returns-clause-bases c = later_base c.later_books.ensures.based

pub returns-clause-least : goal.returns-clause-least
returns-clause-least c = least_of_log c.books.ensures.last
