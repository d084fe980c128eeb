use Rattle.json_doc.specs.View.{node_tree}
use Rattle.doc_board.proofs.open.is_document.Goals as goal

pub returns-in-Ok-clause-yes : goal.returns-in-Ok-clause-yes
returns-in-Ok-clause-yes c = λ _. (node_tree c.in-Ok.doc, c.in-Ok.ensures.ok)
