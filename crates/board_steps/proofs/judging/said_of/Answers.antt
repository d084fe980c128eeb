use Rattle.std.proofs.Common.{◌∙◌, ap, List, ℕ}
use Rattle.json_doc.specs.System.{with_system}
use Rattle.json_doc.specs.View.{node_tree}
use Rattle.board_steps.proofs.JudgedBy.{said_by_document, same_document}
use Rattle.board_steps.proofs.judging.said_of.Goals as goal

pub returns-in-Ok : goal.returns-in-Ok
returns-in-Ok c =
    let r = c.args.revision.now in
    let named = c.in-Ok.ensures ∙ ap (λ (id : List ℕ). with_system id r.deleted (node_tree c.args.doc)) c.as_str.ensures.value in
    said_by_document c.args.program.now r c.args.basis.now (node_tree c.in-Ok.doc) c.said_of_document-said.result
    (node_tree c.args.doc, same_document r.body (node_tree c.args.doc) c.requires.document, named) c.said_of_document-said.ensures
