use Rattle.std.proofs.Common.{◌∙◌, List, ℕ, None, false, sym, subst}
use Rattle.json_doc.specs.Reading.{IsDocument}
use Rattle.json_doc.specs.View.{node_tree}
use Rattle.tests_of_boards.proofs.Again.{leaves, small_document, well_formed}
use Rattle.tests_of_boards.proofs.tries.tried.Goals as goal

pub propose_again-requires-clause-formed : goal.propose_again-requires-clause-formed
propose_again-requires-clause-formed c =
    let D : List ℕ → Type 0 = λ body. IsDocument body (node_tree c.in-Ok-read_doc.document) in
    well_formed _ c.as_str.ensures.grammar (sym c.is_rev.ensures ∙ c.if-not-is_rev.false) c.new.ensures c.in-Ok.ensures
    (node_tree c.in-Ok-read_doc.document, subst D c.as_slice.ensures c.in-Ok-read_doc.ensures.ok)

pub returns : goal.returns
returns c =
    leaves c.args.board.now c.room.new.self c.propose_again.new.board c.args.program.now false None _ c.in-Ok-room.room c.new-number.result c.args.number c.propose_again.result
    c.in-Ok-room.ensures.log c.in-Ok-room.ensures.pending c.new-number.ensures c.in-Ok-room.ensures.room
    (small_document c.in-Ok.body c.in-Ok.ensures) c.in-Ok-room.ensures.out c.propose_again.ensures
