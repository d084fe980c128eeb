use Rattle.std.proofs.Common.{◌∙◌, ap, subst, Option}
use Rattle.sg_history.specs.Book.{book_with, writes_up_to}
use Rattle.rev_tree.specs.Documents.{tree_when}
use Rattle.rev_tree.specs.Writes.{AreAccepted}
use Rattle.doc_board.specs.declared.document.Document.{Document}
use Rattle.doc_board.specs.Kept.{kept_tree}
use Rattle.doc_board.specs.State.{State, top_of, writes_on}
use Rattle.doc_board.proofs.Places.{tree_by}
use Rattle.doc_board.proofs.Standing.{first_positive}
use Rattle.doc_board.proofs.Tops.{none_above_top}
use Rattle.doc_board.proofs.board.Board.tree.Goals as goal

pub returns-clause-tree : goal.returns-clause-tree
returns-clause-tree c =
    let log = c.self.inside.storage.log.entries.list in
    let waiting = c.self.inside.storage.pending.waiting in
    let doc = c.args.doc.now in
    c.tree_of.ensures
    ∙ ap (λ (o : Option Document). kept_tree o) c.document_of.ensures
    ∙ tree_by (writes_up_to (book_with log waiting) (top_of log waiting)) c.self.inside.storage.documents doc (c.self.invariant.0.standing.kept.documents (top_of log waiting) (none_above_top log waiting))
    (first_positive (book_with log waiting) (top_of log waiting) doc)
    ∙ ap (λ (s : State). tree_when (writes_on s doc)) c.self.view_is

pub returns-clause-accepted : goal.returns-clause-accepted
returns-clause-accepted c =
    let log = c.self.inside.storage.log.entries.list in
    let waiting = c.self.inside.storage.pending.waiting in
    subst (λ (s : State). AreAccepted (writes_on s c.args.doc.now)) c.self.view_is
    (c.self.invariant.0.standing.kept.accepted (top_of log waiting) (none_above_top log waiting) c.args.doc.now)
