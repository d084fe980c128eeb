use Rattle.std.proofs.Common.{◌∙◌, ap, Option}
use Rattle.sg_history.specs.Book.{book_with, writes_up_to}
use Rattle.doc_board.specs.declared.document.Document.{Document}
use Rattle.doc_board.specs.Kept.{kept_last}
use Rattle.doc_board.specs.State.{State, top_of, last_on}
use Rattle.doc_board.proofs.Places.{last_by}
use Rattle.doc_board.proofs.Tops.{none_above_top}
use Rattle.doc_board.proofs.board.Board.last_write.Goals as goal

pub returns : goal.returns
returns c =
    let log = c.self.inside.storage.log.entries.list in
    let waiting = c.self.inside.storage.pending.waiting in
    c.last_of.ensures
    ∙ ap (λ (o : Option Document). kept_last o) c.document_of.ensures
    ∙ last_by (writes_up_to (book_with log waiting) (top_of log waiting)) c.self.inside.storage.documents c.args.doc.now (c.self.invariant.0.standing.kept.documents (top_of log waiting) (none_above_top log waiting))
    ∙ ap (λ (s : State). last_on s c.args.doc.now) c.self.view_is
