use Rattle.std.proofs.Common.{◌≡◌, subst, sym, IfOk}
use Rattle.std.specs.Option.{option_copied}
use Rattle.sg_history.specs.Book.{book_with}
use Rattle.doc_board.specs.State.{State, top_of, last_on, base_on}
use Rattle.rev_tree.specs.Documents.{base_in}
use Rattle.doc_board.proofs.Bodies.{base_body, found_document}
use Rattle.doc_board.proofs.board.Board.base_of.Goals as goal

pub base_of-requires-clause-stands : goal.base_of-requires-clause-stands
base_of-requires-clause-stands c = c.self.invariant.0.standing

pub base_of-requires-clause-last : goal.base_of-requires-clause-last
base_of-requires-clause-last c = subst (λ (s : State). c.args.last ≡ last_on s c.args.doc.now) (sym c.self.view_is) c.requires.last

pub returns-clause-base : goal.returns-clause-base
returns-clause-base c =
    subst (λ (s : State). IfOk c.base_of.result (λ found. option_copied found ≡ base_on s c.args.doc.now c.args.ancestors.now)) c.self.view_is c.base_of.ensures

pub returns-clause-document : goal.returns-clause-document
returns-clause-document c =
    let log = c.self.inside.storage.log.entries.list in
    let waiting = c.self.inside.storage.pending.waiting in
    found_document c.base_of.result (base_in (book_with log waiting) (top_of log waiting) c.args.doc.now c.args.ancestors.now)
    (base_body (book_with log waiting) (top_of log waiting) c.args.doc.now c.args.ancestors.now c.self.invariant.0.standing.kept.right) c.base_of.ensures
