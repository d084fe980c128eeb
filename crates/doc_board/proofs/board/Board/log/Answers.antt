use Rattle.std.proofs.Common.{subst}
use Rattle.doc_board.specs.Lawful.{AreLawful, AreEntries}
use Rattle.doc_board.specs.Recorded.{AreFollowing}
use Rattle.doc_board.specs.State.{State, newest_first, book_on, top_of, writes_on}
use Rattle.sg_history.specs.Book.{book_with}
use Rattle.rev_tree.specs.Writes.{AreAccepted}
use Rattle.doc_board.proofs.Histories.{following_log, lawful_log, in_log_book}
use Rattle.doc_board.proofs.Tops.{none_above_top}
use Rattle.doc_board.proofs.board.Board.log.Goals as goal

pub returns-clause-lawful : goal.returns-clause-lawful
returns-clause-lawful c =
    let log = c.self.inside.storage.log.entries.list in
    let waiting = c.self.inside.storage.pending.waiting in
    subst (λ (s : State). AreLawful (newest_first s)) c.self.view_is
    (lawful_log c.books.ensures.of_rev log (book_with log waiting) (in_log_book log waiting) c.self.invariant.0.standing.kept.right)

pub returns-clause-following : goal.returns-clause-following
returns-clause-following c =
    let log = c.self.inside.storage.log.entries.list in
    let waiting = c.self.inside.storage.pending.waiting in
    subst (λ (s : State). AreFollowing (newest_first s)) c.self.view_is
    (following_log c.books.ensures.of_rev log (book_with log waiting) (in_log_book log waiting) c.histories.ensures.writes c.self.invariant.0.standing.kept.right)

pub returns-clause-entries : goal.returns-clause-entries
returns-clause-entries c =
    subst (λ (s : State). AreEntries (book_on s)) c.self.view_is
    (λ number e is. let right = c.self.invariant.0.standing.kept.right number e is in (right.0, right.2))

pub returns-clause-accepted : goal.returns-clause-accepted
returns-clause-accepted c = λ doc.
    let log = c.self.inside.storage.log.entries.list in
    let waiting = c.self.inside.storage.pending.waiting in
    subst (λ (s : State). AreAccepted (writes_on s doc)) c.self.view_is
    (c.self.invariant.0.standing.kept.accepted (top_of log waiting) (none_above_top log waiting) doc)

pub returns-clause-limit : goal.returns-clause-limit
returns-clause-limit c = c.self.invariant.2
