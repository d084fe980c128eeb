use Rattle.std.proofs.Common.{◌∙◌, ℕ, ap}
use Rattle.doc_board.specs.Candidates.{entry_of}
use Rattle.doc_board.specs.State.{book_on}
use Rattle.doc_board.specs.Steps.{stored_at, with_entry}
use Rattle.doc_board.proofs.board.Board.commit.Goals as goal

pub returns-in-None-clause-stored : goal.returns-in-None-clause-stored
returns-in-None-clause-stored c =
    c.store-at.ensures.stored ∙ ap (λ (n : ℕ). stored_at c.args.self.now n (entry_of c.args.candidate)) c.spend-sequence.ensures

pub returns-in-None-clause-book : goal.returns-in-None-clause-book
returns-in-None-clause-book c =
    c.store-at.ensures.book ∙ ap (λ (n : ℕ). with_entry n (entry_of c.args.candidate) (book_on c.args.self.now)) c.spend-sequence.ensures
