use Rattle.doc_board.specs.State.{book_on, top_on}
use Rattle.doc_board.proofs.Lawful.{winner_named}
use Rattle.doc_board.proofs.laws.winners.Goals as goal

pub returns : goal.returns
returns c = λ s w after entries accepted extends named.
    winner_named c.trees_of_writes.ensures.winner (book_on s) (top_on s) w after entries accepted extends named
