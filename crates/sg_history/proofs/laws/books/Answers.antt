use Rattle.sg_history.proofs.Books.{writes_in_past, last_in_past, last_of_history, rev_in_past}
use Rattle.sg_history.proofs.laws.books.Goals as goal

pub returns : goal.returns
returns c = record { writes = writes_in_past; last = last_in_past; is_last = last_of_history; of_rev = rev_in_past }
