use Rattle.pending_front.proofs.Storing.{stored_free, stored_beyond, stored_book, stored_later, stored_rises}
use Rattle.pending_front.proofs.Releasing.{released_rises}
use Rattle.pending_front.proofs.laws.storing.Goals as goal

pub returns : goal.returns
returns c =
    record {
      free = stored_free;
      beyond = λ log waiting number e may. stored_beyond log waiting number may e;
      book = λ log waiting number e other may. stored_book log waiting number may e other;
      later = λ log waiting number e may. stored_later log waiting number may e;
      rises = λ log waiting number e may up. stored_rises log waiting number may e up;
      released = released_rises;
    }
