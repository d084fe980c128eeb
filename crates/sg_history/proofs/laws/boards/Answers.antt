use Rattle.sg_history.proofs.Boards.{after_itself, after_again}
use Rattle.sg_history.proofs.laws.boards.Goals as goal

pub returns : goal.returns
returns c = record { itself = after_itself; again = after_again }
