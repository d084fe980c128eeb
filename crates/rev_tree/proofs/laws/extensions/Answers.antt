use Rattle.rev_tree.proofs.OfWrites.{known_with, written_some}
use Rattle.rev_tree.proofs.laws.extensions.Goals as goal

pub returns : goal.returns
returns c = record { known = λ tree w rev accepted. known_with tree w rev accepted; some = written_some }
