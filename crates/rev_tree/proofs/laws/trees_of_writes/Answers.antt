use Rattle.rev_tree.proofs.OfWrites.{same_revisions, same_pairs, same_leaves, same_winner}
use Rattle.rev_tree.proofs.Parents.{parent_in}
use Rattle.rev_tree.proofs.laws.trees_of_writes.Goals as goal

pub returns : goal.returns
returns c = record { revisions = same_revisions; pairs = same_pairs; parents = parent_in; leaves = same_leaves; winner = same_winner }
