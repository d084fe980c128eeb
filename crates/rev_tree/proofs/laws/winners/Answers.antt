use Rattle.rev_tree.specs.Tree.{leaves_of}
use Rattle.rev_tree.proofs.Firsts.{first_wins, first_alone}
use Rattle.rev_tree.proofs.laws.winners.Goals as goal

pub returns : goal.returns
returns c = record {
  first = λ tree winner is. first_wins (leaves_of tree) winner is;
  alone = λ tree winner other is first. first_alone (leaves_of tree) other winner first (first_wins (leaves_of tree) winner is);
}
