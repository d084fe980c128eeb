use Rattle.rev_tree.specs.Tree.{is_parent}
use Rattle.rev_tree.proofs.Firsts.{leaves_known, same_in_order, order_falls}
use Rattle.rev_tree.proofs.laws.leaves.Goals as goal

pub returns : goal.returns
returns c = record {
  no_parents = λ tree rev. leaves_known (λ r. is_parent tree r) tree rev;
  same = same_in_order;
  falling = order_falls;
}
