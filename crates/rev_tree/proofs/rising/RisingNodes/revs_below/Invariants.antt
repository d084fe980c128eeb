use Rattle.std.proofs.Common.{◌≡◌, ◌≤◌, ◌-◌, ◌++◌, map, take, filter, length}
use Rattle.std.specs.Prelude.{nat_lt}
use Rattle.rev_tree.specs.declared.leaf.Leaf.{Leaf}
use Rattle.rev_tree.specs.declared.tree.Node.{Node}
use Rattle.rev_tree.specs.Rising.{falling}
use Rattle.rev_tree.proofs.Firsts.{within}
use Rattle.rev_tree.proofs.rising.RisingNodes.revs_below.Given as goal

abbrev pub invariant-loop-bound : goal.invariant-loop-bound
invariant-loop-bound l = record {
  room : length l.revs.items ≤ l.most;
  so_far : l.revs.items ++ map (λ (k : Leaf). k.rev) (take (l.most - length l.revs.items) (falling (within l.bound l.self))) ≡ map (λ (k : Leaf). k.rev) (take l.most (falling (filter (λ (n : Node). nat_lt n.rev.generation l.generation) l.self)));
}

abbrev pub decreases-loop-bound : goal.decreases-loop-bound
decreases-loop-bound l = l.most - length l.revs.items
