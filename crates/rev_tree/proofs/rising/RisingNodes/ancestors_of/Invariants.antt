use Rattle.std.proofs.Common.{◌≡◌, ◌≤◌, ◌-◌, ◌++◌, length}
use Rattle.rev_tree.specs.Tree.{parent_of, line_from, ancestors_of}
use Rattle.rev_tree.proofs.rising.RisingNodes.ancestors_of.Given as goal

abbrev pub invariant-loop-child : goal.invariant-loop-child
invariant-loop-child l = record {
  room : length l.found.items ≤ l.most;
  so_far : l.found.items ++ line_from l.self (parent_of l.self l.child) (l.most - length l.found.items) ≡ ancestors_of l.self l.rev l.most;
}

abbrev pub decreases-loop-child : goal.decreases-loop-child
decreases-loop-child l = l.most - length l.found.items
