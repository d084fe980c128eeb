use Rattle.std.proofs.Common.{◌≡◌, drop}
use Rattle.rev_tree.specs.Extension.{added, with_nodes}
use Rattle.rev_tree.proofs.history.with_ancestors.Given as goal

abbrev pub invariant-loop-i : goal.invariant-loop-i
invariant-loop-i l = l.made ≡ with_nodes (added l.nodes (drop l.i l.ancestors)) l.nodes
