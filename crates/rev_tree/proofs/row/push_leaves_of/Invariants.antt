use Rattle.std.proofs.Common.{◌≡◌, ◌++◌, drop}
use Rattle.rev_tree.specs.Rising.{falling}
use Rattle.rev_tree.specs.inner.Parts.{joined}
use Rattle.rev_tree.proofs.row.push_leaves_of.Given as goal

abbrev pub invariant-loop-i : goal.invariant-loop-i
invariant-loop-i g l = l.leaves.items ≡ l.fn.leaves.items ++ falling (joined g.P.Part.nodes (drop l.i l.parts))
