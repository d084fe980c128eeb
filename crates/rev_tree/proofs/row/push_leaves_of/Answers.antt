use Rattle.std.proofs.Common.{◌≡◌, ◌++◌, ◌+◌, ◌-◌, arith, drop}
use Rattle.rev_tree.specs.Rising.{falling}
use Rattle.rev_tree.specs.inner.Parts.{joined}
use Rattle.rev_tree.proofs.RowSteps.{leaves_step}
use Rattle.rev_tree.proofs.row.push_leaves_of.Goals as goal

pub loop-i-preserved : goal.loop-i-preserved
loop-i-preserved g c =
    let j = c.loop-i.i - 1 in
    let next : j + 1 ≡ c.loop-i.i = omega arith in
    let before : c.loop-i.leaves.items ≡ c.args.leaves.now.items ++ falling (joined g.P.Part.nodes (drop (j + 1) c.args.parts.now)) = rw next c.loop-i.invariant in
    leaves_step g.P.Part.nodes c.args.parts.now j c.index-parts-i.result (omega arith) c.index-parts-i.is c.args.leaves.now.items c.loop-i.leaves.items c.push_leaves.new.leaves.items before (rw c.deref.ensures at c.in_ok-push_leaves.ensures)
