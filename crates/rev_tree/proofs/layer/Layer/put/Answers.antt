use Rattle.std.specs.Arc.{arc_value}
use Rattle.rev_tree.proofs.Rises.{rises_insert}
use Rattle.rev_tree.proofs.layer.Layer.put.Goals as goal

pub invariant_of-result : goal.invariant_of-result
invariant_of-result g c =
    (c.in_ok-put_in.ensures.are_all, rw (c.in_ok-put_in.ensures.hold, c.as_slice.ensures.value, c.self.view_is) (rises_insert (arc_value c.args.node.now) c.args.self.now (rw c.self.view_is at c.self.invariant.1) c.requires))
