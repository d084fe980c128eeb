use Rattle.rev_tree.proofs.Rises.{rises_without}
use Rattle.rev_tree.proofs.layer.Layer.take_out.Goals as goal

pub invariant_of-result : goal.invariant_of-result
invariant_of-result g c =
    (c.in_ok-take_from.ensures.are_all, rw (c.in_ok-take_from.ensures.hold, c.as_slice.ensures.value, c.self.view_is) (rises_without c.args.rev.now c.args.self.now (rw c.self.view_is at c.self.invariant.1)))
