use Rattle.rev_tree.proofs.layer.Layer.in_rows.Goals as goal

pub invariant_of-result : goal.invariant_of-result
invariant_of-result g c = (c.in_ok-rows_of.ensures.are_all, rw (c.in_ok-rows_of.ensures.hold, c.as_slice.ensures.value) c.self.invariant.1)
