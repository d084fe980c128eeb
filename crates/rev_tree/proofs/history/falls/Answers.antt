use Rattle.std.proofs.Common.{◌∷◌, arith}
use Rattle.rev_tree.specs.Extension.{falls}
use Rattle.rev_tree.proofs.Steps.{falls_more}
use Rattle.rev_tree.proofs.history.falls.Goals as goal

pub loop-ancestor-preserved : goal.loop-ancestor-preserved
loop-ancestor-preserved c =
    falls_more (falls (c.args.rev.now ∷ c.args.ancestors.now)) c.loop-ancestor.last.now c.args.ancestors.now c.loop-ancestor.ancestor-index c.ancestor-item.result
    c.loop-ancestor-test.true c.ancestor-item.is (omega arith) c.loop-ancestor.invariant
