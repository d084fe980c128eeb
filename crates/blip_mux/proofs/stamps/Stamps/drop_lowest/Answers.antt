use Rattle.blip_mux.proofs.Lowest.{popped}
use Rattle.blip_mux.proofs.stamps.Stamps.drop_lowest.Goals as goal

pub returns-clause-times : goal.returns-clause-times
returns-clause-times c = popped c.args.stamp c.pop.result _ _ _ c.requires c.args.self.now.ordered c.pop.ensures.permutation c.pop.ensures.heap_order c.pop.ensures.none c.args.self.now.heap.data.ok.0
