use Rattle.std.proofs.Common.{refl, arith}
use Rattle.blip_mux.proofs.Lowest.{heads}
use Rattle.blip_mux.proofs.stamps.Stamps.lowest.Goals as goal

pub returns-in-Some-clause-some : goal.returns-in-Some-clause-some
returns-in-Some-clause-some c = heads c.in-Some.lowest.now _ c.in-Some.ensures.lookup (let long = c.args.self.now.heap.data.ok.0 in let some = c.in-Some.ensures.variant.0 refl in omega arith) (c.in-Some.ensures.greatest c.args.self.now.ordered)
