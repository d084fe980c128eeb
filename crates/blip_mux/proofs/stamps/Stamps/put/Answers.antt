use Rattle.std.proofs.Common.{refl}
use Rattle.blip_mux.proofs.Lowest.{pushed, ok_gives}
use Rattle.blip_mux.proofs.stamps.Stamps.put.Goals as goal

pub returns-clause-times : goal.returns-clause-times
returns-clause-times c = pushed c.args.stamp _ _ _ (ok_gives c.push.result (c.push.ensures.succeeds c.requires) c.push.ensures.permutation) refl
