use Rattle.std.proofs.Common.{ap}
use Rattle.checkpoint_store.specs.Stored.{side_of}
use Rattle.checkpoint_store.proofs.Stored.{none_kept}
use Rattle.checkpoint_store.proofs.checkpoints.Checkpoints.new.Goals as goal

pub invariant_of-result : goal.invariant_of-result
invariant_of-result c = none_kept c.new.result.entries c.new.ensures.empty

pub returns : goal.returns
returns c = ap side_of c.new.ensures.empty
