use Rattle.seq_gate.proofs.Worlds.{sums_world}
use Rattle.seq_gate.proofs.laws.world.Goals as goal

pub returns : goal.returns
returns c = sums_world
