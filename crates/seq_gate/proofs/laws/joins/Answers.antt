use Rattle.seq_gate.proofs.Holding.{after_each}
use Rattle.seq_gate.proofs.laws.joins.Goals as goal

pub returns : goal.returns
returns c = λ p other board all. after_each p.read other.read board all
