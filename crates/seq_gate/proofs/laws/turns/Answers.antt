use Rattle.seq_gate.proofs.Leaving.{untouched, drawn_stores}
use Rattle.seq_gate.proofs.laws.turns.Goals as goal

pub returns : goal.returns
returns c = record { untouched = untouched c.boards.ensures.itself; drawn = drawn_stores }
