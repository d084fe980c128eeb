use Rattle.sg_history.proofs.Currents.{effects_next, effects_own, unwritten_current}
use Rattle.sg_history.proofs.laws.currents.Goals as goal

pub returns : goal.returns
returns c = record { unwritten = unwritten_current; effects = effects_next; own = effects_own }
