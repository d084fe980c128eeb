use Rattle.ws_door.proofs.Chains.{one_answer}
use Rattle.ws_door.proofs.laws.one_answer.Goals as goal

pub returns : goal.returns
returns c = one_answer
