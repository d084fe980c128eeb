use Rattle.replay_in_turn.proofs.Devices.{device_in}
use Rattle.replay_in_turn.proofs.laws.device.Goals as goal

pub returns : goal.returns
returns c = device_in c.device.ensures c.sessions.ensures.fronts c.answers.ensures.within
