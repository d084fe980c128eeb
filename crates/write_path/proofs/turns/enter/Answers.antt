use denote.Param.Send.{sendable}
use Rattle.write_path.proofs.Crossing.{shelf_send}
use Rattle.write_path.proofs.turns.enter.Goals as goal

pub enter-requires-send-B : goal.enter-requires-send-B
enter-requires-send-B g c κs within = search (shelf_send, sendable) depth 20
