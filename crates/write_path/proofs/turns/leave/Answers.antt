use denote.Param.Send.{sendable}
use Rattle.write_path.proofs.Crossing.{shelf_send}
use Rattle.write_path.proofs.turns.leave.Goals as goal

pub leave-requires-send-B : goal.leave-requires-send-B
leave-requires-send-B c κs = search (shelf_send, sendable) depth 20
