use denote.Param.Send.{sendable}
use Rattle.write_path.proofs.Crossing.{shelf_send}
use Rattle.write_path.proofs.shared.SharedGroundGround.left.Goals as goal

pub left-requires-send-B : goal.left-requires-send-B
left-requires-send-B g c κs = search (shelf_send, sendable) depth 20
