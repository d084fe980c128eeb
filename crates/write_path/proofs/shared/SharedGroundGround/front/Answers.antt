use denote.Param.Send.{sendable}
use Rattle.write_path.proofs.Crossing.{shelf_send}
use Rattle.write_path.proofs.shared.SharedGroundGround.front.Goals as goal

pub front-front-requires-send-B : goal.front-front-requires-send-B
front-front-requires-send-B g c κs = search (shelf_send, sendable) depth 20
