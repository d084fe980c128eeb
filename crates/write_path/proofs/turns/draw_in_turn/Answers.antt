use denote.Param.Send.{sendable}
use Rattle.write_path.proofs.Crossing.{shelf_send}
use Rattle.write_path.proofs.turns.draw_in_turn.Goals as goal

pub draw-requires-send-B : goal.draw-requires-send-B
draw-requires-send-B c κs = search (shelf_send, sendable) depth 20
