use denote.Param.Send.{sendable}
use Rattle.write_path.proofs.Crossing.{shelf_send}
use Rattle.tests_of_threads.proofs.given_up.told_between.Goals as goal

pub draw-number-requires-send-B : goal.draw-number-requires-send-B
draw-number-requires-send-B g c κs = search (shelf_send, sendable) depth 20
