use denote.Param.Send.{sendable}
use Rattle.write_path.proofs.Crossing.{shelf_send}
use Rattle.tests_of_threads.proofs.given_up.held_and_given_up.Goals as goal

pub split-two-requires-send-B : goal.split-two-requires-send-B
split-two-requires-send-B g c κs = search (shelf_send, sendable) depth 20
