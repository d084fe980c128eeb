use denote.Param.Send.{sendable}
use Rattle.write_path.proofs.Crossing.{shelf_send}
use Rattle.tests_of_threads.proofs.given_up.opened.Goals as goal

pub open-requires-send-B : goal.open-requires-send-B
open-requires-send-B c κs = search (shelf_send, sendable) depth 20
