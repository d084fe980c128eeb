use denote.Param.Send.{sendable}
use Rattle.write_path.proofs.Crossing.{shelf_send}
use Rattle.tests_of_boards.proofs.sharing.closed.Goals as goal

pub join-requires-send-B : goal.join-requires-send-B
join-requires-send-B c κs = search (shelf_send, sendable) depth 20

pub close-shelf-requires-send-B : goal.close-shelf-requires-send-B
close-shelf-requires-send-B c κs = search (shelf_send, sendable) depth 20
