use denote.Param.Send.{sendable}
use Rattle.write_path.proofs.Crossing.{shelf_send}
use Rattle.session_threads.proofs.run.take_in.Goals as goal

pub join-requires-send-B : goal.join-requires-send-B
join-requires-send-B g c κs = search (shelf_send, sendable) depth 20
