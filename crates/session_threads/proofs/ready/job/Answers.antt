use denote.Param.Send.{sendable}
use Rattle.write_path.proofs.Crossing.{shelf_send}
use Rattle.session_threads.proofs.ready.job.Goals as goal

pub split-other-requires-send-B : goal.split-other-requires-send-B
split-other-requires-send-B g c κs = search (shelf_send, sendable) depth 20
