use denote.Param.Send.{sendable}
use Rattle.write_path.proofs.Crossing.{shelf_send}
use Rattle.bench_histories.proofs.Sending.{proposing_send, waiting_send}
use Rattle.bench_histories.proofs.sharing.wait_beside.Goals as goal

pub split-other-requires-send-B : goal.split-other-requires-send-B
split-other-requires-send-B g c κs = search (shelf_send, sendable) depth 20

pub by_two-requires-send-J : goal.by_two-requires-send-J
by_two-requires-send-J g c κs within = search (proposing_send, sendable) depth 30

pub by_two-requires-send-K : goal.by_two-requires-send-K
by_two-requires-send-K g c κs within = search (waiting_send, sendable) depth 30
