use denote.Param.Send.{sendable}
use Rattle.write_path.proofs.Crossing.{shelf_send}
use Rattle.bench_histories.proofs.Sending.{keeping_send}
use Rattle.bench_histories.proofs.checkpoints.by_passes.Goals as goal

pub split-other-requires-send-B : goal.split-other-requires-send-B
split-other-requires-send-B g c κs = search (shelf_send, sendable) depth 20

pub by_two-one-requires-send-J : goal.by_two-one-requires-send-J
by_two-one-requires-send-J g c κs within = search (keeping_send, sendable) depth 30

pub by_two-one-requires-send-K : goal.by_two-one-requires-send-K
by_two-one-requires-send-K g c κs within = search (keeping_send, sendable) depth 30
