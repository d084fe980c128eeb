use denote.Param.Send.{sendable}
use Rattle.write_path.proofs.Crossing.{shelf_send}
use Rattle.bench_histories.proofs.Sending.{looking_send}
use Rattle.bench_histories.proofs.sharing.longest_by_threads.Goals as goal

pub split-second-requires-send-B : goal.split-second-requires-send-B
split-second-requires-send-B g c κs = search (shelf_send, sendable) depth 20

pub split-third-requires-send-B : goal.split-third-requires-send-B
split-third-requires-send-B g c κs = search (shelf_send, sendable) depth 20

pub split-fourth-requires-send-B : goal.split-fourth-requires-send-B
split-fourth-requires-send-B g c κs = search (shelf_send, sendable) depth 20

pub by_four-first-requires-send-J : goal.by_four-first-requires-send-J
by_four-first-requires-send-J g c κs within = search (looking_send, sendable) depth 30
