use denote.Param.Send.{sendable}
use Rattle.write_path.proofs.Crossing.{shelf_send}
use Rattle.bench_histories.proofs.sharing.turn_after.Goals as goal

pub enter-turn-requires-send-B : goal.enter-turn-requires-send-B
enter-turn-requires-send-B g c κs within = search (shelf_send, sendable) depth 20

pub leave-requires-send-B : goal.leave-requires-send-B
leave-requires-send-B g c κs = search (shelf_send, sendable) depth 20
