use denote.Param.Send.{sendable}
use Rattle.write_path.proofs.Crossing.{shelf_send}
use Rattle.bench_histories.proofs.sharing.counted_at.Goals as goal

pub open-requires-send-B : goal.open-requires-send-B
open-requires-send-B g c κs = search (shelf_send, sendable) depth 20
