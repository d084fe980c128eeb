use denote.Param.Send.{sendable}
use Rattle.std.proofs.Crossing.{crosses}
use Rattle.sync_resolve.proofs.Crossing.{resolved_send, resolved_sync}
use Rattle.bench_histories.proofs.threads.both.Goals as goal

pub join-requires-send-F : goal.join-requires-send-F
join-requires-send-F g c κs within = search (resolved_send, resolved_sync, crosses, sendable) depth 60 fits 20000
