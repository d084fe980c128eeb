use denote.Param.Send.{sendable}
use Rattle.sync_resolve.proofs.Crossing.{resolved_send, resolved_sync}
use Rattle.sync_resolve.proofs.laws.crosses_threads.Goals as goal

pub shared-requires-send-T : goal.shared-requires-send-T
shared-requires-send-T c κs = search (resolved_send, sendable)

pub shared-requires-sync-T : goal.shared-requires-sync-T
shared-requires-sync-T c κs = search (resolved_sync, sendable)
