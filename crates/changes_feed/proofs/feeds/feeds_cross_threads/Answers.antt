use denote.Param.Send.{sendable}
use Rattle.changes_feed.proofs.Crossing.{feeds_send}
use Rattle.changes_feed.proofs.feeds.feeds_cross_threads.Goals as goal

pub crosses_threads-requires-send-T : goal.crosses_threads-requires-send-T
crosses_threads-requires-send-T c κs = search (feeds_send, sendable) depth 20
