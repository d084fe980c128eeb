-- What looks at feeds keep may go to another thread.
use denote.Param.Send.{IsSend, sendable}
use Rattle.std.proofs.Crossing as heap
use Rattle.lru.proofs.cache.LruCache.TheSendSync as cache
use Rattle.channel_cache.proofs.lists.Lists.TheSendSync as lists
use Rattle.changes_feed.proofs.periods.TakenPeriods.TheSendSync as taken
use Rattle.grant_history.proofs.Crossing.{history_send}
use Rattle.changes_feed.specs.contracts.feeds.Feeds

pub feeds_send : IsSend Feeds.the_row
feeds_send = search (lists.the_send, cache.the_send, taken.the_send, history_send, heap.crosses, sendable) depth 60 fits 20000
