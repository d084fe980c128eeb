-- An index may go to another thread.
use denote.Param.Send.{IsSend, sendable}
use Rattle.std.proofs.Crossing.{crosses}
use Rattle.std.proofs.MapsCrossing as maps
use Rattle.log_index.proofs.taken.Links.TheLaws.TheKnot as knot
use Rattle.log_index.specs.contracts.index.LogIndex

pub index_send : IsSend LogIndex.the_row
index_send = search (knot.crosses, maps.crosses, crosses, sendable) depth 30
