use Rattle.std.proofs.Common.{◌+◌, ◌-◌, ◌≤◌, length}
use Rattle.ws_door.specs.inner.HeadReader.{HasRoom, Follows}
use Rattle.ws_door.proofs.heads.read_head.Given as goal

abbrev pub invariant-reads : goal.invariant-reads
invariant-reads g l = record {
  room : HasRoom l.head;
  counted : g.L.Link.faults l.fn.link ≤ g.L.Link.faults l.link;
  recorded : Follows (g.L.Link.recorded l.fn.link) l.head (g.L.Link.recorded l.link);
}

abbrev pub decreases-reads : goal.decreases-reads
decreases-reads g l = 9192 - (length l.head.bytes.items + l.head.idle)
