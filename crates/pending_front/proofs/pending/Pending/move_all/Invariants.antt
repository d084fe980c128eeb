use Rattle.std.proofs.Common.{◌≡◌, ◌≤◌, ◌+◌, length}
use Rattle.sg_history.specs.World.{release}
use Rattle.pending_front.specs.Pending.{AreBeyond}
use Rattle.pending_front.proofs.pending.Pending.move_all.Given as goal

abbrev pub invariant-loop : goal.invariant-loop
invariant-loop l = record {
  same : release l.log.entries.list l.self.waiting ≡ release l.fn.log.entries.list l.fn.self.waiting;
  beyond : AreBeyond l.log.entries.list l.self.waiting;
  count : l.moved ≡ l.counter;
  end : l.end ≡ length l.fn.self.waiting;
  moved : length l.log.entries.list ≡ length l.fn.log.entries.list + l.moved;
  left : length l.self.waiting + l.moved ≡ length l.fn.self.waiting;
  spare : l.fn.self.spare ≤ l.self.spare;
  log_spare : l.log.entries.spare + l.moved ≡ l.fn.log.entries.spare;
  limit : l.log.limit ≡ l.fn.log.limit;
}
