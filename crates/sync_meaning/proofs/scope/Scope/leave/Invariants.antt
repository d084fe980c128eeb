use Rattle.std.proofs.Common.{◌≡◌, take, length}
use Rattle.sync_meaning.proofs.scope.Scope.leave.Given as goal

abbrev pub invariant-loop-self : goal.invariant-loop-self
invariant-loop-self l = record {
  next : l.self.next ≡ l.fn.self.next;
  seen : take l.fn.count l.self.seen ≡ take l.fn.count l.fn.self.seen;
}

abbrev pub decreases-loop-self : goal.decreases-loop-self
decreases-loop-self l = length l.self.seen
