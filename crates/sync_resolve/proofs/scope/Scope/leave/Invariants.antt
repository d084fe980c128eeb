use Rattle.std.proofs.Common.{◌≡◌, take, length}
use Rattle.sync_resolve.proofs.scope.Scope.leave.Given as goal

abbrev pub invariant-loop-self : goal.invariant-loop-self
invariant-loop-self l = record {
  own : l.self.own ≡ l.fn.self.own;
  block : l.self.block ≡ l.fn.self.block;
  seen : take l.fn.count l.self.seen ≡ take l.fn.count l.fn.self.seen;
}

abbrev pub decreases-loop-self : goal.decreases-loop-self
decreases-loop-self l = length l.self.seen
