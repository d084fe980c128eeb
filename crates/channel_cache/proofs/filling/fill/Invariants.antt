use Rattle.std.proofs.Common.{◌≡◌, ◌≤◌, ◌+◌}
use Rattle.sg_history.specs.History.{past}
use Rattle.channel_cache.specs.inner.Asking.{IsFilledFrom}
use Rattle.channel_cache.proofs.filling.fill.Given as goal

-- the entries up to here are filled in
abbrev pub invariant-loop-place : goal.invariant-loop-place
invariant-loop-place l = record {
  within : l.place ≤ l.to;
  ok : IsFilledFrom (past l.initial.log.entries l.to) 0 l.place l.initial.lists.entries l.lists.entries;
  cap : l.lists.cap ≡ l.initial.lists.cap;
  log : l.log.entries ≡ l.initial.log.entries;
  reads : l.log.reads ≤ l.initial.log.reads + l.place;
}
