use Rattle.std.proofs.Common.{◌≡◌, ◌≤◌, ◌+◌, ◌-◌, length, max}
use Rattle.sg_history.specs.History.{past}
use Rattle.channel_cache.proofs.caches.take_entries.Given as goal

-- the entries up to here are taken
abbrev pub invariant-loop-place : goal.invariant-loop-place
invariant-loop-place l = record {
  low : length l.initial.index ≤ l.place;
  high : l.place ≤ length l.initial.log.entries;
  ends : l.place ≤ max l.to (length l.initial.index);
  index : l.index ≡ past l.initial.log.entries l.place;
  log : l.log.entries ≡ l.initial.log.entries;
  reads : l.log.reads ≤ l.initial.log.reads + (l.place - length l.initial.index);
}
