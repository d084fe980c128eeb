use Rattle.std.proofs.Common.{◌≡◌, ◌≤◌, ◌+◌}
use Rattle.channel_cache.specs.inner.Forward.{IsForward}
use Rattle.channel_cache.specs.Reads.{passed}
use Rattle.channel_cache.proofs.forward.bring_forward.Given as goal

-- the lists are brought forward up to here
abbrev pub invariant-loop-place : goal.invariant-loop-place
invariant-loop-place l = record {
  low : l.from ≤ l.place;
  within : l.place ≤ l.to;
  ok : IsForward l.initial.log.entries l.from l.place l.initial.lists.entries l.lists.entries;
  cap : l.lists.cap ≡ l.initial.lists.cap;
  log : l.log.entries ≡ l.initial.log.entries;
  reads : l.log.reads ≤ l.initial.log.reads + passed l.initial.log.entries l.from l.place;
}
