use Rattle.std.proofs.Common.{◌≡◌, ◌≤◌, ◌+◌, ◌-◌, ◌*◌}
use Rattle.channel_cache.specs.Reads.{passed}
use Rattle.changes_feed.specs.inner.Segment.{SegmentAt}
use Rattle.changes_feed.proofs.segment.pass.Given as goal

-- the segment knows what holds up to here
abbrev pub invariant-loop-place : goal.invariant-loop-place
invariant-loop-place l = record {
  low : l.start - 1 ≤ l.place;
  within : l.place ≤ l.front;
  known : SegmentAt l.viewer l.start l.initial.log.entries l.place l.segment;
  log : l.log.entries ≡ l.initial.log.entries;
  reads : l.log.reads ≤ l.initial.log.reads + 4 * passed l.initial.log.entries (l.start - 1) l.place;
}
