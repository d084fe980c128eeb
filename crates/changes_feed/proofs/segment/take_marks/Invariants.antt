use Rattle.std.proofs.Common.{◌≡◌, ◌≤◌, ◌+◌, ◌-◌, ◌*◌, length}
use Rattle.sg_history.specs.History.{past}
use Rattle.changes_feed.specs.inner.Amid.{PartAt, taken}
use Rattle.changes_feed.proofs.segment.take_marks.Given as goal

-- the first marks are taken
abbrev pub invariant-loop-i : goal.invariant-loop-i
invariant-loop-i l = record {
  known : PartAt l.viewer l.start l.initial.log.entries l.at (taken (past l.initial.log.entries (l.at - 1)) l.marks l.i) l.segment;
  within : l.i ≤ length l.marks;
  log : l.log.entries ≡ l.initial.log.entries;
  reads : l.log.reads ≤ l.initial.log.reads + 4 * l.i;
}
