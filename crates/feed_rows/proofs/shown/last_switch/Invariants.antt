use Rattle.std.proofs.Common.{◌≡◌, ◌≤◌, ℕ}
use Rattle.feed_rows.specs.inner.Shown.{is_shown}
use Rattle.feed_rows.proofs.shown.last_switch.Given as goal

-- since this place it is as at the end
abbrev pub invariant-loop-since : goal.invariant-loop-since
invariant-loop-since l = record {
  past : l.since ≤ l.to;
  same : (j : ℕ) → l.since ≤ j → j ≤ l.to → is_shown l.viewer.periods.now l.viewer.filter.now l.channels j ≡ is_shown l.viewer.periods.now l.viewer.filter.now l.channels l.to;
}

abbrev pub decreases-loop-since : goal.decreases-loop-since
decreases-loop-since l = l.since
