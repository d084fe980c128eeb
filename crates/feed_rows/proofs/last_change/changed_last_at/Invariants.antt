use Rattle.std.proofs.Common.{◌≡◌, reverse}
use Rattle.feed_rows.specs.LastChange.{Stood, place_in}
use Rattle.sg_history.specs.History.{past}
use Rattle.feed_rows.proofs.last_change.changed_last_at.Given as goal

-- the last change is that up to here, and the document stood so here
abbrev pub invariant-loop-to : goal.invariant-loop-to
invariant-loop-to l = record {
  stands : Stood l.entries l.index l.viewer l.doc l.to l.stood;
  last : place_in (reverse l.entries) l.viewer l.doc ≡ place_in (past l.entries l.to) l.viewer l.doc;
}

abbrev pub decreases-loop-to : goal.decreases-loop-to
decreases-loop-to l = l.to
