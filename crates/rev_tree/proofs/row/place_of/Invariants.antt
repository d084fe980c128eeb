use Rattle.std.proofs.Common.{◌≡◌, ◌≤◌, ◌+◌, ◌-◌, ℕ, true, false, length, drop}
use Rattle.rev_tree.specs.Rising.{is_within, starts}
use Rattle.rev_tree.specs.inner.Parts.{joined}
use Rattle.rev_tree.proofs.row.place_of.Given as goal

abbrev pub invariant-loop-low : goal.invariant-loop-low
invariant-loop-low g l = record {
  ordered : l.low ≤ l.high;
  within : l.high ≤ length l.parts;
  below : (j : ℕ) → j + 1 ≡ l.low → starts (is_within l.bound) (joined g.P.Part.nodes (drop j l.parts)) ≡ true;
  above : starts (is_within l.bound) (joined g.P.Part.nodes (drop l.high l.parts)) ≡ false;
}

abbrev pub decreases-loop-low : goal.decreases-loop-low
decreases-loop-low g l = l.high - l.low
