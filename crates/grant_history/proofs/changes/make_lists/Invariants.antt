use Rattle.std.proofs.Common.{◌≡◌, ℕ, List, take}
use Rattle.grant_history.specs.inner.Changes.{AreKept, facts_in_changes}
use Rattle.grant_history.specs.Ledger.{facts_in}
use Rattle.grant_history.proofs.changes.make_lists.Given as goal

-- something is kept of those so far
abbrev pub invariant-loop-change : goal.invariant-loop-change
invariant-loop-change l = record {
  there : AreKept l.lists (take l.change-index (facts_in_changes l.changes));
  lists : (other : List ℕ) → facts_in l.lists other ≡ facts_in l.initial.lists other;
}
