use Rattle.std.proofs.Common.{◌≡◌, ◌++◌, drop}
use Rattle.grant_history.specs.inner.Changes.{changes_by, facts_in_changes, others}
use Rattle.grant_history.specs.Ledger.{kept_of}
use Rattle.grant_history.proofs.changes.changes_of.Given as goal

-- those so far, and those of the rest
abbrev pub invariant-loop-state : goal.invariant-loop-state
invariant-loop-state l =
    facts_in_changes l.changes.items ++ others (kept_of l.ledger) (changes_by l.marks (drop l.state-index l.states))
    ≡ others (kept_of l.ledger) (changes_by l.marks l.states)
