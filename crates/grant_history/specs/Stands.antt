-- When a history of grants is that of a log.
use Rattle.std.specs.Prelude.{◌⊎◌, ◌<◌, ◌≤◌, ℕ, ◌+◌, List, length}
use Rattle.sg_history.specs.declared.entries.Entry.{Entry}
use Rattle.sg_history.specs.History.{past}
use Rattle.log_index.specs.declared.index.LogIndex.{LogIndex}
use Rattle.log_index.specs.Index.{Indexes}
use Rattle.grant_history.specs.declared.history.GrantHistory.{GrantHistory}

-- the index is that of the first entries of a log, so many or one more
abbrev pub IsIndexed : LogIndex → List Entry → ℕ → Type 0
IsIndexed index entries n =
    Indexes index (past entries n) ⊎ ((n < length entries) × Indexes index (past entries (n + 1)))

-- the history of grants is that of the first entries of a log, as many as it has applied
pub record StandsFor (history : GrantHistory) (entries : List Entry) : Type 0 where
  pub within : history.applied ≤ length entries
  pub index : IsIndexed history.index entries history.applied
