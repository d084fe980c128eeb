-- When what is kept of sources and holders is what a log gives at its places. Only proofs need it.
use Rattle.std.specs.Prelude.{◌≡◌, ◌≤◌, ℕ, ◌+◌, ◌-◌, List, ◌∷◌, length}
use Rattle.sg_history.specs.declared.entries.Entry.{Entry}
use Rattle.sg_history.specs.History.{past}
use Rattle.log_index.specs.declared.index.LogIndex.{LogIndex}
use Rattle.log_index.specs.Index.{Indexes}
use Rattle.grant_history.specs.declared.facts.Fact.{Fact}
use Rattle.grant_history.specs.declared.ledger.Ledger.{Ledger}
use Rattle.grant_history.specs.declared.store.Store.{Store}
use Rattle.grant_history.specs.Store.{has_at}
use Rattle.grant_history.specs.Sources.{is_held}
use Rattle.grant_history.specs.Ledger.{IsLedger}

-- what is kept is what the first entries of a log give, so many, and what is held at each place up
-- to there is what is held after the entries up to that place
pub record LedgerAt (kept : Ledger) (entries : List Entry) (n : ℕ) : Type 0 where
  pub is_kept : IsLedger kept (past entries n)
  pub held : (k : ℕ) (f : Fact) → k ≤ n → has_at kept.store f k ≡ is_held (past entries k) f

-- the entry at a place is to be applied to what is kept, and the index has it
pub record IsNextApplied (indexed : LogIndex) (ledger : Ledger) (entries : List Entry) (e : Entry) (at : ℕ) : Type 0 where
  pub low : 1 ≤ at
  pub high : at ≤ length entries
  pub newest : past entries at ≡ e ∷ past entries (at - 1)
  pub index : Indexes indexed (past entries at)
  pub kept : LedgerAt ledger entries (at - 1)

-- what is kept is right before a place
pub record IsBefore (kept : Ledger) (at : ℕ) : Type 0 where
  pub es : List Entry
  pub place : at ≡ length es + 1
  pub is_kept : IsLedger kept es

-- what is held at each place up to one is what is held after the entries up to it, and nothing that
-- is kept is of a later place
pub record StoreAt (store : Store) (entries : List Entry) (n : ℕ) : Type 0 where
  pub kept : Ledger
  pub same : kept.store ≡ store
  pub at : LedgerAt kept entries n
