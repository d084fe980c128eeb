-- What bringing lists forward makes of them. Only proofs and the lists' own functions need it.
use Rattle.std.specs.Prelude.{◌≡◌, ◌-◌, ℕ, List, Option, Some, None, slice_get}
use Rattle.std.specs.Map.{keys_of}
use Rattle.sg_history.specs.declared.entries.Entry.{Entry}
use Rattle.sg_history.specs.History.{SyncEntry, as_sync, past}
use Rattle.channel_cache.specs.inner.Counting.{AreLists}
use Rattle.channel_cache.specs.Sequences.{Lists}

-- the same channels have lists, and where these were those of one place, they are those of another
pub record IsForward (entries : List Entry) (from to : ℕ) (old new : Lists) : Type 0 where
  pub keys : keys_of new ≡ keys_of old
  pub lists : AreLists (past entries from) old → AreLists (past entries to) new

-- the replacement of the sync function that an entry is, where there is one
abbrev pub replaced_by : Option Entry → Option SyncEntry
replaced_by None = None
replaced_by (Some e) = as_sync e

-- the replacement at a place
abbrev pub replaced_at : List Entry → ℕ → Option SyncEntry
replaced_at entries at = replaced_by (slice_get entries (at - 1))
