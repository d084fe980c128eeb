-- When kept lists are those of a log.
use Rattle.std.specs.Prelude.{◌≡◌, ◌≤◌, ℕ, nat_eq, Bool, true, false, List, filter, length, Option, Some, None}
use Rattle.std.specs.List.{All, list_any}
use Rattle.sg_history.specs.declared.entries.Entry.{Entry}
use Rattle.sg_history.specs.History.{past}
use Rattle.log_index.specs.Places.{next_at}
use Rattle.channel_cache.specs.Kept.{KeptList, KeptLists, Cached}
use Rattle.channel_cache.specs.Listed.{listed, sequences_of}

-- whether a sequence is among these
abbrev pub has : List ℕ → ℕ → Bool
has sequences seq = list_any (nat_eq seq) sequences

-- whether there is no next write
abbrev pub is_last : Option ℕ → Bool
is_last None = true
is_last (Some next) = false

-- those of these sequences whose documents were not written again
abbrev pub counted : List Entry → List ℕ → List ℕ
counted es sequences = filter (λ seq. is_last (next_at es seq)) sequences

-- the sequences of a kept list that count are those of the documents of its channel
abbrev pub IsListOf : List Entry → KeptList → Type 0
IsListOf es l = (seq : ℕ) → has (counted es l.sequences) seq ≡ has (sequences_of (listed es l.channel)) seq

-- the lists are those of the first entries of a log
pub record StandsFor (kept : KeptLists) (entries : List Entry) : Type 0 where
  pub within : kept.place ≤ length entries
  pub lists : All (IsListOf (past entries kept.place)) kept.lists

-- an index is that of the first entries of a log, so many or more
abbrev pub IndexesTo : List Entry → List Entry → ℕ → Type 0
IndexesTo index entries to = (n : ℕ) × (to ≤ n) × (n ≤ length entries) × (index ≡ past entries n)

-- the lists and the index are those of the first entries of a log, and the index has those that the lists have
pub record CachedOf (cached : Cached) (entries : List Entry) : Type 0 where
  pub lists : StandsFor cached.lists entries
  pub index : IndexesTo cached.index entries cached.lists.place
