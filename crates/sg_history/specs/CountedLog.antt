-- a log that is read entry by entry, the number of its reads, and how many marks its entries have
use Rattle.std.specs.Prelude.{ℕ, ◌-◌, List, drop, length, sum_by, take, Option, Some, None}
use Rattle.sg_history.specs.declared.entries.Entry.{Entry}
use Rattle.sg_history.specs.History.{SyncEntry, as_sync}

-- a log with how often it was read
pub record CountedLog : Type 0 where
  pub entries : List Entry
  pub reads : ℕ

-- how many marks a replaced sync function has, where there is one
abbrev pub count_marks : Option SyncEntry → ℕ
count_marks None = 0
count_marks (Some sync) = length sync.marks

-- how many marks the entries behind the first so many have, up to a place
abbrev pub marks_between : List Entry → ℕ → ℕ → ℕ
marks_between entries from to = sum_by (λ e. count_marks (as_sync e)) (take (to - from) (drop from entries))
