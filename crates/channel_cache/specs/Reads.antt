-- How often a log is read.
use Rattle.std.specs.Prelude.{ℕ, ◌+◌, ◌-◌, ◌*◌, List, [], ◌∷◌, length, zero, suc}
use Rattle.sg_history.specs.declared.entries.Entry.{Entry}
use Rattle.sg_history.specs.History.{past}
use Rattle.sg_history.specs.CountedLog.{marks_between}
use Rattle.channel_cache.specs.Kept.{KeptLists, refills_at}
use Rattle.channel_cache.specs.Listed.{listed}

-- how many entries, and marks in them, a log has behind one place up to another
abbrev pub passed : List Entry → ℕ → ℕ → ℕ
passed entries from to = to - from + marks_between entries from to

-- the reads of a pass over the log up to a place, where something is filled
abbrev pub filling : ℕ → ℕ → ℕ
filling zero to = 0
filling (suc more) to = to

-- the most reads that asking for these channels takes: one for each entry and mark that is passed, and a pass where one is filled
abbrev pub ask_reads : KeptLists → List Entry → List (List ℕ) → ℕ → ℕ
ask_reads lists entries channels to = passed entries lists.place to + filling (refills_at lists channels to) to

-- the most reads that listing takes: two for each entry and mark that is passed, one for each document, and a pass where it is filled
abbrev pub list_reads : KeptLists → List Entry → List ℕ → ℕ → ℕ
list_reads lists entries channel to =
    2 * passed entries lists.place to + length (listed (past entries to) channel) + filling (refills_at lists (channel ∷ []) to) to
