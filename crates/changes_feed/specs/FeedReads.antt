-- How often a look at a feed reads the log.
use Rattle.std.specs.Prelude.{ℕ, ◌+◌, ◌-◌, ◌*◌, List, length, min}
use Rattle.sg_history.specs.declared.entries.Entry.{Entry}
use Rattle.sg_history.specs.History.{past}
use Rattle.channel_cache.specs.Kept.{KeptLists, refills_at}
use Rattle.channel_cache.specs.Listed.{listed_in}
use Rattle.channel_cache.specs.Reads.{passed}

-- the most reads for the segment itself: eight for each of its entries and marks; for the channels that the user gained or lost in it
-- four for each document that is in one of them at the front, and a pass for each that is filled
abbrev pub segment_reads : KeptLists → List Entry → List (List ℕ) → ℕ → ℕ → ℕ
segment_reads lists entries channels start front =
    8 * passed entries (start - 1) front + 4 * length (listed_in (past entries front) channels) + front * refills_at lists channels front

-- the most reads of a look with a history of grants that has the front: two more for each entry and mark that the lists pass
abbrev pub look_reads : KeptLists → List Entry → List (List ℕ) → ℕ → ℕ → ℕ
look_reads lists entries channels start front =
    2 * passed entries lists.place front + segment_reads lists entries channels start front

-- the most reads where the history of grants is brought up to the front: four more for each entry and mark that it or the lists pass
abbrev pub advance_reads : KeptLists → ℕ → List Entry → List (List ℕ) → ℕ → ℕ → ℕ
advance_reads lists applied entries channels start front =
    4 * passed entries (min lists.place applied) front + segment_reads lists entries channels start front
