-- The channels that entries have. Only proofs and the lists' own functions need it.
use Rattle.std.specs.Prelude.{ℕ, List, [], Option, Some, None}
use Rattle.sg_history.specs.declared.entries.Entry.{Entry}
use Rattle.sg_history.specs.declared.entries.Mark.{Mark}
use Rattle.sg_history.specs.declared.entries.Write.{Write}
use Rattle.sg_history.specs.History.{as_sync, as_write}
use Rattle.log_index.specs.Marks.{mark_in_place}

-- the channels that a write recorded
abbrev pub written_channels : Option Write → List (List ℕ)
written_channels None = []
written_channels (Some w) = w.channels

-- the channels of a mark
abbrev pub marked_channels : Option Mark → List (List ℕ)
marked_channels None = []
marked_channels (Some mark) = mark.channels

-- the channels that an entry's write recorded, where there is one
abbrev pub channels_written : Option Entry → List (List ℕ)
channels_written None = []
channels_written (Some e) = written_channels (as_write e)

-- the channels of the mark at a place of an entry, where there is one
abbrev pub channels_marked : Option Entry → ℕ → List (List ℕ)
channels_marked None place = []
channels_marked (Some e) place = marked_channels (mark_in_place (as_sync e) place)
