-- The entries of sequences, and what they say.
use Rattle.std.specs.Prelude.{ℕ, ◌-◌, List, Option, Some, None}
use Rattle.std.specs.List.{slice_get}
use Rattle.sg_history.specs.declared.entries.Entry.{Entry}
use Rattle.sg_history.specs.declared.entries.Write.{Write}
use Rattle.sg_history.specs.History.{as_write}

-- the write that an entry is, if there is one
abbrev pub written : Option Entry → Option Write
written None = None
written (Some e) = as_write e

-- the write of a sequence
abbrev pub write_at : List Entry → ℕ → Option Write
write_at entries seq = written (slice_get entries (seq - 1))
