-- How checkpoints are kept, as a side map: read by the type's own proofs alone.
use Rattle.std.specs.Prelude.{List, String, string_bytes, map}
use Rattle.std.specs.Global.{Global}
use Rattle.sg_history.specs.Board.{SideEntry, SideValue}
use Rattle.checkpoint_store.specs.declared.kept.Checkpoint.{Checkpoint}

-- a checkpoint as a value of a side map
abbrev pub value_of : Checkpoint → SideValue
value_of checkpoint = record { number = checkpoint.rev; bytes = checkpoint.body }

-- an entry of a map as one of a side map
abbrev pub entry_of : String Global × Checkpoint → SideEntry
entry_of e = record { text = string_bytes e.0; value = value_of e.1 }

-- the entries of a map as a side map
abbrev pub side_of : List (String Global × Checkpoint) → List SideEntry
side_of entries = map entry_of entries
