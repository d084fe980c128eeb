-- When an index is that of these entries.
use Rattle.std.specs.Prelude.{◌≡◌, List}
use Rattle.sg_history.specs.declared.entries.Entry.{Entry}
use Rattle.log_index.specs.declared.index.LogIndex.{LogIndex}

-- the index is that of these entries, the newest first
abbrev pub Indexes : LogIndex → List Entry → Type 0
Indexes index es = index ≡ es
