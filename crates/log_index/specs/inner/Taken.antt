-- What snapshots of entries stand for.
use Rattle.std.specs.Prelude.{List, [], ◌∷◌}
use Rattle.sg_history.specs.declared.entries.Entry.{Entry}
use Rattle.log_index.specs.declared.taken.Links.{Links, fold-Links}
use Rattle.log_index.specs.declared.taken.Links.TheOpen.{Links-F}

-- the newest entry before the others
abbrev pub entries_step : Links-F (List Entry) → List Entry
entries_step Links-F.Nothing = []
entries_step (Links-F.Then before entry) = entry.value ∷ before.value

-- the entries, the newest first
abbrev pub entries_in : Links → List Entry
entries_in = fold-Links (List Entry) entries_step
