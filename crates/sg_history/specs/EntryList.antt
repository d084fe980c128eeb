-- a list of entries, with the spare room that was reserved for more
use Rattle.std.specs.Prelude.{ℕ, List}
use Rattle.sg_history.specs.declared.entries.Entry.{Entry}

-- a list of entries with how many more fit without memory
pub record EntryList : Type 0 where
  pub list : List Entry
  pub spare : ℕ
