-- What a history of grants has applied.
use Rattle.std.specs.Prelude.{ℕ, List, [], ◌∷◌, if◌then◌else◌}
use Rattle.std.specs.Str.{bytes_eq}
use Rattle.sg_history.specs.declared.entries.Entry.{Entry}

-- a user, and the last change of what it has
pub record LastChange : Type 0 where
  pub user : List ℕ
  pub at : ℕ

-- that of a user, 0 where it has none
abbrev pub changed_at : List LastChange → List ℕ → ℕ
changed_at [] user = 0
changed_at (c ∷ cs) user = if bytes_eq user c.user then c.at else changed_at cs user

-- how many entries of a log are applied, the entries that the index has, the newest first, and the last changes of users
pub record AppliedLog : Type 0 where
  pub applied : ℕ
  pub index : List Entry
  pub changed : List LastChange
