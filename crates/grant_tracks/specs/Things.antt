-- What one user or role has or had.
use Rattle.std.specs.Prelude.{ℕ, List}
use Rattle.grant_tracks.specs.declared.held.Held.{Held}

-- all things that it has or had, the place from which on it is kept which of them may be held still, and the place at which a
-- source gave or took one last
pub record Things : Type 0 where
  pub items : List Held
  pub since : ℕ
  pub changed : ℕ
