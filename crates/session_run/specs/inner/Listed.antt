-- The lists of a session, with their spare room.
use Rattle.std.specs.Prelude.{ℕ, List}
use Rattle.session_core.specs.declared.look.Look.{Look}

-- the looks that were taken and the sequences at which revisions were stored, how many of its looks the session has spent, and for how many
-- more looks and sequences there is room
pub record Listed : Type 0 where
  pub looks : List Look
  pub stored : List ℕ
  pub spent : ℕ
  pub spare_looks : ℕ
  pub spare_stored : ℕ
