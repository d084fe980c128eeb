-- Where a ground's draws come from, and how many are left.
use Rattle.std.specs.Prelude.{◌≡◌, ◌+◌, ◌≤◌, ℕ, Option}
use Rattle.atomic_table.specs.Seated.{TableId}

-- the gate at which a ground takes its turns, none where it owns its shelf; and how many draws it has in all, made ones included
pub record Origin : Type 0 where
  pub gate : Option TableId
  pub draws : ℕ

-- a call makes no draw
pub record Stays (origin_before origin_after : Origin) (left_before left_after : ℕ) : Type 0 where
  pub origin : origin_after ≡ origin_before
  pub left : left_after ≡ left_before

-- a call makes at most two draws
pub record Spends (origin_before origin_after : Origin) (left_before left_after : ℕ) : Type 0 where
  pub origin : origin_after ≡ origin_before
  pub least : left_after ≤ left_before
  pub most : left_before ≤ left_after + 2
