-- How effects are kept. Only proofs need this.
use Rattle.std.specs.Prelude.{◌≡◌, ℕ, true}
use Rattle.std.specs.Cmp.Lexicographic.{slice_cmp}
use Rattle.std.specs.Ordering.{nat_cmp}
use Rattle.sg_names.specs.Grants.{grant_cmp}
use Rattle.sg_names.specs.ItemList.{rises}
use Rattle.sg_names.specs.RoleGrants.{role_grant_cmp}
use Rattle.sync_meaning.specs.declared.effects.Effects.{Effects}

-- each list rises
pub record DoRise (e : Effects) : Type 0 where
  pub channels : rises (slice_cmp nat_cmp) e.channels ≡ true
  pub grants : rises grant_cmp e.grants ≡ true
  pub roles : rises role_grant_cmp e.roles ≡ true
