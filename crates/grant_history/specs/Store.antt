-- How many sources give a fact, and when it holds, by what is kept of users and roles.
use Rattle.std.specs.Prelude.{ℕ, ◌+◌, ◌-◌, Bool, List, map, Some, String, string_bytes, if◌then◌else◌}
use Rattle.std.specs.Global.{Global}
use Rattle.sg_names.specs.declared.grants.Grantee.{Grantee}
use Rattle.sg_names.specs.declared.grants.Grantee.TheVariants.{User, Role}
use Rattle.grant_tracks.specs.declared.things.What.{What}
use Rattle.grant_tracks.specs.Changed.{user_changed}
use Rattle.grant_tracks.specs.Holdings.{count_of, held_of, AreAllUpTo}
use Rattle.grant_tracks.specs.Things.{Things}
use Rattle.grant_history.specs.declared.facts.Fact.{Fact}
use Rattle.grant_history.specs.declared.store.Store.{Store}
use Rattle.grant_history.specs.AppliedLog.{LastChange}
use Rattle.grant_history.specs.Facts.{same_fact}

abbrev pub count_to : Store → Grantee → What → ℕ
count_to store (User name) w = count_of store.users (name, w)
count_to store (Role name) w = count_of store.roles (name, w)

abbrev pub held_to : Store → Grantee → What → ℕ → Bool
held_to store (User name) w k = held_of store.users (name, w) k
held_to store (Role name) w k = held_of store.roles (name, w) k

-- how many sources give a fact
abbrev pub count_at : Store → Fact → ℕ
count_at store f = count_to store f.of f.what

abbrev pub has_at : Store → Fact → ℕ → Bool
has_at store f k = held_to store f.of f.what k

-- the counts with one more, or one less, of a fact
abbrev pub more_at : (Fact → ℕ) → Fact → Fact → ℕ
more_at count f g = if same_fact f g then count g + 1 else count g

abbrev pub less_at : (Fact → ℕ) → Fact → Fact → ℕ
less_at count f g = if same_fact f g then count g - 1 else count g

-- the last changes of users, and of the roles that they have or had
abbrev pub last_changes : Store → List LastChange
last_changes store = map (λ (e : String Global × Things). record { user = string_bytes e.0; at = user_changed store.roles (Some e.1) }) store.users.entries

-- nothing that is kept begins or ends after this place
pub record IsStore (store : Store) (n : ℕ) : Type 0 where
  pub users : AreAllUpTo store.users n
  pub roles : AreAllUpTo store.roles n
