-- The entries that a configuration begins a history with.
use Rattle.std.specs.Prelude.{◌≡◌, ℕ, List, [], ◌∷◌, ◌++◌, take}
use Rattle.sg_history.specs.declared.entries.Entry.{Entry}
use Rattle.sg_history.specs.declared.entries.Entry.TheVariants as entry
use Rattle.sg_history.specs.History.{among}
use Rattle.log_views.specs.Sorted.{AreSorted}
use Rattle.gateway_config.specs.declared.config.ConfigRole.{ConfigRole}
use Rattle.gateway_config.specs.declared.config.ConfigUser.{ConfigUser}

-- the same names in their order, each once
pub record IsSortedOf (given sorted : List (List ℕ)) : Type 0 where
  pub among : (name : List ℕ) → among sorted name ≡ among given name
  pub rising : AreSorted sorted

-- the put of a role
pub record IsRoleEntry (role : ConfigRole) (e : Entry) : Type 0 where
  pub channels : List (List ℕ)
  pub in_order : IsSortedOf role.channels channels
  pub entry : e ≡ entry.PutRole role.name channels

-- the put of a user
pub record IsUserEntry (user : ConfigUser) (e : Entry) : Type 0 where
  pub channels : List (List ℕ)
  pub roles : List (List ℕ)
  pub channels_in_order : IsSortedOf user.channels channels
  pub roles_in_order : IsSortedOf user.roles roles
  pub entry : e ≡ entry.PutUser user.name channels roles

-- each of these is of one, in their order
abbrev pub AreOf : {X : Type 0} → (X → Entry → Type 0) → List X → List Entry → Type 0
AreOf IsOf [] [] = Unit {0}
AreOf IsOf (x ∷ xs) (e ∷ es) = IsOf x e × AreOf IsOf xs es
AreOf IsOf xs es = ⊥

-- the puts of the roles, and then of the users, as many of them as a log has room for
pub record IsOpening (its_roles : List ConfigRole) (its_users : List ConfigUser) (opening : List Entry) : Type 0 where
  pub roles : List Entry
  pub users : List Entry
  pub are_roles : AreOf IsRoleEntry its_roles roles
  pub are_users : AreOf IsUserEntry its_users users
  pub entries : opening ≡ take 3999999 (roles ++ users)
