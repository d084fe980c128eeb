-- The channels and roles of users and roles, given the entries up to a place, the newest first.
use Rattle.std.specs.Prelude.{ℕ, Bool, true, false, ◌&&◌, ◌||◌, List, [], ◌∷◌, ◌++◌, Option, Some, None, if◌then◌else◌}
use Rattle.std.specs.List.{list_any}
use Rattle.std.specs.Str.{bytes_eq}
use Rattle.sg_names.specs.declared.grants.Grantee.{Grantee}
use Rattle.sg_names.specs.declared.grants.Grantee.TheVariants.{User, Role}
use Rattle.sg_history.specs.declared.entries.Entry.{Entry}
use Rattle.sg_history.specs.declared.entries.Entry.TheVariants as entry
use Rattle.sg_history.specs.History.{among, documents}
use Rattle.sg_history.specs.Current.{Current, current}

-- the channel `!`, which every user has
abbrev pub everyone : List ℕ
everyone = 33 ∷ []

-- what a user or a role was given by its last put, or nothing where it was never put, or dropped since
pub record PrincipalState : Type 0 where
  pub channels : List (List ℕ)
  pub roles : List (List ℕ)

-- whether both are the same user, or the same role
abbrev pub same_grantee : Grantee → Grantee → Bool
same_grantee (User a) (User b) = bytes_eq a b
same_grantee (User a) (Role b) = false
same_grantee (Role a) (User b) = false
same_grantee (Role a) (Role b) = bytes_eq a b

-- the user or role that an entry puts or drops, with what it is from then on: none where it is dropped
pub record Put : Type 0 where
  pub of : Grantee
  pub state : Option PrincipalState

-- the put or drop that an entry is, if it is one
abbrev pub as_put : Entry → Option Put
as_put (entry.Write w) = None
as_put (entry.PutUser name channels roles) =
    Some (record { of = User name; state = Some (record { channels = channels; roles = roles }) })
as_put (entry.PutRole name channels) =
    Some (record { of = Role name; state = Some (record { channels = channels; roles = [] }) })
as_put (entry.DropUser name) = Some (record { of = User name; state = None })
as_put (entry.DropRole name) = Some (record { of = Role name; state = None })
as_put (entry.Sync text marks) = None
as_put entry.Unused = None

-- what a put or a drop makes of a user or role, given what it was before
abbrev pub principal_after : Option Put → Grantee → Option PrincipalState → Option PrincipalState
principal_after None whom before = before
principal_after (Some put) whom before = if same_grantee put.of whom then put.state else before

-- what an entry makes of a user, given what it was before
abbrev pub user_after : Entry → List ℕ → Option PrincipalState → Option PrincipalState
user_after e user before = principal_after (as_put e) (User user) before

-- a user: its last put, or none where it does not exist
abbrev pub user_at : List Entry → List ℕ → Option PrincipalState
user_at [] user = None
user_at (e ∷ older) user = user_after e user (user_at older user)

-- what an entry makes of a role, given what it was before
abbrev pub role_after : Entry → List ℕ → Option PrincipalState → Option PrincipalState
role_after e role before = principal_after (as_put e) (Role role) before

-- a role: its last put, or none where it does not exist
abbrev pub role_at : List Entry → List ℕ → Option PrincipalState
role_at [] role = None
role_at (e ∷ older) role = role_after e role (role_at older role)

-- whether the current revision of a document grants the channel
abbrev pub grants_channel : Option Current → Grantee → List ℕ → Bool
grants_channel None to channel = false
grants_channel (Some c) to channel = list_any (λ g. same_grantee g.to to && bytes_eq g.channel channel) c.effects.grants

-- whether the current revision of some document grants the channel
abbrev pub is_granted : List Entry → Grantee → List ℕ → Bool
is_granted es to channel = list_any (λ doc. grants_channel (current es doc) to channel) (documents es)

-- whether the current revision of a document gives the role to the user
abbrev pub gives_role : Option Current → List ℕ → List ℕ → Bool
gives_role None user role = false
gives_role (Some c) user role = list_any (λ g. bytes_eq g.user user && bytes_eq g.role role) c.effects.roles

-- whether the current revision of some document gives the role to the user
abbrev pub is_given : List Entry → List ℕ → List ℕ → Bool
is_given es user role = list_any (λ doc. gives_role (current es doc) user role) (documents es)

-- the name of a role that is put: none where another is put, or it is dropped
abbrev pub role_named : Grantee → Option PrincipalState → List (List ℕ)
role_named (User name) state = []
role_named (Role name) None = []
role_named (Role name) (Some state) = name ∷ []

-- the role that a put is of, if it is one of a role
abbrev pub role_put : Option Put → List (List ℕ)
role_put None = []
role_put (Some put) = role_named put.of put.state

-- the role that an entry puts, if it puts one
abbrev pub role_put_by : Entry → List (List ℕ)
role_put_by e = role_put (as_put e)

-- the roles that were ever put
abbrev pub roles_put : List Entry → List (List ℕ)
roles_put [] = []
roles_put (e ∷ older) = role_put_by e ++ roles_put older

-- whether a put stands
abbrev pub exists : Option PrincipalState → Bool
exists None = false
exists (Some state) = true

-- whether a put names the role
abbrev pub names_role : Option PrincipalState → List ℕ → Bool
names_role None role = false
names_role (Some state) role = among state.roles role

-- whether a put has the channel
abbrev pub names_channel : Option PrincipalState → List ℕ → Bool
names_channel None channel = false
names_channel (Some state) channel = among state.channels channel

-- a user that exists has each role that exists and that its last put names or a current revision gives to it
abbrev pub has_role : List Entry → List ℕ → List ℕ → Bool
has_role es user role =
    exists (user_at es user) && exists (role_at es role) && (names_role (user_at es user) role || is_given es user role)

-- a role that exists has the channels of its last put and those that current revisions grant to it
abbrev pub role_has_channel : List Entry → List ℕ → List ℕ → Bool
role_has_channel es role channel =
    exists (role_at es role) && (names_channel (role_at es role) channel || is_granted es (Role role) channel)

-- a user that exists has the channel `!`, those of its last put, those that current revisions grant to it, and those of its roles
abbrev pub has_channel : List Entry → List ℕ → List ℕ → Bool
has_channel es user channel =
    exists (user_at es user)
    && (bytes_eq channel everyone || names_channel (user_at es user) channel || is_granted es (User user) channel
    || list_any (λ role. has_role es user role && role_has_channel es role channel) (roles_put es))
