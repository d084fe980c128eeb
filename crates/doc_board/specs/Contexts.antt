-- who proposes a revision, with the roles and channels at the end of a history
use Rattle.std.specs.Prelude.{◌≡◌, ℕ, Bool, List, [], Option, Some, None}
use Rattle.sg_history.specs.declared.entries.Entry.{Entry}
use Rattle.sg_history.specs.History.{among}
use Rattle.sg_history.specs.Principals.{has_channel, has_role}
use Rattle.log_views.specs.Sorted.{AreSorted}
use Rattle.sync_meaning.specs.declared.state.Context.{Context}

-- names in their order, each once, which are those of which something holds
pub record AreNamed (holds : List ℕ → Bool) (list : List (List ℕ)) : Type 0 where
  pub order : AreSorted list
  pub names : (name : List ℕ) → among list name ≡ holds name

-- the user, with the roles and channels that it has after these entries
pub record IsUserWith (es : List Entry) (name : List ℕ) (context : Context) : Type 0 where
  pub user : context.user ≡ Some name
  pub roles : AreNamed (has_role es name) context.roles
  pub channels : AreNamed (has_channel es name) context.channels

-- a user with its roles and channels after these entries, or the administrator, who has none
abbrev pub IsContext : List Entry → Option (List ℕ) → Context → Type 0
IsContext es None context = (context.user ≡ None) × (context.roles ≡ []) × (context.channels ≡ [])
IsContext es (Some user) context = IsUserWith es user context
