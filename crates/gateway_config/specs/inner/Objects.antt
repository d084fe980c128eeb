-- What only proofs need besides: objects as their members, and the tests of a part of an object's members.
use Rattle.std.specs.Prelude.{◌≡◌, ℕ, Bool, List, [], ◌∷◌, codes, Option}
use Rattle.serde_json.specs.Data.{Data, Members}
use Rattle.serde_json.specs.Find.{get_member}
use Rattle.serde_json.specs.View.{members_view}
use Rattle.sg_history.specs.declared.config_fault.ConfigWhy.TheVariants as why
use Rattle.gateway_config.specs.declared.object.Object.{Object}
use Rattle.gateway_config.specs.declared.settings.Settings.{Settings}
use Rattle.gateway_config.specs.Faults.{Fault, accepts_fault, bind_fault, channels_fault, conflicts_fault, database_fault, item_path, list_fault, name_fault, names_fault, object_fault, role_object_fault, roles_fault, session_fault, function_fault, user_object_fault, users_fault}
use Rattle.gateway_config.specs.Values.{accepts_of, bind_of, conflicts_of, database_of}

-- the members of an object
abbrev pub members_of : Object → Members
members_of object = members_view object.members.now.entries

-- the tests of what a role and a user have both
abbrev pub holder_tests : List ℕ → (List ℕ → Bool) → Members → List (Option Fault)
holder_tests path taken ms = name_fault path taken ms ∷ channels_fault path ms ∷ []

-- the tests of what a user has and a role has not
abbrev pub further_tests : List ℕ → (List ℕ → Bool) → Members → List (Option Fault)
further_tests path taken ms = names_fault path ms ∷ session_fault path taken ms ∷ []

-- the tests of a user but the last, for members of other names
abbrev pub user_tests : List ℕ → (List ℕ → Bool) → (List ℕ → Bool) → Members → List (Option Fault)
user_tests path taken session_taken ms =
    name_fault path taken ms ∷ channels_fault path ms ∷ names_fault path ms ∷ session_fault path session_taken ms ∷ []

-- the fault of the role at this place
abbrev pub role_fault : ℕ → (List ℕ → Bool) → Data → Option Fault
role_fault place taken d =
    object_fault (item_path (codes "roles") place) why.Value (role_object_fault (item_path (codes "roles") place) taken) d

-- the fault of the user at this place
abbrev pub user_fault : ℕ → (List ℕ → Bool) → (List ℕ → Bool) → Data → Option Fault
user_fault place taken session_taken d =
    object_fault (item_path (codes "users") place) why.Value (user_object_fault (item_path (codes "users") place) taken session_taken) d

abbrev pub text_tests : List ℕ → Members → List (Option Fault)
text_tests path ms = database_fault path ms ∷ bind_fault path ms ∷ []

abbrev pub limit_tests : List ℕ → Members → List (Option Fault)
limit_tests path ms = accepts_fault path ms ∷ conflicts_fault path ms ∷ []

abbrev pub setting_tests : List ℕ → Members → List (Option Fault)
setting_tests path ms = database_fault path ms ∷ bind_fault path ms ∷ accepts_fault path ms ∷ conflicts_fault path ms ∷ []

abbrev pub first_tests : List ℕ → Members → List (Option Fault)
first_tests path ms = database_fault path ms ∷ bind_fault path ms ∷ accepts_fault path ms ∷ conflicts_fault path ms ∷ function_fault path ms ∷ []

abbrev pub roles_test : List ℕ → Members → Option Fault
roles_test path ms = list_fault path (codes "roles") (roles_fault []) (get_member (codes "roles") ms)

abbrev pub users_test : List ℕ → Members → Option Fault
users_test path ms = list_fault path (codes "users") (users_fault []) (get_member (codes "users") ms)

abbrev pub principal_tests : List ℕ → Members → List (Option Fault)
principal_tests path ms = roles_test path ms ∷ users_test path ms ∷ []

-- the tests of a configuration but the last, for members of other names
abbrev pub known_tests : List ℕ → Members → List (Option Fault)
known_tests path ms =
    database_fault path ms ∷ bind_fault path ms ∷ accepts_fault path ms ∷ conflicts_fault path ms ∷ function_fault path ms ∷ roles_test path ms ∷ users_test path ms ∷ []

-- the settings are those of the members
pub record HasSettings (ms : Members) (s : Settings) : Type 0 where
  pub database : s.database ≡ database_of ms
  pub bind : s.bind ≡ bind_of ms
  pub accepts : s.accepts ≡ accepts_of ms
  pub conflicts : s.conflicts ≡ conflicts_of ms
