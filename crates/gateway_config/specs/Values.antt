-- What an accepted configuration says.
use Rattle.std.specs.Prelude.{◌≡◌, ℕ, Bool, true, List, [], ◌∷◌, codes, Option, Some, option_and_then, Ok}
use Rattle.std.specs.Arc.{arc_value}
use Rattle.serde_json.specs.Data.{Data, object, Items, no_items, item, Members}
use Rattle.serde_json.specs.Find.{as_array, as_bool, as_str, get_member}
use Rattle.sg_names.specs.Grammar.{is_channel_name, is_name}
use Rattle.sync_syntax.specs.Statements.{parsed}
use Rattle.gateway_config.specs.declared.config.Config.{Config}
use Rattle.gateway_config.specs.declared.config.ConfigRole.{ConfigRole}
use Rattle.gateway_config.specs.declared.config.ConfigUser.{ConfigUser}
use Rattle.gateway_config.specs.Grammar.{is_database, is_session}
use Rattle.gateway_config.specs.Members.{count_of_value, config_json, members_in, read_or, member_text, member_texts}

-- the sync function where the configuration has none
abbrev pub default_sync : List ℕ
default_sync = codes "function(doc, oldDoc) { channel(doc.channels); }"

abbrev pub name_of : Members → List ℕ
name_of ms = read_or (member_text is_name) [] (get_member (codes "name") ms)

abbrev pub member_channels : Members → List (List ℕ)
member_channels ms = read_or (member_texts is_channel_name) [] (get_member (codes "channels") ms)

abbrev pub names_of : Members → List (List ℕ)
names_of ms = read_or (member_texts is_name) [] (get_member (codes "roles") ms)

abbrev pub session_of : Members → Option (List ℕ)
session_of ms = option_and_then (member_text is_session) (get_member (codes "session") ms)

-- the role that an object is
abbrev pub role_of : Members → ConfigRole
role_of ms = record { name = name_of ms; channels = member_channels ms }

-- the user that an object is
abbrev pub user_of : Members → ConfigUser
user_of ms = record { name = name_of ms; channels = member_channels ms; roles = names_of ms; session = session_of ms }

abbrev pub role_in : Data → ConfigRole
role_in d = role_of (members_in d)

abbrev pub user_in : Data → ConfigUser
user_in d = user_of (members_in d)

-- the roles that items are, in their order
abbrev pub roles_of : Items → List ConfigRole
roles_of no_items = []
roles_of (item d ds) = role_in d ∷ roles_of ds

-- the users that items are, in their order
abbrev pub users_of : Items → List ConfigUser
users_of no_items = []
users_of (item d ds) = user_in d ∷ users_of ds

-- the items of a member that is a list; none where it is absent
abbrev pub member_items : List ℕ → Members → Items
member_items name ms = read_or as_array no_items (get_member name ms)

-- the text of the sync function
abbrev pub sync_of : Members → List ℕ
sync_of ms = read_or as_str default_sync (get_member (codes "sync") ms)

abbrev pub database_of : Members → List ℕ
database_of ms = read_or (member_text is_database) [] (get_member (codes "database") ms)

abbrev pub bind_of : Members → List ℕ
bind_of ms = read_or as_str (codes "127.0.0.1:4984") (get_member (codes "bind") ms)

abbrev pub accepts_of : Members → ℕ
accepts_of ms = read_or count_of_value 4294967295 (get_member (codes "accepts") ms)

abbrev pub conflicts_of : Members → Bool
conflicts_of ms = read_or as_bool true (get_member (codes "conflicts") ms)

-- the configuration says what the members of the object do
pub record Says (ms : Members) (c : Config) : Type 0 where
  pub database : c.database ≡ database_of ms
  pub bind : c.bind ≡ bind_of ms
  pub accepts : c.accepts ≡ accepts_of ms
  pub conflicts : c.conflicts ≡ conflicts_of ms
  pub program : parsed (sync_of ms) ≡ Ok (arc_value c.program)
  pub roles : c.roles ≡ roles_of (member_items (codes "roles") ms)
  pub users : c.users ≡ users_of (member_items (codes "users") ms)

-- a value is an object that says what the configuration does
pub record SaysIn (d : Data) (c : Config) : Type 0 where
  pub members : Members
  pub is_object : d ≡ object members
  pub says : Says members c

-- the bytes are JSON's text of such an object
pub record IsTextOf (bytes : List ℕ) (c : Config) : Type 0 where
  pub members : Members
  pub read : config_json bytes ≡ Some (object members)
  pub says : Says members c
