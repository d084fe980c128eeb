-- What is wrong with a configuration: its first bad member, and why it is bad.
use Rattle.std.specs.Prelude.{◌≡◌, ℕ, Bool, true, false, List, [], ◌∷◌, ◌++◌, length, codes, decimal, Option, Some, None, option_and_then, Result, Ok, Err, if◌then◌else◌}
use Rattle.std.specs.List.{list_any}
use Rattle.std.specs.Option.{option_map_or, option_or}
use Rattle.std.specs.Str.{bytes_eq}
use Rattle.serde_json.specs.Data.{Data, Items, no_items, item, Members, no_members, member}
use Rattle.serde_json.specs.Find.{as_array, as_bool, as_object, as_str, get_member}
use Rattle.sg_names.specs.Grammar.{is_channel_name, is_name}
use Rattle.sg_history.specs.History.{among}
use Rattle.sg_history.specs.declared.config_fault.ConfigWhy.{ConfigWhy}
use Rattle.sg_history.specs.declared.config_fault.ConfigWhy.TheVariants as why
use Rattle.sync_syntax.specs.declared.fault.ParseFault.{ParseFault}
use Rattle.sync_syntax.specs.declared.tree.Program.{Program}
use Rattle.sync_syntax.specs.Statements.{parsed}
use Rattle.sync_resolve.specs.declared.fault.ResolveFault.{ResolveFault}
use Rattle.sync_resolve.specs.Resolving.{faults}
use Rattle.gateway_config.specs.declared.config.ConfigRole.{ConfigRole}
use Rattle.gateway_config.specs.declared.config.ConfigUser.{ConfigUser}
use Rattle.gateway_config.specs.declared.fault.ConfigFault.{ConfigFault}
use Rattle.gateway_config.specs.declared.fault.ConfigFault.TheVariants.{Bad, Memory}
use Rattle.gateway_config.specs.Grammar.{is_database, is_session}
use Rattle.gateway_config.specs.Members.{count_of_value, config_json, read_or, member_text, member_texts}
use Rattle.gateway_config.specs.Values.{default_sync, role_in, user_in}

-- a bad member: the way to it, and why it is bad
pub record Fault : Type 0 where
  pub path : List ℕ
  pub why : ConfigWhy

-- a refusal, but for memory that ran out, names this fault
abbrev pub NamesFault : Option Fault → ConfigFault → Type 0
NamesFault found (Bad path why) = found ≡ Some (record { path = path; why = why })
NamesFault found Memory = Unit {0}

-- the result of a reader that finds this fault: where it finds none, a value of which something holds; else the fault
abbrev pub IsResultOf : {A : Type 0} → Option Fault → (A → Type 0) → Result A ConfigFault → Type 0
IsResultOf found says (Ok a) = (found ≡ None) × says a
IsResultOf found says (Err e) = NamesFault found e

-- of tests in their order the first that finds a fault
abbrev pub first_fault : List (Option Fault) → Option Fault
first_fault [] = None
first_fault (found ∷ others) = option_or found (first_fault others)

-- a value that is read as nothing is of another kind, or outside its grammar
abbrev pub value_why : {A : Type 0} → Option A → Option ConfigWhy
value_why None = Some why.Value
value_why (Some a) = None

-- what is wrong with a member that has to be there
abbrev pub needed_why : {A : Type 0} → (Data → Option A) → Option Data → Option ConfigWhy
needed_why reading None = Some why.Missing
needed_why reading (Some d) = value_why (reading d)

-- what is wrong with a member that may be absent
abbrev pub optional_why : {A : Type 0} → (Data → Option A) → Option Data → Option ConfigWhy
optional_why reading None = None
optional_why reading (Some d) = value_why (reading d)

-- what is wrong with a name or session that is to be an object's own
abbrev pub twice_why : Bool → Option ConfigWhy
twice_why is_taken = if is_taken then Some why.Twice else None

-- the way to a member of the object at this path: its name as it stands, after a `/`
abbrev pub member_path : List ℕ → List ℕ → List ℕ
member_path path name = path ++ 47 ∷ name

-- the fault of the member of this name
abbrev pub at_member : List ℕ → List ℕ → Option ConfigWhy → Option Fault
at_member path name None = None
at_member path name (Some why) = Some (record { path = member_path path name; why = why })

-- the first member that has none of these names, in the order of the names' bytes, in which JSON's objects are read
abbrev pub unknown : List ℕ → List (List ℕ) → Members → Option Fault
unknown path known no_members = None
unknown path known (member name d ms) = if among known name then unknown path known ms else at_member path name (Some why.Unknown)

-- ---- roles and users

-- what is wrong with a name, by which names are taken
abbrev pub name_why : (List ℕ → Bool) → Option Data → Option ConfigWhy
name_why taken d = option_or (needed_why (member_text is_name) d) (twice_why (taken (read_or (member_text is_name) [] d)))

-- what is wrong with a session, by which sessions are taken
abbrev pub session_why : (List ℕ → Bool) → Option Data → Option ConfigWhy
session_why taken d =
    option_or (optional_why (member_text is_session) d) (twice_why (option_map_or taken (option_and_then (member_text is_session) d) false))

abbrev pub role_members : List (List ℕ)
role_members = codes "name" ∷ codes "channels" ∷ []

abbrev pub user_members : List (List ℕ)
user_members = codes "name" ∷ codes "channels" ∷ codes "roles" ∷ codes "session" ∷ []

abbrev pub name_fault : List ℕ → (List ℕ → Bool) → Members → Option Fault
name_fault path taken ms = at_member path (codes "name") (name_why taken (get_member (codes "name") ms))

abbrev pub channels_fault : List ℕ → Members → Option Fault
channels_fault path ms = at_member path (codes "channels") (optional_why (member_texts is_channel_name) (get_member (codes "channels") ms))

abbrev pub names_fault : List ℕ → Members → Option Fault
names_fault path ms = at_member path (codes "roles") (optional_why (member_texts is_name) (get_member (codes "roles") ms))

abbrev pub session_fault : List ℕ → (List ℕ → Bool) → Members → Option Fault
session_fault path taken ms = at_member path (codes "session") (session_why taken (get_member (codes "session") ms))

-- what is wrong with the members of a role
abbrev pub role_object_fault : List ℕ → (List ℕ → Bool) → Members → Option Fault
role_object_fault path taken ms = first_fault (
    name_fault path taken ms
    ∷ channels_fault path ms
    ∷ unknown path role_members ms
    ∷ [])

-- what is wrong with the members of a user
abbrev pub user_object_fault : List ℕ → (List ℕ → Bool) → (List ℕ → Bool) → Members → Option Fault
user_object_fault path taken session_taken ms = first_fault (
    name_fault path taken ms
    ∷ channels_fault path ms
    ∷ names_fault path ms
    ∷ session_fault path session_taken ms
    ∷ unknown path user_members ms
    ∷ [])

-- the fault of a value that is to be an object, by that of its members
abbrev pub object_fault : List ℕ → ConfigWhy → (Members → Option Fault) → Data → Option Fault
object_fault path otherwise fault d = option_map_or fault (as_object d) (Some (record { path = path; why = otherwise }))

-- the way to an item of a list of the configuration, by its place from 0
abbrev pub item_path : List ℕ → ℕ → List ℕ
item_path list place = member_path (member_path [] list) (decimal place)

-- whether one of these roles has the name
abbrev pub is_role_of : List ConfigRole → List ℕ → Bool
is_role_of roles name = list_any (λ r. bytes_eq r.name name) roles

-- whether one of these users has the name
abbrev pub is_user_of : List ConfigUser → List ℕ → Bool
is_user_of users name = list_any (λ u. bytes_eq u.name name) users

-- whether there is a session, and it is this text
abbrev pub is_session_text : Option (List ℕ) → List ℕ → Bool
is_session_text None text = false
is_session_text (Some session) text = bytes_eq session text

-- whether a user has the session
abbrev pub has_session : ConfigUser → List ℕ → Bool
has_session u session = is_session_text u.session session

-- whether one of these users has the session
abbrev pub is_session_of : List ConfigUser → List ℕ → Bool
is_session_of users session = list_any (λ u. has_session u session) users

-- what is wrong with the items of `roles` that come after these roles
abbrev pub roles_fault : List ConfigRole → Items → Option Fault
roles_fault earlier no_items = None
roles_fault earlier (item d ds) =
    option_or (object_fault (item_path (codes "roles") (length earlier)) why.Value
    (role_object_fault (item_path (codes "roles") (length earlier)) (is_role_of earlier)) d)
    (roles_fault (earlier ++ role_in d ∷ []) ds)

-- what is wrong with the items of `users` that come after these users
abbrev pub users_fault : List ConfigUser → Items → Option Fault
users_fault earlier no_items = None
users_fault earlier (item d ds) =
    option_or (object_fault (item_path (codes "users") (length earlier)) why.Value
    (user_object_fault (item_path (codes "users") (length earlier)) (is_user_of earlier) (is_session_of earlier)) d)
    (users_fault (earlier ++ user_in d ∷ []) ds)

-- what is wrong with a member that is to be a list, by what is wrong with its items
abbrev pub list_fault : List ℕ → List ℕ → (Items → Option Fault) → Option Data → Option Fault
list_fault path name fault None = None
list_fault path name fault (Some d) = option_map_or fault (as_array d) (at_member path name (Some why.Value))

-- ---- the sync function

abbrev pub no_faults : List ResolveFault → Bool
no_faults [] = true
no_faults (e ∷ es) = false

-- whether a text was read as a program whose names all stand for something
abbrev pub is_sound : Result Program ParseFault → Bool
is_sound (Ok p) = no_faults (faults p)
is_sound (Err e) = false

-- what is wrong with the text of a sync function
abbrev pub text_why : List ℕ → Option ConfigWhy
text_why text = if is_sound (parsed text) then None else Some why.Sync

-- what is wrong with the sync function; where there is none, the default text stands for it
abbrev pub sync_why : Option Data → Option ConfigWhy
sync_why d = option_or (optional_why as_str d) (text_why (read_or as_str default_sync d))

-- ---- the whole

abbrev pub config_members : List (List ℕ)
config_members =
    codes "database" ∷ codes "bind" ∷ codes "accepts" ∷ codes "conflicts" ∷ codes "sync" ∷ codes "roles" ∷ codes "users" ∷ []

abbrev pub database_fault : List ℕ → Members → Option Fault
database_fault path ms = at_member path (codes "database") (needed_why (member_text is_database) (get_member (codes "database") ms))

abbrev pub bind_fault : List ℕ → Members → Option Fault
bind_fault path ms = at_member path (codes "bind") (optional_why as_str (get_member (codes "bind") ms))

abbrev pub accepts_fault : List ℕ → Members → Option Fault
accepts_fault path ms = at_member path (codes "accepts") (optional_why count_of_value (get_member (codes "accepts") ms))

abbrev pub conflicts_fault : List ℕ → Members → Option Fault
conflicts_fault path ms = at_member path (codes "conflicts") (optional_why as_bool (get_member (codes "conflicts") ms))

abbrev pub function_fault : List ℕ → Members → Option Fault
function_fault path ms = at_member path (codes "sync") (sync_why (get_member (codes "sync") ms))

-- the first fault of the members of the whole, whose path is empty
abbrev pub members_fault : List ℕ → Members → Option Fault
members_fault path ms = first_fault (
    database_fault path ms
    ∷ bind_fault path ms
    ∷ accepts_fault path ms
    ∷ conflicts_fault path ms
    ∷ function_fault path ms
    ∷ list_fault path (codes "roles") (roles_fault []) (get_member (codes "roles") ms)
    ∷ list_fault path (codes "users") (users_fault []) (get_member (codes "users") ms)
    ∷ unknown path config_members ms
    ∷ [])

-- the first fault of what bytes are read as
abbrev pub tree_fault : Option Data → Option Fault
tree_fault None = Some (record { path = []; why = why.NotJson })
tree_fault (Some d) = object_fault [] why.NotObject (members_fault []) d

-- the first fault of a configuration; none where it is accepted
abbrev pub config_fault : List ℕ → Option Fault
config_fault bytes = tree_fault (config_json bytes)
