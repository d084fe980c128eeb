-- only the sync function is refused for its text
use Rattle.std.proofs.Common.{◌≡◌, ◌∙◌, ℕ, List, [], ◌∷◌, ◌++◌, length, refl, sym, ap, subst, Bool, true, false, Option, Some, None}
use Rattle.std.specs.Prelude.{codes, Result, if◌then◌else◌}
use Rattle.std.specs.Option.{option_map_or, option_or}
use Rattle.serde_json.specs.Data.{Data, null, boolean, number, string, array, object, Items, no_items, item, Members, no_members, member}
use Rattle.serde_json.specs.Find.{as_array, as_bool, as_object, as_str, get, get_member}
use Rattle.sg_names.specs.Grammar.{is_channel_name, is_name}
use Rattle.sg_history.specs.History.{among}
use Rattle.sg_history.specs.declared.config_fault.ConfigWhy.{ConfigWhy}
use Rattle.sg_history.specs.declared.config_fault.ConfigWhy.TheVariants as why
use Rattle.sync_syntax.specs.declared.fault.ParseFault.{ParseFault}
use Rattle.sync_syntax.specs.declared.tree.Program.{Program}
use Rattle.sync_syntax.specs.Statements.{parsed}
use Rattle.gateway_config.specs.declared.config.ConfigRole.{ConfigRole}
use Rattle.gateway_config.specs.declared.config.ConfigUser.{ConfigUser}
use Rattle.gateway_config.specs.Faults.{Fault, accepts_fault, at_member, bind_fault, channels_fault, config_fault, config_members, conflicts_fault, database_fault, first_fault, is_role_of, is_session_of, is_sound, is_user_of, item_path, list_fault, members_fault, name_fault, name_why, names_fault, needed_why, object_fault, optional_why, role_members, role_object_fault, roles_fault, session_fault, session_why, function_fault, sync_why, text_why, tree_fault, twice_why, unknown, user_members, user_object_fault, users_fault, value_why}
use Rattle.gateway_config.specs.Grammar.{is_database, is_session}
use Rattle.gateway_config.specs.Members.{count_of_value, config_json, read_or, member_text, member_texts}
use Rattle.gateway_config.specs.Values.{default_sync, role_in, sync_of, user_in}
use Rattle.config_check.specs.Verdict.{function_text}

-- whether something is bad for the text of the function
abbrev is_text : ConfigWhy → Bool
is_text why.Sync = true
is_text why.NotJson = false
is_text why.NotObject = false
is_text why.Missing = false
is_text why.Unknown = false
is_text why.Value = false
is_text why.Twice = false

abbrev why_is_text : Option ConfigWhy → Bool
why_is_text None = false
why_is_text (Some why) = is_text why

abbrev fault_is_text : Option Fault → Bool
fault_is_text None = false
fault_is_text (Some fault) = is_text fault.why

not_both : false ≡ true → ⊥
not_both e = cc e

-- ---- tests one after another

why_or : (a b : Option ConfigWhy) → why_is_text a ≡ false → why_is_text b ≡ false → why_is_text (option_or a b) ≡ false
why_or None b h k = k
why_or (Some w) b h k = h

fault_or : (f g : Option Fault) → fault_is_text f ≡ false → fault_is_text g ≡ false → fault_is_text (option_or f g) ≡ false
fault_or None g h k = k
fault_or (Some x) g h k = h

-- where the first of two tests isn't at fault so, the second is
later : (f g : Option Fault) → fault_is_text f ≡ false → fault_is_text (option_or f g) ≡ true → fault_is_text g ≡ true
later None g h is = is
later (Some x) g h is = absurd (cc (h, is))

sooner : (f g : Option Fault) → fault_is_text g ≡ false → fault_is_text (option_or f g) ≡ true → fault_is_text f ≡ true
sooner None g h is = absurd (cc (h, is))
sooner (Some x) g h is = is

later_why : (a b : Option ConfigWhy) → why_is_text a ≡ false → why_is_text (option_or a b) ≡ true → why_is_text b ≡ true
later_why None b h is = is
later_why (Some w) b h is = absurd (cc (h, is))

-- ---- members

value_other : {A : Type 0} (o : Option A) → why_is_text (value_why o) ≡ false
value_other None = refl
value_other (Some a) = refl

needed_other : {A : Type 0} (reading : Data → Option A) (d : Option Data) → why_is_text (needed_why reading d) ≡ false
needed_other reading None = refl
needed_other reading (Some d) = value_other (reading d)

optional_other : {A : Type 0} (reading : Data → Option A) (d : Option Data) → why_is_text (optional_why reading d) ≡ false
optional_other reading None = refl
optional_other reading (Some d) = value_other (reading d)

twice_other : (b : Bool) → why_is_text (twice_why b) ≡ false
twice_other true = refl
twice_other false = refl

at_same : (path name : List ℕ) (w : Option ConfigWhy) → fault_is_text (at_member path name w) ≡ why_is_text w
at_same path name None = refl
at_same path name (Some w) = refl

at_other : (path name : List ℕ) (w : Option ConfigWhy) → why_is_text w ≡ false → fault_is_text (at_member path name w) ≡ false
at_other path name w h = at_same path name w ∙ h

known_or : (b : Bool) (f g : Option Fault) → fault_is_text f ≡ false → fault_is_text g ≡ false → fault_is_text (if b then f else g) ≡ false
known_or true f g h k = h
known_or false f g h k = k

unknown_other : (path : List ℕ) (known : List (List ℕ)) (ms : Members) → fault_is_text (unknown path known ms) ≡ false
unknown_other path known no_members = refl
unknown_other path known (member name d ms) =
    known_or (among known name) (unknown path known ms) (at_member path name (Some why.Unknown)) (unknown_other path known ms) refl

-- ---- roles and users

name_other : (path : List ℕ) (taken : List ℕ → Bool) (ms : Members) → fault_is_text (name_fault path taken ms) ≡ false
name_other path taken ms =
    at_other path (codes "name") _ (why_or _ _ (needed_other (member_text is_name) (get_member (codes "name") ms)) (twice_other _))

channels_other : (path : List ℕ) (ms : Members) → fault_is_text (channels_fault path ms) ≡ false
channels_other path ms = at_other path (codes "channels") _ (optional_other (member_texts is_channel_name) (get_member (codes "channels") ms))

names_other : (path : List ℕ) (ms : Members) → fault_is_text (names_fault path ms) ≡ false
names_other path ms = at_other path (codes "roles") _ (optional_other (member_texts is_name) (get_member (codes "roles") ms))

session_other : (path : List ℕ) (taken : List ℕ → Bool) (ms : Members) → fault_is_text (session_fault path taken ms) ≡ false
session_other path taken ms =
    at_other path (codes "session") _ (why_or _ _ (optional_other (member_text is_session) (get_member (codes "session") ms)) (twice_other _))

role_other : (path : List ℕ) (taken : List ℕ → Bool) (ms : Members) → fault_is_text (role_object_fault path taken ms) ≡ false
role_other path taken ms =
    fault_or (name_fault path taken ms) _ (name_other path taken ms)
    (fault_or (channels_fault path ms) _ (channels_other path ms)
    (fault_or (unknown path role_members ms) None (unknown_other path role_members ms) refl))

user_other : (path : List ℕ) (taken session_taken : List ℕ → Bool) (ms : Members) → fault_is_text (user_object_fault path taken session_taken ms) ≡ false
user_other path taken session_taken ms =
    fault_or (name_fault path taken ms) _ (name_other path taken ms)
    (fault_or (channels_fault path ms) _ (channels_other path ms)
    (fault_or (names_fault path ms) _ (names_other path ms)
    (fault_or (session_fault path session_taken ms) _ (session_other path session_taken ms)
    (fault_or (unknown path user_members ms) None (unknown_other path user_members ms) refl))))

map_other : {A : Type 0} (fault : A → Option Fault) (o : Option A) (otherwise : Option Fault) → ((a : A) → fault_is_text (fault a) ≡ false)
    → fault_is_text otherwise ≡ false → fault_is_text (option_map_or fault o otherwise) ≡ false
map_other fault None otherwise h k = k
map_other fault (Some a) otherwise h k = h a

roles_other : (earlier : List ConfigRole) (ds : Items) → fault_is_text (roles_fault earlier ds) ≡ false
roles_other earlier no_items = refl
roles_other earlier (item d ds) =
    let path : List ℕ = item_path (codes "roles") (length earlier) in
    fault_or _ (roles_fault (earlier ++ role_in d ∷ []) ds)
    (map_other (role_object_fault path (is_role_of earlier)) (as_object d) (Some (record { path = path; why = why.Value })) (role_other path (is_role_of earlier)) refl)
    (roles_other (earlier ++ role_in d ∷ []) ds)

users_other : (earlier : List ConfigUser) (ds : Items) → fault_is_text (users_fault earlier ds) ≡ false
users_other earlier no_items = refl
users_other earlier (item d ds) =
    let path : List ℕ = item_path (codes "users") (length earlier) in
    fault_or _ (users_fault (earlier ++ user_in d ∷ []) ds)
    (map_other (user_object_fault path (is_user_of earlier) (is_session_of earlier)) (as_object d) (Some (record { path = path; why = why.Value }))
    (user_other path (is_user_of earlier) (is_session_of earlier)) refl)
    (users_other (earlier ++ user_in d ∷ []) ds)

list_other : (path name : List ℕ) (fault : Items → Option Fault) (d : Option Data) → ((ds : Items) → fault_is_text (fault ds) ≡ false) → fault_is_text (list_fault path name fault d) ≡ false
list_other path name fault None h = refl
list_other path name fault (Some d) h = map_other fault (as_array d) (at_member path name (Some why.Value)) h refl

-- ---- the whole

rest_other : (ms : Members)
    → fault_is_text (option_or (list_fault [] (codes "roles") (roles_fault []) (get_member (codes "roles") ms))
    (option_or (list_fault [] (codes "users") (users_fault []) (get_member (codes "users") ms)) (option_or (unknown [] config_members ms) None)))
    ≡ false
rest_other ms =
    fault_or (list_fault [] (codes "roles") (roles_fault []) (get_member (codes "roles") ms)) _ (list_other [] (codes "roles") (roles_fault []) (get_member (codes "roles") ms) (roles_other []))
    (fault_or (list_fault [] (codes "users") (users_fault []) (get_member (codes "users") ms)) _ (list_other [] (codes "users") (users_fault []) (get_member (codes "users") ms) (users_other []))
    (fault_or (unknown [] config_members ms) None (unknown_other [] config_members ms) refl))

sync_is_text : (ms : Members) → fault_is_text (members_fault [] ms) ≡ true → fault_is_text (function_fault [] ms) ≡ true
sync_is_text ms is =
    sooner (function_fault [] ms) _ (rest_other ms)
    (later (conflicts_fault [] ms) _ (at_other [] (codes "conflicts") _ (optional_other as_bool (get_member (codes "conflicts") ms)))
    (later (accepts_fault [] ms) _ (at_other [] (codes "accepts") _ (optional_other count_of_value (get_member (codes "accepts") ms)))
    (later (bind_fault [] ms) _ (at_other [] (codes "bind") _ (optional_other as_str (get_member (codes "bind") ms)))
    (later (database_fault [] ms) _ (at_other [] (codes "database") _ (needed_other (member_text is_database) (get_member (codes "database") ms))) is))))

sound_or : (b : Bool) → why_is_text (if b then None else Some why.Sync) ≡ true → b ≡ false
sound_or true is = absurd (not_both is)
sound_or false is = refl

unsound_member : (d : Option Data) → why_is_text (sync_why d) ≡ true → is_sound (parsed (read_or as_str default_sync d)) ≡ false
unsound_member d is =
    sound_or (is_sound (parsed (read_or as_str default_sync d))) (later_why (optional_why as_str d) (text_why (read_or as_str default_sync d)) (optional_other as_str d) is)

unsound_in : (ms : Members) → fault_is_text (members_fault [] ms) ≡ true → is_sound (parsed (sync_of ms)) ≡ false
unsound_in ms is =
    unsound_member (get_member (codes "sync") ms) (sym (at_same [] (codes "sync") (sync_why (get_member (codes "sync") ms))) ∙ sync_is_text ms is)

unsound_value : (d : Data) → fault_is_text (tree_fault (Some d)) ≡ true → is_sound (parsed (function_text d)) ≡ false
unsound_value null is = absurd (not_both is)
unsound_value (boolean b) is = absurd (not_both is)
unsound_value (number n) is = absurd (not_both is)
unsound_value (string s) is = absurd (not_both is)
unsound_value (array ds) is = absurd (not_both is)
unsound_value (object ms) is = unsound_in ms is

unsound_read : (o : Option Data) → fault_is_text (tree_fault o) ≡ true → (d : Data) × (o ≡ Some d) × (is_sound (parsed (function_text d)) ≡ false)
unsound_read None is = absurd (not_both is)
unsound_read (Some d) is = (d, refl, unsound_value d is)

-- where the function's text is what is bad, the bytes are JSON, and the text is no program whose names all stand for something
pub unsound : (bytes path : List ℕ) → config_fault bytes ≡ Some (record { path = path; why = why.Sync })
    → (d : Data) × (config_json bytes ≡ Some d) × (is_sound (parsed (function_text d)) ≡ false)
unsound bytes path e = unsound_read (config_json bytes) (ap (λ (f : Option Fault). fault_is_text f) e)
