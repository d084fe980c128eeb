-- The functions that are built in: what they take, which effects they have, and whom they let pass.
use Rattle.std.specs.Prelude.{ℕ, ◌+◌, nat_lt, nat_eq, Bool, true, false, ◌||◌, if◌then◌else◌, codes, List, [], ◌∷◌, ◌++◌, length, Option, Some, None, unwrap_or, Ok, Err}
use Rattle.std.specs.List.{list_any}
use Rattle.std.specs.Ordering.{nat_cmp, match_ordering}
use Rattle.std.specs.Cmp.Lexicographic.{slice_cmp}
use Rattle.std.specs.Str.{bytes_eq}
use Rattle.std.specs.declared.cmp.Ordering.{Ordering}
use Rattle.sg_names.specs.Grammar.{is_name, is_channel_name}
use Rattle.sg_names.specs.Grants.{is_grantee, grant_cmp}
use Rattle.sg_names.specs.RoleGrants.{role_grant_cmp}
use Rattle.sg_names.specs.declared.grants.Grantee.{Grantee}
use Rattle.sg_names.specs.declared.grants.Grantee.TheVariants as grantee
use Rattle.sync_tokens.specs.declared.place.Place.{Place}
use Rattle.sync_values.specs.declared.callee.Builtin.{Builtin}
use Rattle.sync_values.specs.declared.callee.Builtin.TheVariants as b
use Rattle.sync_values.specs.declared.fault.FaultKind.TheVariants.{Argument, BadName, Size}
use Rattle.sync_values.specs.declared.fault.RuleKind.{RuleKind}
use Rattle.sync_values.specs.declared.fault.RuleKind.TheVariants as rules
use Rattle.sync_values.specs.declared.value.Value.{Value, out-Value}
use Rattle.sync_values.specs.declared.value.Value.TheOpen.{Value-F}
use Rattle.sync_values.specs.declared.value.Value.TheVariants as v
use Rattle.sync_values.specs.Found.{Found, denial, fails, type_fault}
use Rattle.sync_values.specs.Values.{Layer, found_then, is_list}
use Rattle.sync_meaning.specs.declared.state.Context.{Context}
use Rattle.sync_meaning.specs.declared.effects.Effects.{Effects}
use Rattle.sync_meaning.specs.declared.state.State.{State}
use Rattle.sync_meaning.specs.Acts.{Act, pure, lift}

-- ---- arguments

-- the text that a value is, seen from outside
abbrev pub text_at : Layer → Option (List ℕ)
text_at (Value-F.Text s) = Some s
text_at _ = None

-- the text that a value is
unfoldable pub text_in : Value → Option (List ℕ)
text_in x = text_at (out-Value x)

-- what is made of a text, if there is one
abbrev pub with_text : Option (List ℕ) → (List ℕ → Option (List (List ℕ))) → Option (List (List ℕ))
with_text (Some s) f = f s
with_text None f = None

-- the texts that items are, if all are texts, behind those found
abbrev pub texts_from : List (List ℕ) → List Value → Option (List (List ℕ))
texts_from found [] = Some found
texts_from found (x ∷ xs) = with_text (text_in x) (λ s. texts_from (found ++ s ∷ []) xs)

-- the texts that items are, if all are texts
abbrev pub item_texts : List Value → Option (List (List ℕ))
item_texts xs = texts_from [] xs

-- the texts of an argument that is seen from outside
abbrev pub argument_at : Layer → Option (List (List ℕ))
argument_at Value-F.Undefined = Some []
argument_at Value-F.Null = Some []
argument_at (Value-F.Text s) = Some (s ∷ [])
argument_at (Value-F.List xs) = item_texts xs
argument_at _ = None

-- the texts, or where there are none an argument fault
abbrev pub texts_or : Place → Option (List (List ℕ)) → Found (List (List ℕ))
texts_or p (Some ts) = Ok ts
texts_or p None = fails Argument p

-- the texts of an argument: one text, a list of texts, or for null and undefined none
unfoldable pub texts_in : Place → Value → Found (List (List ℕ))
texts_in p x = texts_or p (argument_at (out-Value x))

-- a text as what it names, if that is in its grammar
abbrev pub one : {A : Type 0} → Place → (List ℕ → A) → (A → Bool) → List ℕ → Found A
one p f is t = if is (f t) then Ok (f t) else fails BadName p

-- the same of texts, behind those found
abbrev pub named_from : {A : Type 0} → Place → (List ℕ → A) → (A → Bool) → List A → List (List ℕ) → Found (List A)
named_from p f is found [] = Ok found
named_from p f is found (t ∷ ts) = found_then (one p f is t) (λ a. named_from p f is (found ++ a ∷ []) ts)

-- texts as what they name, if each is in its grammar
abbrev pub named : {A : Type 0} → Place → (List ℕ → A) → (A → Bool) → List (List ℕ) → Found (List A)
named p f is ts = named_from p f is [] ts

-- what an argument names
abbrev pub names_in : {A : Type 0} → Place → (List ℕ → A) → (A → Bool) → Value → Found (List A)
names_in p f is x = found_then (texts_in p x) (named p f is)

-- a text as it stands
abbrev pub itself : List ℕ → List ℕ
itself t = t

-- what stands behind a beginning of a text, where it begins so
abbrev pub stripped : List ℕ → List ℕ → Option (List ℕ)
stripped [] t = Some t
stripped (b ∷ bs) [] = None
stripped (b ∷ bs) (c ∷ cs) = if nat_eq b c then stripped bs cs else None

-- what stands behind `role:`
unfoldable pub role_behind : List ℕ → Option (List ℕ)
role_behind t = stripped (codes "role:") t

-- a role, which may be written with `role:` before it
abbrev pub bare_role : List ℕ → List ℕ
bare_role t = unwrap_or (role_behind t) t

-- a user, or where there is one this role
abbrev pub grantee_by : List ℕ → Option (List ℕ) → Grantee
grantee_by t (Some role) = grantee.Role role
grantee_by t None = grantee.User t

-- a user, or a role, which is written with `role:` before it
abbrev pub grantee_of : List ℕ → Grantee
grantee_of t = grantee_by t (role_behind t)

-- the users of an argument
unfoldable pub users_in : Place → Value → Found (List (List ℕ))
users_in p x = names_in p itself is_name x

-- the roles of an argument
unfoldable pub roles_in : Place → Value → Found (List (List ℕ))
roles_in p x = names_in p bare_role is_name x

-- the channels of an argument
unfoldable pub channels_in : Place → Value → Found (List (List ℕ))
channels_in p x = names_in p itself is_channel_name x

-- the users and roles of an argument
unfoldable pub grantees_in : Place → Value → Found (List Grantee)
grantees_in p x = names_in p grantee_of is_grantee x

-- ---- effects. They are kept in order, each once.

-- an item put at its place, where it isn't there yet
abbrev pub put : {X : Type 0} → (X → X → Ordering) → X → List X → List X
put order x [] = x ∷ []
put order x (y ∷ ys) = match_ordering (order x y) (x ∷ y ∷ ys) (y ∷ ys) (y ∷ put order x ys)

-- how many effects there are
abbrev pub effect_count : Effects → ℕ
effect_count e = length e.channels + length e.grants + length e.roles

-- there are at most 1,000
unfoldable pub within_limits : Place → Effects → Found Effects
within_limits p e = if nat_lt 1000 (effect_count e) then fails Size p else Ok e

-- one channel more
unfoldable pub add_channel : Place → List ℕ → Effects → Found Effects
add_channel p c e = within_limits p (record e { channels = put (slice_cmp nat_cmp) c e.channels })

-- a channel for a user or role more
unfoldable pub add_grant : Place → Grantee → List ℕ → Effects → Found Effects
add_grant p to c e = within_limits p (record e { grants = put grant_cmp (record { to = to; channel = c }) e.grants })

-- a role for a user more
unfoldable pub add_role : Place → List ℕ → List ℕ → Effects → Found Effects
add_role p user role e = within_limits p (record e { roles = put role_grant_cmp (record { user = user; role = role }) e.roles })

-- one after the other
abbrev pub for_each : {X : Type 0} → (X → Effects → Found Effects) → List X → Effects → Found Effects
for_each f [] e = Ok e
for_each f (x ∷ xs) e = found_then (f x e) (for_each f xs)

-- these channels more
unfoldable pub add_channels : Place → List (List ℕ) → Effects → Found Effects
add_channels p cs e = for_each (add_channel p) cs e

-- each of these channels to one user or role
unfoldable pub add_grants_to : Place → List (List ℕ) → Grantee → Effects → Found Effects
add_grants_to p cs to e = for_each (add_grant p to) cs e

-- each channel to each
unfoldable pub add_grants : Place → List Grantee → List (List ℕ) → Effects → Found Effects
add_grants p tos cs e = for_each (add_grants_to p cs) tos e

-- each of these roles to one user
unfoldable pub add_roles_to : Place → List (List ℕ) → List ℕ → Effects → Found Effects
add_roles_to p roles user e = for_each (add_role p user) roles e

-- each role to each
unfoldable pub add_roles : Place → List (List ℕ) → List (List ℕ) → Effects → Found Effects
add_roles p users roles e = for_each (add_roles_to p roles) users e

-- ---- who passes

-- whether a name is one of these
abbrev pub is_one_of : List (List ℕ) → List ℕ → Bool
is_one_of all name = list_any (bytes_eq name) all

-- whether one of these is one of those
abbrev pub share_one : List (List ℕ) → List (List ℕ) → Bool
share_one names all = list_any (is_one_of all) names

-- whether the user is one of these; where there is none it is the administrator, who passes
abbrev pub is_user : Option (List ℕ) → List (List ℕ) → Bool
is_user None names = true
is_user (Some user) names = is_one_of names user

-- the administrator passes, and a user where this is so
abbrev pub or_administrator : Option (List ℕ) → Bool → Bool
or_administrator None passes = true
or_administrator (Some user) passes = passes

-- the user is one of these; the administrator passes
unfoldable pub passes_user : Context → List (List ℕ) → Bool
passes_user c names = is_user c.user names

-- the user has one of these roles; the administrator passes
unfoldable pub passes_role : Context → List (List ℕ) → Bool
passes_role c roles = or_administrator c.user (share_one roles c.roles)

-- the user has one of these channels, or all by the channel `*`; the administrator passes
unfoldable pub passes_access : Context → List (List ℕ) → Bool
passes_access c channels = or_administrator c.user (is_one_of c.channels (codes "*") || share_one channels c.channels)

-- the administrator alone passes
unfoldable pub passes_admin : Context → Bool
passes_admin c = or_administrator c.user false

-- goes on where the rule lets pass, and else denies by it
abbrev pub unless_passing : Bool → RuleKind → Place → State → Found (Value × State)
unless_passing passes kind p s = if passes then Ok (v.Undefined, s) else Err (denial kind p)

-- ---- calls

-- a state with these effects
abbrev pub with_effects : State → Effects → Found (Value × State)
with_effects s e = Ok (v.Undefined, record s { effects = e })

-- the channels of arguments from left to right, behind those found
abbrev pub all_channels : Place → List (List ℕ) → List Value → Found (List (List ℕ))
all_channels p found [] = Ok found
all_channels p found (x ∷ xs) = found_then (channels_in p x) (λ cs. all_channels p (found ++ cs) xs)

-- `channel(..)`: puts the document into channels
unfoldable pub channel : Place → List Value → Act Value
channel p xs = λ s. found_then (all_channels p [] xs) (λ cs. found_then (add_channels p cs s.effects) (with_effects s))

-- `access(users, channels)`: grants each channel to each
unfoldable pub access : Place → Value → Value → Act Value
access p x y = λ s. found_then (grantees_in p x) (λ tos. found_then (channels_in p y) (λ cs. found_then (add_grants p tos cs s.effects) (with_effects s)))

-- `role(users, roles)`: gives each role to each
unfoldable pub role : Place → Value → Value → Act Value
role p x y = λ s. found_then (users_in p x) (λ users. found_then (roles_in p y) (λ roles. found_then (add_roles p users roles s.effects) (with_effects s)))

-- `requireUser(users)`: the user is one of these
unfoldable pub require_user : Place → Value → Act Value
require_user p x = λ s. found_then (users_in p x) (λ names. unless_passing (passes_user s.context names) rules.User p s)

-- `requireRole(roles)`: the user has one of these roles
unfoldable pub require_role : Place → Value → Act Value
require_role p x = λ s. found_then (roles_in p x) (λ roles. unless_passing (passes_role s.context roles) rules.Role p s)

-- `requireAccess(channels)`: the user has one of these channels, or `*`
unfoldable pub require_access : Place → Value → Act Value
require_access p x = λ s. found_then (channels_in p x) (λ cs. unless_passing (passes_access s.context cs) rules.Access p s)

-- `requireAdmin()`: there is no user but the administrator
unfoldable pub require_admin : Place → Act Value
require_admin p = λ s. unless_passing (passes_admin s.context) rules.Admin p s

-- A call with another count of arguments is refused where names are resolved; here it is a fault.
abbrev pub built_in : Place → Builtin → List Value → Act Value
built_in p b.Channel (x ∷ xs) = channel p (x ∷ xs)
built_in p b.Access (x ∷ y ∷ []) = access p x y
built_in p b.Role (x ∷ y ∷ []) = role p x y
built_in p b.RequireUser (x ∷ []) = require_user p x
built_in p b.RequireRole (x ∷ []) = require_role p x
built_in p b.RequireAccess (x ∷ []) = require_access p x
built_in p b.RequireAdmin [] = require_admin p
built_in p b.IsArray (x ∷ []) = pure (v.Bool (is_list x))
built_in p _ _ = lift (type_fault p)
