-- The names of an argument as they are kept: in order, each once. Only contracts of private functions speak of it.
use Rattle.std.specs.Prelude.{◌≡◌, ◌≢◌, ℕ, Bool, true, List, map, Vec, Ok, Err}
use Rattle.std.specs.Borrow.{Bor}
use Rattle.std.specs.Global.{Global}
use Rattle.std.specs.Cmp.Lexicographic.{slice_cmp}
use Rattle.std.specs.Ordering.{nat_cmp}
use Rattle.sg_names.specs.Grammar.{is_name, is_channel_name}
use Rattle.sg_names.specs.Grants.{is_grantee}
use Rattle.sg_names.specs.ItemList.{rises}
use Rattle.sg_names.specs.declared.grants.Grant.{Grant}
use Rattle.sg_names.specs.declared.role_grants.RoleGrant.{RoleGrant}
use Rattle.sync_tokens.specs.declared.place.Place.{Place}
use Rattle.sync_values.specs.declared.fault.Stop.TheVariants.{Memory}
use Rattle.sync_values.specs.Found.{Found}
use Rattle.sync_values.specs.Values.{found_then}
use Rattle.sync_meaning.specs.declared.arguments.Kind.{Kind}
use Rattle.sync_meaning.specs.declared.arguments.Kind.TheVariants as kind
use Rattle.sync_meaning.specs.declared.effects.Effects.{Effects}
use Rattle.sync_meaning.specs.Builtins.{itself, bare_role, grantee_of, is_one_of, one, for_each, add_channel, add_grant, add_role}

-- the texts that are borrowed
abbrev pub texts : List (Bor (List ℕ)) → List (List ℕ)
texts ts = map (λ t. t.now) ts

-- what of a text is the name: a role may be written with `role:` before it
abbrev pub part : Kind → List ℕ → List ℕ
part kind.User = itself
part kind.Role = bare_role
part kind.Channel = itself
part kind.Grantee = itself

-- whether that is in its grammar
abbrev pub admits : Kind → List ℕ → Bool
admits kind.User = λ t. is_name t
admits kind.Role = λ t. is_name t
admits kind.Channel = λ t. is_channel_name t
admits kind.Grantee = λ t. is_grantee (grantee_of t)

-- the same names, in any order, each once or more often
abbrev pub AreSame : List (List ℕ) → List (List ℕ) → Type 0
AreSame xs ys = (x : List ℕ) → is_one_of xs x ≡ is_one_of ys x

-- each name comes strictly before the next, by bytes
abbrev pub AreSorted : List (List ℕ) → Type 0
AreSorted names = rises (slice_cmp nat_cmp) names ≡ true

-- names are found, and these are the same in order, each once
pub record AreFound (outcome : Found (List (List ℕ))) (names : List (List ℕ)) : Type 0 where
  pub found : List (List ℕ)
  pub is : outcome ≡ Ok found
  pub same : AreSame found names
  pub sorted : AreSorted names

-- the texts are what is found, or memory failed
abbrev pub GivesTexts : Found (List (List ℕ)) → Found (Vec (Bor (List ℕ)) Global) → Type 0
GivesTexts outcome (Ok ts) = outcome ≡ Ok (texts ts.items)
GivesTexts outcome (Err e) = e ≢ Memory → outcome ≡ Err e

-- the texts are what is found in order, each once, or memory failed
abbrev pub GivesNames : Found (List (List ℕ)) → Found (Vec (Bor (List ℕ)) Global) → Type 0
GivesNames outcome (Ok ts) = AreFound outcome (texts ts.items)
GivesNames outcome (Err e) = e ≢ Memory → outcome ≡ Err e

-- ---- effects by the texts that name them

-- the channel of this name more
unfoldable pub add_channel_named : Place → List ℕ → Effects → Found Effects
add_channel_named p c e = found_then (one p itself is_channel_name c) (λ c. add_channel p c e)

-- the grant of the channel of this name to the user or role of that
abbrev pub grant_named : Place → List ℕ → List ℕ → Found Grant
grant_named p to c = found_then (one p grantee_of is_grantee to) (λ to. found_then (one p itself is_channel_name c) (λ c. Ok (record { to = to; channel = c })))

-- that grant more
unfoldable pub add_grant_named : Place → List ℕ → List ℕ → Effects → Found Effects
add_grant_named p to c e = found_then (grant_named p to c) (λ g. add_grant p g.to g.channel e)

-- each of these channels to one user or role
unfoldable pub add_grants_named_to : Place → List (List ℕ) → List ℕ → Effects → Found Effects
add_grants_named_to p cs to e = for_each (add_grant_named p to) cs e

-- the role of this name of the user of that
abbrev pub role_grant_named : Place → List ℕ → List ℕ → Found RoleGrant
role_grant_named p user role = found_then (one p itself is_name user) (λ user. found_then (one p itself is_name role) (λ role. Ok (record { user = user; role = role })))

-- that role more
unfoldable pub add_role_named : Place → List ℕ → List ℕ → Effects → Found Effects
add_role_named p user role e = found_then (role_grant_named p user role) (λ g. add_role p g.user g.role e)

-- each of these roles to one user
unfoldable pub add_roles_named_to : Place → List (List ℕ) → List ℕ → Effects → Found Effects
add_roles_named_to p roles user e = for_each (add_role_named p user) roles e
