-- the tests of roles and users, by what earlier ones have
use Rattle.std.proofs.Common.{◌≡◌, ℕ, List, [], refl, ap, Bool, false, Option, Some, None}
use Rattle.std.specs.Prelude.{option_and_then}
use Rattle.std.specs.Option.{option_map_or, option_or}
use Rattle.serde_json.specs.Data.{Data, null, boolean, number, string, array, object}
use Rattle.sg_names.specs.Grammar.{is_name}
use Rattle.gateway_config.specs.Faults.{name_why, needed_why, optional_why, session_why, twice_why}
use Rattle.gateway_config.specs.Grammar.{is_session}
use Rattle.gateway_config.specs.Members.{read_or, member_text}
use Rattle.gateway_config.specs.inner.Objects.{role_fault, user_fault}

name_same : (f g : List ℕ → Bool) (d : Option Data) → ((t : List ℕ) → f t ≡ g t) → name_why f d ≡ name_why g d
name_same f g d h = ap (λ b. option_or (needed_why (member_text (λ t. is_name t)) d) (twice_why b)) (h (read_or (member_text (λ t. is_name t)) [] d))

maybe_same : (f g : List ℕ → Bool) (o : Option (List ℕ)) → ((t : List ℕ) → f t ≡ g t) → option_map_or f o false ≡ option_map_or g o false
maybe_same f g None h = refl
maybe_same f g (Some t) h = h t

session_same : (f g : List ℕ → Bool) (d : Option Data) → ((t : List ℕ) → f t ≡ g t) → session_why f d ≡ session_why g d
session_same f g d h =
    ap (λ b. option_or (optional_why (member_text (λ t. is_session t)) d) (twice_why b)) (maybe_same f g (option_and_then (member_text (λ t. is_session t)) d) h)

pub role_same : (place : ℕ) (f g : List ℕ → Bool) (d : Data) → ((t : List ℕ) → f t ≡ g t) → role_fault place f d ≡ role_fault place g d
role_same place f g null h = refl
role_same place f g (boolean b) h = refl
role_same place f g (number n) h = refl
role_same place f g (string s) h = refl
role_same place f g (array ds) h = refl
role_same place f g (object ms) h = rw (name_same f g _ h) refl

pub user_same : (place : ℕ) (f g s t : List ℕ → Bool) (d : Data) → ((x : List ℕ) → f x ≡ g x) → ((x : List ℕ) → s x ≡ t x) → user_fault place f s d ≡ user_fault place g t d
user_same place f g s t null h k = refl
user_same place f g s t (boolean b) h k = refl
user_same place f g s t (number n) h k = refl
user_same place f g s t (string x) h k = refl
user_same place f g s t (array ds) h k = refl
user_same place f g s t (object ms) h k = rw (name_same f g _ h, session_same s t _ k) refl
