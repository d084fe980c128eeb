-- the fields behind the kind of a line that is no write's
use Rattle.std.proofs.Common.{◌≡◌, ℕ, ◌<◌, ◌≤◌, List, [], ◌∷◌, length, get_or, map, refl, sym, ◌∙◌, subst, arith, Bor, IsTrue, IsUtf8}
use Rattle.sg_names.specs.Grammar.{is_name}
use Rattle.sg_names.specs.Channels.{channels_text, is_channels}
use Rattle.sg_names.specs.Names.{names_text, is_names}
use Rattle.sg_history.specs.Journal.{IsPutUser, IsPutRole}

-- the bytes of fields
abbrev pub texts : List (Bor (List ℕ)) → List (List ℕ)
texts fields = map (λ p. p.now) fields

abbrev none : Bor (List ℕ)
none = record { ref_ptr = (0, 0); now = [] }

abbrev pub nth : List (Bor (List ℕ)) → ℕ → List ℕ
nth fields i = (get_or fields i none).now

pub one : (fields : List (Bor (List ℕ))) → 1 ≤ length fields → length fields < 2 → texts fields ≡ nth fields 0 ∷ []
one (a ∷ []) low high = refl
one _ low high = absurd (omega arith)

pub two : (fields : List (Bor (List ℕ))) → 2 ≤ length fields → length fields < 3 → texts fields ≡ nth fields 0 ∷ nth fields 1 ∷ []
two (a ∷ b ∷ []) low high = refl
two _ low high = absurd (omega arith)

pub three : (fields : List (Bor (List ℕ))) → 3 ≤ length fields → length fields < 4 → texts fields ≡ nth fields 0 ∷ nth fields 1 ∷ nth fields 2 ∷ []
three (a ∷ b ∷ c ∷ []) low high = refl
three _ low high = absurd (omega arith)

-- what is read of the fields of a put of a user
pub user_read : (ts : List (List ℕ)) (a b c name : List ℕ) (channels roles : List (List ℕ)) → ts ≡ a ∷ b ∷ c ∷ []
    → (name ≡ a) × IsTrue (is_name name) × IsUtf8 a → (b ≡ channels_text channels) × IsTrue (is_channels channels) × IsUtf8 b
    → (c ≡ names_text roles) × IsTrue (is_names roles) × IsUtf8 c
    → IsPutUser name channels roles × (ts ≡ name ∷ channels_text channels ∷ names_text roles ∷ [])
user_read ts a b c name channels roles same its_name its_channels its_roles = (
  record {
    name = (its_name.1, subst IsUtf8 (sym its_name.0) its_name.2);
    channels = (its_channels.1, subst IsUtf8 its_channels.0 its_channels.2);
    roles = (its_roles.1, subst IsUtf8 its_roles.0 its_roles.2);
  },
  same ∙ (λ i. sym its_name.0 i ∷ its_channels.0 i ∷ its_roles.0 i ∷ []),
)

-- what is read of the fields of a put of a role
pub role_read : (ts : List (List ℕ)) (a b name : List ℕ) (channels : List (List ℕ)) → ts ≡ a ∷ b ∷ []
    → (name ≡ a) × IsTrue (is_name name) × IsUtf8 a → (b ≡ channels_text channels) × IsTrue (is_channels channels) × IsUtf8 b
    → IsPutRole name channels × (ts ≡ name ∷ channels_text channels ∷ [])
role_read ts a b name channels same its_name its_channels = (
  record { name = (its_name.1, subst IsUtf8 (sym its_name.0) its_name.2); channels = (its_channels.1, subst IsUtf8 its_channels.0 its_channels.2) },
  same ∙ (λ i. sym its_name.0 i ∷ its_channels.0 i ∷ []),
)

-- what is read of the field of a drop
pub drop_read : (ts : List (List ℕ)) (a name : List ℕ) → ts ≡ a ∷ [] → (name ≡ a) × IsTrue (is_name name) × IsUtf8 a
    → (IsTrue (is_name name) × IsUtf8 name) × (ts ≡ name ∷ [])
drop_read ts a name same its_name = ((its_name.1, subst IsUtf8 (sym its_name.0) its_name.2), same ∙ (λ i. sym its_name.0 i ∷ []))
