-- the items of a list of the configuration, one after another
use Rattle.std.proofs.Common.{◌≡◌, ℕ, zero, suc, ◌+◌, ◌<◌, ◌≤◌, List, [], ◌∷◌, ◌++◌, length, drop, get_or, refl, sym, ap, ◌∙◌, subst, append_assoc, add-one, arith, Bool, true, false, ◌||◌, Option, Some, None}
use Rattle.std.specs.Prelude.{option_map}
use Rattle.std.specs.Option.{option_or}
use Rattle.std.specs.Str.{bytes_eq}
use Rattle.std.proofs.lemmas.List.{append-nil, drop_all}
use Rattle.std.proofs.lemmas.List.Folds.{list_any-append}
use Rattle.serde_json.specs.Data.{Items, item}
use Rattle.serde_json.specs.View.{view, items_view}
use Rattle.serde_json.specs.declared.value.Value.{Value}
use Rattle.gateway_config.specs.declared.config.ConfigRole.{ConfigRole}
use Rattle.gateway_config.specs.declared.config.ConfigUser.{ConfigUser}
use Rattle.gateway_config.specs.declared.fault.ConfigFault.{ConfigFault}
use Rattle.gateway_config.specs.Faults.{Fault, NamesFault, has_session, is_role_of, is_session_of, is_user_of, roles_fault, users_fault}
use Rattle.gateway_config.specs.Members.{put_first, member_text, grammar_texts}
use Rattle.gateway_config.specs.inner.Objects.{role_fault, user_fault}
use Rattle.gateway_config.specs.Values.{role_in, roles_of, user_in, users_of}
use Rattle.gateway_config.proofs.Earlier.{role_same, user_same}
use Rattle.gateway_config.proofs.Firsts.{first_named}

next : (vs : List Value) (i : ℕ) (v : Value) → i < length vs → v ≡ get_or vs i v → items_view (drop i vs) ≡ item (view v) (items_view (drop (suc i) vs))
next [] i v low is = absurd (omega (arith, low))
next (x ∷ vs) zero v low is = ap (λ w. item (view w) (items_view vs)) (sym is)
next (x ∷ vs) (suc i) v low is = next vs i v (omega (arith, low)) is

-- the item at this place, and those behind it
pub items_next : (vs : List Value) (i : ℕ) (v : Value) → i < length vs → v ≡ get_or vs i v → items_view (drop i vs) ≡ item (view v) (items_view (drop (i + 1) vs))
items_next vs i v low is = rw add-one (next vs i v low is)

items_end : (vs : List Value) (i : ℕ) → length vs ≤ i → items_view (drop i vs) ≡ items_view []
items_end vs i past = ap (λ ws. items_view ws) (drop_all i vs past)

-- ---- lists of texts

push_more : (list : List (List ℕ)) (t : List ℕ) (rest : Option (List (List ℕ))) → option_map (λ m. (list ++ t ∷ []) ++ m) rest ≡ option_map (λ m. list ++ m) (put_first (Some t) rest)
push_more list t None = refl
push_more list t (Some ts) = ap Some (append_assoc list (t ∷ []) ts)

pub texts_kept : (grammar : List ℕ → Bool) (vs : List Value) (i : ℕ) (v : Value) (list made : List (List ℕ)) (t : List ℕ) → i < length vs → v ≡ get_or vs i v
    → Some t ≡ member_text grammar (view v) → made ≡ list ++ t ∷ []
    → option_map (λ m. list ++ m) (grammar_texts grammar (items_view (drop i vs))) ≡ grammar_texts grammar (items_view vs)
    → option_map (λ m. made ++ m) (grammar_texts grammar (items_view (drop (i + 1) vs))) ≡ grammar_texts grammar (items_view vs)
texts_kept grammar vs i v list made t low is found pushed kept =
    let rest = grammar_texts grammar (items_view (drop (i + 1) vs)) in
    ap (λ (l : List (List ℕ)). option_map (λ m. l ++ m) rest) pushed
    ∙ push_more list t rest
    ∙ ap (λ (o : Option (List ℕ)). option_map (λ m. list ++ m) (put_first o rest)) found
    ∙ ap (λ (ds : Items). option_map (λ m. list ++ m) (grammar_texts grammar ds)) (sym (items_next vs i v low is))
    ∙ kept

pub texts_none : (grammar : List ℕ → Bool) (vs : List Value) (i : ℕ) (v : Value) (list : List (List ℕ)) → i < length vs → v ≡ get_or vs i v
    → None ≡ member_text grammar (view v)
    → option_map (λ m. list ++ m) (grammar_texts grammar (items_view (drop i vs))) ≡ grammar_texts grammar (items_view vs)
    → None ≡ grammar_texts grammar (items_view vs)
texts_none grammar vs i v list low is none kept =
    let rest = grammar_texts grammar (items_view (drop (i + 1) vs)) in
    ap (λ (o : Option (List ℕ)). option_map (λ m. list ++ m) (put_first o rest)) none
    ∙ ap (λ (ds : Items). option_map (λ m. list ++ m) (grammar_texts grammar ds)) (sym (items_next vs i v low is))
    ∙ kept

pub texts_all : (grammar : List ℕ → Bool) (vs : List Value) (i : ℕ) (list : List (List ℕ)) → length vs ≤ i
    → option_map (λ m. list ++ m) (grammar_texts grammar (items_view (drop i vs))) ≡ grammar_texts grammar (items_view vs)
    → Some list ≡ grammar_texts grammar (items_view vs)
texts_all grammar vs i list past kept =
    ap Some (sym (append-nil list))
    ∙ ap (λ (ds : Items). option_map (λ m. list ++ m) (grammar_texts grammar ds)) (sym (items_end vs i past))
    ∙ kept

-- ---- roles

or_last : (a b : Bool) → (a || b) ≡ (b || (a || false))
or_last true true = refl
or_last true false = refl
or_last false true = refl
or_last false false = refl

pub roles_seen : (had has : List ℕ → Bool) (roles made : List ConfigRole) (role : ConfigRole) (name : List ℕ) → ((t : List ℕ) → had t ≡ is_role_of roles t)
    → ((t : List ℕ) → has t ≡ (bytes_eq name t || had t)) → role.name ≡ name → made ≡ roles ++ role ∷ [] → (t : List ℕ) → has t ≡ is_role_of made t
roles_seen had has roles made role name before after named pushed t =
    after t
    ∙ ap (λ (b : Bool). bytes_eq name t || b) (before t)
    ∙ or_last (bytes_eq name t) (is_role_of roles t)
    ∙ ap (λ (n : List ℕ). is_role_of roles t || (bytes_eq n t || false)) (sym named)
    ∙ sym (list_any-append (λ r. bytes_eq r.name t) roles (role ∷ []))
    ∙ ap (λ (rs : List ConfigRole). is_role_of rs t) (sym pushed)

pub roles_kept : (vs : List Value) (i : ℕ) (v : Value) (roles made : List ConfigRole) (role : ConfigRole) → i < length vs → v ≡ get_or vs i v → role ≡ role_in (view v) → made ≡ roles ++ role ∷ []
    → roles ++ roles_of (items_view (drop i vs)) ≡ roles_of (items_view vs) → made ++ roles_of (items_view (drop (i + 1) vs)) ≡ roles_of (items_view vs)
roles_kept vs i v roles made role low is says pushed kept =
    let rest = roles_of (items_view (drop (i + 1) vs)) in
    ap (λ (m : List ConfigRole). m ++ rest) (pushed ∙ ap (λ (r : ConfigRole). roles ++ r ∷ []) says)
    ∙ append_assoc roles (role_in (view v) ∷ []) rest
    ∙ ap (λ (ds : Items). roles ++ roles_of ds) (sym (items_next vs i v low is))
    ∙ kept

roles_from : (vs : List Value) (i : ℕ) (v : Value) (roles : List ConfigRole) → i < length vs → v ≡ get_or vs i v → roles_fault roles (items_view (drop i vs)) ≡ roles_fault [] (items_view vs)
    → option_or (role_fault (length roles) (is_role_of roles) (view v)) (roles_fault (roles ++ role_in (view v) ∷ []) (items_view (drop (i + 1) vs))) ≡ roles_fault [] (items_view vs)
roles_from vs i v roles low is kept = ap (λ (ds : Items). roles_fault roles ds) (sym (items_next vs i v low is)) ∙ kept

pub roles_faultless : (vs : List Value) (i : ℕ) (v : Value) (place : ℕ) (had : List ℕ → Bool) (roles made : List ConfigRole) (role : ConfigRole) → i < length vs → v ≡ get_or vs i v
    → place ≡ length roles → ((t : List ℕ) → had t ≡ is_role_of roles t) → role_fault place had (view v) ≡ None → role ≡ role_in (view v) → made ≡ roles ++ role ∷ []
    → roles_fault roles (items_view (drop i vs)) ≡ roles_fault [] (items_view vs) → roles_fault made (items_view (drop (i + 1) vs)) ≡ roles_fault [] (items_view vs)
roles_faultless vs i v place had roles made role low is here before none says pushed kept =
    let rest = items_view (drop (i + 1) vs) in
    let fine : role_fault (length roles) (is_role_of roles) (view v) ≡ None =
    sym (role_same (length roles) had (is_role_of roles) (view v) before) ∙ ap (λ (p : ℕ). role_fault p had (view v)) (sym here) ∙ none in
    ap (λ (m : List ConfigRole). roles_fault m rest) (pushed ∙ ap (λ (r : ConfigRole). roles ++ r ∷ []) says)
    ∙ sym (ap (λ (f : Option Fault). option_or f (roles_fault (roles ++ role_in (view v) ∷ []) rest)) fine)
    ∙ roles_from vs i v roles low is kept

pub roles_named : (vs : List Value) (i : ℕ) (v : Value) (place : ℕ) (had : List ℕ → Bool) (roles : List ConfigRole) (e : ConfigFault) → i < length vs → v ≡ get_or vs i v
    → place ≡ length roles → ((t : List ℕ) → had t ≡ is_role_of roles t) → NamesFault (role_fault place had (view v)) e
    → roles_fault roles (items_view (drop i vs)) ≡ roles_fault [] (items_view vs) → NamesFault (roles_fault [] (items_view vs)) e
roles_named vs i v place had roles e low is here before named kept =
    let same : role_fault place had (view v) ≡ role_fault (length roles) (is_role_of roles) (view v) =
    ap (λ (p : ℕ). role_fault p had (view v)) here ∙ role_same (length roles) had (is_role_of roles) (view v) before in
    subst (λ (f : Option Fault). NamesFault f e) (roles_from vs i v roles low is kept) (first_named _ _ e (subst (λ (f : Option Fault). NamesFault f e) same named))

pub roles_end : (vs : List Value) (i : ℕ) (roles : List ConfigRole) → length vs ≤ i
    → roles_fault roles (items_view (drop i vs)) ≡ roles_fault [] (items_view vs) → roles ++ roles_of (items_view (drop i vs)) ≡ roles_of (items_view vs)
    → (roles_fault [] (items_view vs) ≡ None) × (roles ≡ roles_of (items_view vs))
roles_end vs i roles past kept says = (
  sym kept ∙ ap (λ (ds : Items). roles_fault roles ds) (items_end vs i past),
  sym (append-nil roles) ∙ ap (λ (ds : Items). roles ++ roles_of ds) (sym (items_end vs i past)) ∙ says,
)

-- ---- users

pub users_seen : (had has : List ℕ → Bool) (users made : List ConfigUser) (user : ConfigUser) (name : List ℕ) → ((t : List ℕ) → had t ≡ is_user_of users t)
    → ((t : List ℕ) → has t ≡ (bytes_eq name t || had t)) → user.name ≡ name → made ≡ users ++ user ∷ [] → (t : List ℕ) → has t ≡ is_user_of made t
users_seen had has users made user name before after named pushed t =
    after t
    ∙ ap (λ (b : Bool). bytes_eq name t || b) (before t)
    ∙ or_last (bytes_eq name t) (is_user_of users t)
    ∙ ap (λ (n : List ℕ). is_user_of users t || (bytes_eq n t || false)) (sym named)
    ∙ sym (list_any-append (λ u. bytes_eq u.name t) users (user ∷ []))
    ∙ ap (λ (us : List ConfigUser). is_user_of us t) (sym pushed)

pub sessions_seen : (had has : List ℕ → Bool) (users made : List ConfigUser) (user like : ConfigUser) → ((t : List ℕ) → had t ≡ is_session_of users t)
    → ((t : List ℕ) → has t ≡ (has_session like t || had t)) → user ≡ like → made ≡ users ++ user ∷ [] → (t : List ℕ) → has t ≡ is_session_of made t
sessions_seen had has users made user like before after same pushed t =
    after t
    ∙ ap (λ (b : Bool). has_session like t || b) (before t)
    ∙ or_last (has_session like t) (is_session_of users t)
    ∙ ap (λ (u : ConfigUser). is_session_of users t || (has_session u t || false)) (sym same)
    ∙ sym (list_any-append (λ u. has_session u t) users (user ∷ []))
    ∙ ap (λ (us : List ConfigUser). is_session_of us t) (sym pushed)

pub users_kept : (vs : List Value) (i : ℕ) (v : Value) (users made : List ConfigUser) (user : ConfigUser) → i < length vs → v ≡ get_or vs i v → user ≡ user_in (view v) → made ≡ users ++ user ∷ []
    → users ++ users_of (items_view (drop i vs)) ≡ users_of (items_view vs) → made ++ users_of (items_view (drop (i + 1) vs)) ≡ users_of (items_view vs)
users_kept vs i v users made user low is says pushed kept =
    let rest = users_of (items_view (drop (i + 1) vs)) in
    ap (λ (m : List ConfigUser). m ++ rest) (pushed ∙ ap (λ (r : ConfigUser). users ++ r ∷ []) says)
    ∙ append_assoc users (user_in (view v) ∷ []) rest
    ∙ ap (λ (ds : Items). users ++ users_of ds) (sym (items_next vs i v low is))
    ∙ kept

users_from : (vs : List Value) (i : ℕ) (v : Value) (users : List ConfigUser) → i < length vs → v ≡ get_or vs i v → users_fault users (items_view (drop i vs)) ≡ users_fault [] (items_view vs)
    → option_or (user_fault (length users) (is_user_of users) (is_session_of users) (view v)) (users_fault (users ++ user_in (view v) ∷ []) (items_view (drop (i + 1) vs))) ≡ users_fault [] (items_view vs)
users_from vs i v users low is kept = ap (λ (ds : Items). users_fault users ds) (sym (items_next vs i v low is)) ∙ kept

pub users_faultless : (vs : List Value) (i : ℕ) (v : Value) (place : ℕ) (had held : List ℕ → Bool) (users made : List ConfigUser) (user : ConfigUser) → i < length vs → v ≡ get_or vs i v
    → place ≡ length users → ((t : List ℕ) → had t ≡ is_user_of users t) → ((t : List ℕ) → held t ≡ is_session_of users t) → user_fault place had held (view v) ≡ None → user ≡ user_in (view v) → made ≡ users ++ user ∷ []
    → users_fault users (items_view (drop i vs)) ≡ users_fault [] (items_view vs) → users_fault made (items_view (drop (i + 1) vs)) ≡ users_fault [] (items_view vs)
users_faultless vs i v place had held users made user low is here before beside none says pushed kept =
    let rest = items_view (drop (i + 1) vs) in
    let fine : user_fault (length users) (is_user_of users) (is_session_of users) (view v) ≡ None =
    sym (user_same (length users) had (is_user_of users) held (is_session_of users) (view v) before beside) ∙ ap (λ (p : ℕ). user_fault p had held (view v)) (sym here) ∙ none in
    ap (λ (m : List ConfigUser). users_fault m rest) (pushed ∙ ap (λ (r : ConfigUser). users ++ r ∷ []) says)
    ∙ sym (ap (λ (f : Option Fault). option_or f (users_fault (users ++ user_in (view v) ∷ []) rest)) fine)
    ∙ users_from vs i v users low is kept

pub users_named : (vs : List Value) (i : ℕ) (v : Value) (place : ℕ) (had held : List ℕ → Bool) (users : List ConfigUser) (e : ConfigFault) → i < length vs → v ≡ get_or vs i v
    → place ≡ length users → ((t : List ℕ) → had t ≡ is_user_of users t) → ((t : List ℕ) → held t ≡ is_session_of users t) → NamesFault (user_fault place had held (view v)) e
    → users_fault users (items_view (drop i vs)) ≡ users_fault [] (items_view vs) → NamesFault (users_fault [] (items_view vs)) e
users_named vs i v place had held users e low is here before beside named kept =
    let same : user_fault place had held (view v) ≡ user_fault (length users) (is_user_of users) (is_session_of users) (view v) =
    ap (λ (p : ℕ). user_fault p had held (view v)) here ∙ user_same (length users) had (is_user_of users) held (is_session_of users) (view v) before beside in
    subst (λ (f : Option Fault). NamesFault f e) (users_from vs i v users low is kept) (first_named _ _ e (subst (λ (f : Option Fault). NamesFault f e) same named))

pub users_end : (vs : List Value) (i : ℕ) (users : List ConfigUser) → length vs ≤ i
    → users_fault users (items_view (drop i vs)) ≡ users_fault [] (items_view vs) → users ++ users_of (items_view (drop i vs)) ≡ users_of (items_view vs)
    → (users_fault [] (items_view vs) ≡ None) × (users ≡ users_of (items_view vs))
users_end vs i users past kept says = (
  sym kept ∙ ap (λ (ds : Items). users_fault users ds) (items_end vs i past),
  sym (append-nil users) ∙ ap (λ (ds : Items). users ++ users_of ds) (sym (items_end vs i past)) ∙ says,
)
