-- What is built in does and lets pass the same by the names of its arguments that are put in order, each once.
use Rattle.std.proofs.Common.{◌≡◌, ◌≢◌, ℕ, Bool, true, false, ◌||◌, codes, List, [], ◌∷◌, map, Option, Some, None, Ok, Err, Bor, refl, sym, ap, subst, ◌∙◌}
use Rattle.std.specs.Prelude.{IsErrAnd}
use Rattle.std.specs.Cmp.Lexicographic.{bytes_decides}
use Rattle.std.specs.List.{list_all, list_any}
use Rattle.std.specs.Str.{bytes_eq}
use Rattle.sg_names.specs.Grammar.{is_name, is_channel_name}
use Rattle.sg_names.specs.Grants.{is_grantee}
use Rattle.sync_tokens.specs.declared.place.Place.{Place}
use Rattle.sync_values.specs.declared.fault.RuleKind.TheVariants as rules
use Rattle.sync_values.specs.declared.fault.Stop.{Stop}
use Rattle.sync_values.specs.declared.fault.Stop.TheVariants.{Memory}
use Rattle.sync_values.specs.declared.value.Value.{Value}
use Rattle.sync_values.specs.Found.{Found}
use Rattle.sync_values.specs.Values.{found_then}
use Rattle.sync_meaning.specs.declared.state.Context.{Context}
use Rattle.sync_meaning.specs.declared.state.State.{State}
use Rattle.sync_meaning.specs.Acts.{Does}
use Rattle.sync_meaning.specs.Builtins.{texts_in, itself, bare_role, grantee_of, names_in, users_in, roles_in, channels_in, all_channels, is_one_of, share_one, or_administrator, passes_user, passes_role, passes_access, unless_passing, with_effects, for_each, add_channels, add_grants, add_roles, channel, access, role, require_user, require_role, require_access}
use Rattle.sync_meaning.specs.inner.Arguments.{texts, AreSame, AreFound, add_channel_named, add_grants_named_to, add_roles_named_to}
use Rattle.sync_meaning.proofs.Named.{AllFound, texts-all, all_channels-all, channels_added, grants_added, roles_added, grantees_by_texts}

-- ---- who passes

bytes_turned : (x y : List ℕ) → bytes_eq x y ≡ bytes_eq y x
bytes_turned x y = by (bytes_eq x y) (bytes_eq y x) refl refl
  where
    by : (a b : Bool) → bytes_eq x y ≡ a → bytes_eq y x ≡ b → a ≡ b
    by true true e f = refl
    by true false e f = sym ((bytes_decides y x).1 (sym ((bytes_decides x y).0 e))) ∙ f
    by false true e f = sym e ∙ (bytes_decides x y).1 (sym ((bytes_decides y x).0 f))
    by false false e f = refl

none_shared : (ys : List (List ℕ)) → share_one ys [] ≡ false
none_shared [] = refl
none_shared (y ∷ ys) = none_shared ys

or_swap : (a b c d : Bool) → ((a || b) || (c || d)) ≡ ((a || c) || (b || d))
or_swap true b c d = refl
or_swap false true true d = refl
or_swap false true false d = refl
or_swap false false c d = refl

-- one name more among those that are looked for
one_more : (x : List ℕ) (xs ys : List (List ℕ)) → share_one ys (x ∷ xs) ≡ (is_one_of ys x || share_one ys xs)
one_more x xs [] = refl
one_more x xs (y ∷ ys) =
    ap (λ (b : Bool). (b || is_one_of xs y) || share_one ys (x ∷ xs)) (bytes_turned y x)
    ∙ ap (λ (b : Bool). (bytes_eq x y || is_one_of xs y) || b) (one_more x xs ys)
    ∙ or_swap (bytes_eq x y) (is_one_of xs y) (is_one_of ys x) (share_one ys xs)

pub share_turned : (xs ys : List (List ℕ)) → share_one xs ys ≡ share_one ys xs
share_turned [] ys = sym (none_shared ys)
share_turned (x ∷ xs) ys = ap (λ (b : Bool). is_one_of ys x || b) (share_turned xs ys) ∙ sym (one_more x xs ys)

among_same : (xs ys all : List (List ℕ)) → AreSame xs ys → share_one all xs ≡ share_one all ys
among_same xs ys [] same = refl
among_same xs ys (x ∷ all) same = ap (λ (b : Bool). b || share_one all xs) (same x) ∙ ap (λ (b : Bool). is_one_of ys x || b) (among_same xs ys all same)

share_same : (xs ys all : List (List ℕ)) → AreSame xs ys → share_one xs all ≡ share_one ys all
share_same xs ys all same = share_turned xs all ∙ among_same xs ys all same ∙ share_turned all ys

user_by : (user : Option (List ℕ)) (c : Context) (xs ys : List (List ℕ)) → c.user ≡ user → AreSame xs ys → passes_user c xs ≡ passes_user c ys
unfolding passes_user
user_by None c xs ys is same = rw is refl
user_by (Some user) c xs ys is same = rw is (same user)

user_same : (c : Context) (xs ys : List (List ℕ)) → AreSame xs ys → passes_user c xs ≡ passes_user c ys
user_same c xs ys same = user_by c.user c xs ys refl same

role_same : (c : Context) (xs ys : List (List ℕ)) → AreSame xs ys → passes_role c xs ≡ passes_role c ys
unfolding passes_role
role_same c xs ys same = rw (share_same xs ys c.roles same) refl

access_same : (c : Context) (xs ys : List (List ℕ)) → AreSame xs ys → passes_access c xs ≡ passes_access c ys
unfolding passes_access
access_same c xs ys same = rw (share_same xs ys c.channels same) refl

pub role_passes : (c : Context) (user : List ℕ) (roles : List (List ℕ)) (b : Bool) → c.user ≡ Some user → b ≡ share_one c.roles roles → b ≡ passes_role c roles
unfolding passes_role
role_passes c user roles b is e = e ∙ share_turned c.roles roles ∙ sym (ap (λ u. or_administrator u (share_one roles c.roles)) is)

pub access_passes : (c : Context) (user : List ℕ) (channels : List (List ℕ)) (b : Bool) → c.user ≡ Some user → is_one_of c.channels (codes "*") ≡ false
    → b ≡ share_one c.channels channels → b ≡ passes_access c channels
unfolding passes_access
access_passes c user channels b is star e =
    e ∙ share_turned c.channels channels
    ∙ ap (λ (d : Bool). d || share_one channels c.channels) (sym star)
    ∙ sym (ap (λ u. or_administrator u (is_one_of c.channels (codes "*") || share_one channels c.channels)) is)

-- ---- calls

pub user_required : (p : Place) (x : Value) (s : State) (names : List (List ℕ)) → AreFound (names_in p itself (λ t. is_name t) x) names
    → require_user p x s ≡ unless_passing (passes_user s.context names) rules.User p s
unfolding require_user users_in
user_required p x s names h =
    ap (λ r. found_then r (λ names. unless_passing (passes_user s.context names) rules.User p s)) h.is
    ∙ ap (λ b. unless_passing b rules.User p s) (user_same s.context h.found names h.same)

pub no_user : (p : Place) (x : Value) (s : State) (e : Stop) → names_in p itself (λ t. is_name t) x ≡ Err e → require_user p x s ≡ Err e
unfolding require_user users_in
no_user p x s e h = ap (λ r. found_then r (λ names. unless_passing (passes_user s.context names) rules.User p s)) h

pub role_required : (p : Place) (x : Value) (s : State) (names : List (List ℕ)) → AreFound (names_in p bare_role (λ t. is_name t) x) names
    → require_role p x s ≡ unless_passing (passes_role s.context names) rules.Role p s
unfolding require_role roles_in
role_required p x s names h =
    ap (λ r. found_then r (λ roles. unless_passing (passes_role s.context roles) rules.Role p s)) h.is
    ∙ ap (λ b. unless_passing b rules.Role p s) (role_same s.context h.found names h.same)

pub no_role : (p : Place) (x : Value) (s : State) (e : Stop) → names_in p bare_role (λ t. is_name t) x ≡ Err e → require_role p x s ≡ Err e
unfolding require_role roles_in
no_role p x s e h = ap (λ r. found_then r (λ roles. unless_passing (passes_role s.context roles) rules.Role p s)) h

pub access_required : (p : Place) (x : Value) (s : State) (names : List (List ℕ)) → AreFound (names_in p itself (λ t. is_channel_name t) x) names
    → require_access p x s ≡ unless_passing (passes_access s.context names) rules.Access p s
unfolding require_access channels_in
access_required p x s names h =
    ap (λ r. found_then r (λ cs. unless_passing (passes_access s.context cs) rules.Access p s)) h.is
    ∙ ap (λ b. unless_passing b rules.Access p s) (access_same s.context h.found names h.same)

pub no_access : (p : Place) (x : Value) (s : State) (e : Stop) → names_in p itself (λ t. is_channel_name t) x ≡ Err e → require_access p x s ≡ Err e
unfolding require_access channels_in
no_access p x s e h = ap (λ r. found_then r (λ cs. unless_passing (passes_access s.context cs) rules.Access p s)) h

pub channel_is : (p : Place) (xs : List Value) (s : State) (names : List (List ℕ)) → AreFound (all_channels p [] xs) names
    → channel p xs s ≡ found_then (for_each (add_channel_named p) names s.effects) (with_effects s)
unfolding channel
channel_is p xs s names h =
    let all : AllFound is_channel_name (Ok h.found) = subst (λ r. AllFound is_channel_name r) h.is (all_channels-all p [] xs refl) in
    ap (λ r. found_then r (λ cs. found_then (add_channels p cs s.effects) (with_effects s))) h.is
    ∙ ap (λ r. found_then r (with_effects s)) (channels_added p h.found names s.effects h.same all)

pub no_channel : (p : Place) (xs : List Value) (s : State) (e : Stop) → all_channels p [] xs ≡ Err e → channel p xs s ≡ Err e
unfolding channel
no_channel p xs s e h = ap (λ r. found_then r (λ cs. found_then (add_channels p cs s.effects) (with_effects s))) h

-- what is found has each name in its grammar
all_found : (p : Place) (f : List ℕ → List ℕ) (is : List ℕ → Bool) (x : Value) (found : List (List ℕ)) → names_in p f is x ≡ Ok found → list_all is found ≡ true
all_found p f is x found h = subst (λ r. AllFound is r) h (texts-all p f is (texts_in p x))

pub access_is : (p : Place) (x y : Value) (s : State) (us ds : List (List ℕ))
    → AreFound (names_in p itself (λ t. is_grantee (grantee_of t)) x) us → AreFound (names_in p itself (λ t. is_channel_name t) y) ds
    → access p x y s ≡ found_then (for_each (add_grants_named_to p ds) us s.effects) (with_effects s)
unfolding access channels_in
access_is p x y s us ds h k =
    ap (λ r. found_then r (λ tos. found_then (channels_in p y) (λ cs. found_then (add_grants p tos cs s.effects) (with_effects s))))
    (grantees_by_texts p x ∙ ap (λ r. found_then r (λ l. Ok (map grantee_of l))) h.is)
    ∙ ap (λ r. found_then r (λ cs. found_then (add_grants p (map grantee_of h.found) cs s.effects) (with_effects s))) k.is
    ∙ ap (λ r. found_then r (with_effects s)) (grants_added p h.found us k.found ds s.effects h.same k.same
    (all_found p itself (λ t. is_grantee (grantee_of t)) x h.found h.is) (all_found p itself (λ t. is_channel_name t) y k.found k.is))

pub no_grantee : (p : Place) (x y : Value) (s : State) (e : Stop) → names_in p itself (λ t. is_grantee (grantee_of t)) x ≡ Err e → access p x y s ≡ Err e
unfolding access
no_grantee p x y s e h =
    ap (λ r. found_then r (λ tos. found_then (channels_in p y) (λ cs. found_then (add_grants p tos cs s.effects) (with_effects s))))
    (grantees_by_texts p x ∙ ap (λ r. found_then r (λ l. Ok (map grantee_of l))) h)

pub no_granted : (p : Place) (x y : Value) (s : State) (us : List (List ℕ)) (e : Stop)
    → AreFound (names_in p itself (λ t. is_grantee (grantee_of t)) x) us → names_in p itself (λ t. is_channel_name t) y ≡ Err e → access p x y s ≡ Err e
unfolding access channels_in
no_granted p x y s us e h k =
    ap (λ r. found_then r (λ tos. found_then (channels_in p y) (λ cs. found_then (add_grants p tos cs s.effects) (with_effects s))))
    (grantees_by_texts p x ∙ ap (λ r. found_then r (λ l. Ok (map grantee_of l))) h.is)
    ∙ ap (λ r. found_then r (λ cs. found_then (add_grants p (map grantee_of h.found) cs s.effects) (with_effects s))) k

pub role_is : (p : Place) (x y : Value) (s : State) (us rs : List (List ℕ))
    → AreFound (names_in p itself (λ t. is_name t) x) us → AreFound (names_in p bare_role (λ t. is_name t) y) rs
    → role p x y s ≡ found_then (for_each (add_roles_named_to p rs) us s.effects) (with_effects s)
unfolding role users_in roles_in
role_is p x y s us rs h k =
    ap (λ r. found_then r (λ users. found_then (roles_in p y) (λ roles. found_then (add_roles p users roles s.effects) (with_effects s)))) h.is
    ∙ ap (λ r. found_then r (λ roles. found_then (add_roles p h.found roles s.effects) (with_effects s))) k.is
    ∙ ap (λ r. found_then r (with_effects s)) (roles_added p h.found us k.found rs s.effects h.same k.same
    (all_found p itself (λ t. is_name t) x h.found h.is) (all_found p bare_role (λ t. is_name t) y k.found k.is))

pub no_role_user : (p : Place) (x y : Value) (s : State) (e : Stop) → names_in p itself (λ t. is_name t) x ≡ Err e → role p x y s ≡ Err e
unfolding role users_in
no_role_user p x y s e h = ap (λ r. found_then r (λ users. found_then (roles_in p y) (λ roles. found_then (add_roles p users roles s.effects) (with_effects s)))) h

pub no_given_role : (p : Place) (x y : Value) (s : State) (us : List (List ℕ)) (e : Stop)
    → AreFound (names_in p itself (λ t. is_name t) x) us → names_in p bare_role (λ t. is_name t) y ≡ Err e → role p x y s ≡ Err e
unfolding role users_in roles_in
no_given_role p x y s us e h k =
    ap (λ r. found_then r (λ users. found_then (roles_in p y) (λ roles. found_then (add_roles p users roles s.effects) (with_effects s)))) h.is
    ∙ ap (λ r. found_then r (λ roles. found_then (add_roles p h.found roles s.effects) (with_effects s))) k

-- ---- what the functions hand on

pub found_in : (outcome : Found (List (List ℕ))) (xs ys : List (Bor (List ℕ))) → ys ≡ xs → AreFound outcome (texts xs) → AreFound outcome (texts ys)
found_in outcome xs ys same h = subst (λ (l : List (Bor (List ℕ))). AreFound outcome (texts l)) (sym same) h

module _ (p : Place) (x : Value) (s : State) (r : Found Value) (new : State) where
  pub user_done : (names : List (List ℕ)) (passes : Bool) → AreFound (names_in p itself (λ t. is_name t) x) names
      → passes ≡ passes_user s.context names → Does (unless_passing passes rules.User p s) r new → Does (require_user p x s) r new
  user_done names passes h is d = subst (λ o. Does o r new) (ap (λ b. unless_passing b rules.User p s) is ∙ sym (user_required p x s names h)) d

  pub role_done : (names : List (List ℕ)) (passes : Bool) → AreFound (names_in p bare_role (λ t. is_name t) x) names
      → passes ≡ passes_role s.context names → Does (unless_passing passes rules.Role p s) r new → Does (require_role p x s) r new
  role_done names passes h is d = subst (λ o. Does o r new) (ap (λ b. unless_passing b rules.Role p s) is ∙ sym (role_required p x s names h)) d

  pub access_done : (names : List (List ℕ)) (passes : Bool) → AreFound (names_in p itself (λ t. is_channel_name t) x) names
      → passes ≡ passes_access s.context names → Does (unless_passing passes rules.Access p s) r new → Does (require_access p x s) r new
  access_done names passes h is d = subst (λ o. Does o r new) (ap (λ b. unless_passing b rules.Access p s) is ∙ sym (access_required p x s names h)) d

  pub grants_done : (y : Value) (us ds : List (List ℕ)) → AreFound (names_in p itself (λ t. is_grantee (grantee_of t)) x) us → AreFound (names_in p itself (λ t. is_channel_name t) y) ds
      → Does (found_then (for_each (add_grants_named_to p ds) us s.effects) (with_effects s)) r new → Does (access p x y s) r new
  grants_done y us ds h k d = subst (λ o. Does o r new) (sym (access_is p x y s us ds h k)) d

  pub roles_done : (y : Value) (us rs : List (List ℕ)) → AreFound (names_in p itself (λ t. is_name t) x) us → AreFound (names_in p bare_role (λ t. is_name t) y) rs
      → Does (found_then (for_each (add_roles_named_to p rs) us s.effects) (with_effects s)) r new → Does (role p x y s) r new
  roles_done y us rs h k d = subst (λ o. Does o r new) (sym (role_is p x y s us rs h k)) d

pub channels_done : (p : Place) (xs : List Value) (s : State) (r : Found Value) (new : State) (names : List (List ℕ)) → AreFound (all_channels p [] xs) names
    → Does (found_then (for_each (add_channel_named p) names s.effects) (with_effects s)) r new → Does (channel p xs s) r new
channels_done p xs s r new names h d = subst (λ o. Does o r new) (sym (channel_is p xs s names h)) d

-- ---- what stops them

stopped : {A : Type 0} (r : Found A) (e : Stop) → IsErrAnd r (λ y. y ≡ e) → r ≡ Err e
stopped (Ok a) e h = absurd h
stopped (Err y) e h = ap (λ (z : Stop). Err z) h

failed : (outcome : Found (Value × State)) (q : Found Value) (new : State) (e : Stop) → IsErrAnd q (λ y. y ≡ e) → (e ≢ Memory → outcome ≡ Err e) → Does outcome q new
failed outcome q new e is h = subst (λ (z : Found Value). Does outcome z new) (sym (stopped q e is)) h

module _ (p : Place) (x : Value) (s : State) (r : Found Value) (new : State) (e : Stop) (is : IsErrAnd r (λ y. y ≡ e)) where
  pub user_failed : (e ≢ Memory → names_in p itself (λ t. is_name t) x ≡ Err e) → Does (require_user p x s) r new
  user_failed h = failed (require_user p x s) r new e is (λ m. no_user p x s e (h m))

  pub role_failed : (e ≢ Memory → names_in p bare_role (λ t. is_name t) x ≡ Err e) → Does (require_role p x s) r new
  role_failed h = failed (require_role p x s) r new e is (λ m. no_role p x s e (h m))

  pub access_failed : (e ≢ Memory → names_in p itself (λ t. is_channel_name t) x ≡ Err e) → Does (require_access p x s) r new
  access_failed h = failed (require_access p x s) r new e is (λ m. no_access p x s e (h m))

  pub grantees_failed : (y : Value) → (e ≢ Memory → names_in p itself (λ t. is_grantee (grantee_of t)) x ≡ Err e) → Does (access p x y s) r new
  grantees_failed y h = failed (access p x y s) r new e is (λ m. no_grantee p x y s e (h m))

  pub granted_failed : (y : Value) (us : List (List ℕ)) → AreFound (names_in p itself (λ t. is_grantee (grantee_of t)) x) us
      → (e ≢ Memory → names_in p itself (λ t. is_channel_name t) y ≡ Err e) → Does (access p x y s) r new
  granted_failed y us h k = failed (access p x y s) r new e is (λ m. no_granted p x y s us e h (k m))

  pub role_users_failed : (y : Value) → (e ≢ Memory → names_in p itself (λ t. is_name t) x ≡ Err e) → Does (role p x y s) r new
  role_users_failed y h = failed (role p x y s) r new e is (λ m. no_role_user p x y s e (h m))

  pub given_failed : (y : Value) (us : List (List ℕ)) → AreFound (names_in p itself (λ t. is_name t) x) us
      → (e ≢ Memory → names_in p bare_role (λ t. is_name t) y ≡ Err e) → Does (role p x y s) r new
  given_failed y us h k = failed (role p x y s) r new e is (λ m. no_given_role p x y s us e h (k m))

pub channels_failed : (p : Place) (xs : List Value) (s : State) (r : Found Value) (new : State) (e : Stop) → IsErrAnd r (λ y. y ≡ e)
    → (e ≢ Memory → all_channels p [] xs ≡ Err e) → Does (channel p xs s) r new
channels_failed p xs s r new e is h = failed (channel p xs s) r new e is (λ m. no_channel p xs s e (h m))
