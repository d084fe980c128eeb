-- What a run gathers is in the grammar, in order, and not too much.
use Rattle.std.proofs.Common.{◌≡◌, ℕ, ◌+◌, ◌-◌, nat_lt, Bool, true, false, ◌&&◌, cond, List, [], ◌∷◌, ◌++◌, Ok, Err, Ordering, Less, Equal, Greater, refl, subst, ap, ◌∙◌, ltb-false, arith}
use Rattle.std.proofs.lemmas.List.Folds.{list_all-append}
use Rattle.std.specs.Cmp.Lexicographic.{slice_cmp}
use Rattle.std.specs.List.{list_all}
use Rattle.std.specs.Ordering.{nat_cmp, match_ordering, is_lt}
use Rattle.sg_names.specs.Channels.{is_channels}
use Rattle.sg_names.specs.Grammar.{is_name, is_channel_name}
use Rattle.sg_names.specs.Grants.{grantee_text, is_grantee, is_grant, grant_cmp, is_grants}
use Rattle.sg_names.specs.ItemList.{rises}
use Rattle.sg_names.specs.RoleGrants.{is_role_grant, role_grant_cmp, is_role_grants}
use Rattle.sg_names.specs.declared.grants.Grant.{Grant}
use Rattle.sg_names.specs.declared.grants.Grantee.{Grantee}
use Rattle.sg_names.specs.declared.role_grants.RoleGrant.{RoleGrant}
use Rattle.sync_tokens.specs.declared.place.Place.{Place}
use Rattle.sync_syntax.specs.declared.tree.Program.{Program}
use Rattle.sync_values.specs.declared.callee.Builtin.{Builtin}
use Rattle.sync_values.specs.declared.callee.Builtin.TheVariants as b
use Rattle.sync_values.specs.declared.fault.FaultKind.TheVariants.{BadName, Size}
use Rattle.sync_values.specs.declared.fault.RuleKind.{RuleKind}
use Rattle.sync_values.specs.declared.fault.RuleKind.TheVariants as rules
use Rattle.sync_values.specs.declared.fault.Stop.{Stop}
use Rattle.sync_values.specs.declared.value.Value.{Value}
use Rattle.sync_values.specs.declared.value.Value.TheVariants as v
use Rattle.sync_values.specs.Found.{Found, denial, fails, type_fault}
use Rattle.sync_values.specs.Values.{found_then, is_list}
use Rattle.sync_meaning.specs.declared.completion.Completion.{Completion}
use Rattle.sync_meaning.specs.declared.effects.Effects.{Effects}
use Rattle.sync_meaning.specs.declared.scope.Scope.{Scope}
use Rattle.sync_meaning.specs.declared.state.Context.{Context}
use Rattle.sync_meaning.specs.declared.state.State.{State}
use Rattle.sync_meaning.specs.Acts.{Act, and_then, in_state, ◌>>=◌, lift, visits, out_of_visits}
use Rattle.sync_meaning.specs.Variables.{top}
use Rattle.sync_meaning.specs.Builtins.{named_from, named, texts_in, itself, bare_role, grantee_of, users_in, roles_in, channels_in, grantees_in, all_channels, put, effect_count, within_limits, add_channel, add_grant, add_role, for_each, add_channels, add_grants_to, add_grants, add_roles_to, add_roles, with_effects, unless_passing, passes_user, passes_role, passes_access, passes_admin, channel, access, role, require_user, require_role, require_access, require_admin, built_in}
use Rattle.sync_meaning.specs.Expressions.{read}
use Rattle.sync_meaning.specs.Statements.{store, run}
use Rattle.sync_meaning.specs.Meaning.{body, begin, depth_for, gathered, meaning_within}
use Rattle.sync_meaning.specs.Laws.{AreEffects, EffectsAreLawful}
use Rattle.sync_meaning.proofs.Named.{AllFound, users-all, roles-all, channels-all, grantees-all, all_channels-all, texts_total, grants_total, role_grants_total}
use Rattle.sync_meaning.proofs.Puts.{put_rises}
use Rattle.sync_meaning.proofs.Relations.{Relation, run-related, block-related}

both : (a c : Bool) → a ≡ true → c ≡ true → (a && c) ≡ true
both true true x y = refl
both true false x y = y
both false c x y = x

first : (a c : Bool) → (a && c) ≡ true → a ≡ true
first true c h = refl
first false c h = h

second : (a c : Bool) → (a && c) ≡ true → c ≡ true
second true c h = h
second false c h = absurd cc

-- ---- an item put at its place

all_by : {X : Type 0} (is : X → Bool) (o : Ordering) (x y : X) (ys rest : List X) → is x ≡ true → list_all is (y ∷ ys) ≡ true → list_all is (y ∷ rest) ≡ true
    → list_all is (match_ordering o (x ∷ y ∷ ys) (y ∷ ys) (y ∷ rest)) ≡ true
all_by is Less x y ys rest hx hys hrest = both (is x) (list_all is (y ∷ ys)) hx hys
all_by is Equal x y ys rest hx hys hrest = hys
all_by is Greater x y ys rest hx hys hrest = hrest

module _ {X : Type 0} (order : X → X → Ordering) where
  put_all : (is : X → Bool) (x : X) (ys : List X) → is x ≡ true → list_all is ys ≡ true → list_all is (put order x ys) ≡ true
  put_all is x [] hx hys = both (is x) true hx refl
  put_all is x (y ∷ ys) hx hys =
      all_by is (order x y) x y ys (put order x ys) hx hys
      (both (is y) (list_all is (put order x ys)) (first (is y) (list_all is ys) hys) (put_all is x ys hx (second (is y) (list_all is ys) hys)))

-- ---- effects

abbrev AreFound : Found Effects → Type 0
AreFound (Ok e) = AreEffects e
AreFound (Err e) = Unit {0}

unless_many : (c : Bool) (p : Place) (e : Effects) → (c ≡ false → AreEffects e) → AreFound (cond c (fails Size p) (Ok e))
unless_many true p e h = tt
unless_many false p e h = h refl

within-found : (p : Place) (e : Effects) → is_channels e.channels ≡ true → is_grants e.grants ≡ true → is_role_grants e.roles ≡ true → AreFound (within_limits p e)
unfolding within_limits
within-found p e cs gs rs =
    unless_many (nat_lt 1000 (effect_count e)) p e (λ h. record { channels = cs; grants = gs; roles = rs; few = ltb-false 1000 (effect_count e) h })

add_channel-found : (p : Place) (c : List ℕ) (e : Effects) → is_channel_name c ≡ true → AreEffects e → AreFound (add_channel p c e)
unfolding add_channel
add_channel-found p c e is h =
    within-found p (record e { channels = put (slice_cmp nat_cmp) c e.channels })
    (both (list_all (λ n. is_channel_name n) (put (slice_cmp nat_cmp) c e.channels)) (rises (slice_cmp nat_cmp) (put (slice_cmp nat_cmp) c e.channels))
    (put_all (slice_cmp nat_cmp) (λ n. is_channel_name n) c e.channels is (first (list_all (λ n. is_channel_name n) e.channels) (rises (slice_cmp nat_cmp) e.channels) h.channels))
    (put_rises (slice_cmp nat_cmp) texts_total c e.channels (second (list_all (λ n. is_channel_name n) e.channels) (rises (slice_cmp nat_cmp) e.channels) h.channels)))
    h.grants h.roles

add_grant-found : (p : Place) (to : Grantee) (c : List ℕ) (e : Effects) → is_grantee to ≡ true → is_channel_name c ≡ true → AreEffects e → AreFound (add_grant p to c e)
unfolding add_grant
add_grant-found p to c e is_to is_c h =
    let g : Grant = record { to = to; channel = c } in
    within-found p (record e { grants = put grant_cmp g e.grants }) h.channels
    (both (list_all (λ x. is_grant x) (put grant_cmp g e.grants)) (rises grant_cmp (put grant_cmp g e.grants))
    (put_all grant_cmp (λ x. is_grant x) g e.grants (both (is_grantee to) (is_channel_name c) is_to is_c) (first (list_all (λ x. is_grant x) e.grants) (rises grant_cmp e.grants) h.grants))
    (put_rises (λ a b. grant_cmp a b) grants_total g e.grants (second (list_all (λ x. is_grant x) e.grants) (rises grant_cmp e.grants) h.grants)))
    h.roles

add_role-found : (p : Place) (user to : List ℕ) (e : Effects) → is_name user ≡ true → is_name to ≡ true → AreEffects e → AreFound (add_role p user to e)
unfolding add_role
add_role-found p user to e is_user is_to h =
    let g : RoleGrant = record { user = user; role = to } in
    within-found p (record e { roles = put role_grant_cmp g e.roles }) h.channels h.grants
    (both (list_all (λ x. is_role_grant x) (put role_grant_cmp g e.roles)) (rises role_grant_cmp (put role_grant_cmp g e.roles))
    (put_all role_grant_cmp (λ x. is_role_grant x) g e.roles (both (is_name user) (is_name to) is_user is_to) (first (list_all (λ x. is_role_grant x) e.roles) (rises role_grant_cmp e.roles) h.roles))
    (put_rises (λ a b. role_grant_cmp a b) role_grants_total g e.roles (second (list_all (λ x. is_role_grant x) e.roles) (rises role_grant_cmp e.roles) h.roles)))

then-found : (r : Found Effects) (f : Effects → Found Effects) → AreFound r → ((e : Effects) → AreEffects e → AreFound (f e)) → AreFound (found_then r f)
then-found (Ok e) f h hf = hf e h
then-found (Err e) f h hf = tt

for_each-found : {X : Type 0} (is : X → Bool) (f : X → Effects → Found Effects) → ((x : X) (e : Effects) → is x ≡ true → AreEffects e → AreFound (f x e))
    → (xs : List X) (e : Effects) → list_all is xs ≡ true → AreEffects e → AreFound (for_each f xs e)
for_each-found is f hf [] e all h = h
for_each-found is f hf (x ∷ xs) e all h =
    then-found (f x e) (for_each f xs) (hf x e (first (is x) (list_all is xs) all) h) (λ d hd. for_each-found is f hf xs d (second (is x) (list_all is xs) all) hd)

add_channels-found : (p : Place) (cs : List (List ℕ)) (e : Effects) → list_all is_channel_name cs ≡ true → AreEffects e → AreFound (add_channels p cs e)
unfolding add_channels
add_channels-found p cs e all h = for_each-found is_channel_name (add_channel p) (λ c d is hd. add_channel-found p c d is hd) cs e all h

add_grants_to-found : (p : Place) (cs : List (List ℕ)) (to : Grantee) (e : Effects) → list_all is_channel_name cs ≡ true → is_grantee to ≡ true → AreEffects e → AreFound (add_grants_to p cs to e)
unfolding add_grants_to
add_grants_to-found p cs to e all is_to h = for_each-found is_channel_name (add_grant p to) (λ c d is hd. add_grant-found p to c d is_to is hd) cs e all h

add_grants-found : (p : Place) (tos : List Grantee) (cs : List (List ℕ)) (e : Effects) → list_all is_grantee tos ≡ true → list_all is_channel_name cs ≡ true → AreEffects e → AreFound (add_grants p tos cs e)
unfolding add_grants
add_grants-found p tos cs e are all h = for_each-found is_grantee (add_grants_to p cs) (λ to d is hd. add_grants_to-found p cs to d all is hd) tos e are h

add_roles_to-found : (p : Place) (roles : List (List ℕ)) (user : List ℕ) (e : Effects) → list_all is_name roles ≡ true → is_name user ≡ true → AreEffects e → AreFound (add_roles_to p roles user e)
unfolding add_roles_to
add_roles_to-found p roles user e all is_user h = for_each-found is_name (add_role p user) (λ to d is hd. add_role-found p user to d is_user is hd) roles e all h

add_roles-found : (p : Place) (users roles : List (List ℕ)) (e : Effects) → list_all is_name users ≡ true → list_all is_name roles ≡ true → AreEffects e → AreFound (add_roles p users roles e)
unfolding add_roles
add_roles-found p users roles e are all h = for_each-found is_name (add_roles_to p roles) (λ user d is hd. add_roles_to-found p roles user d all is hd) users e are h

-- ---- runs

abbrev AreKept : {A : Type 0} → Found (A × State) → Type 0
AreKept (Ok p) = AreEffects p.1.effects
AreKept (Err e) = Unit {0}

-- effects that are lawful stay so
record Keeps {A : Type 0} (f g : Act A) : Type 0 where
  from : (s : State) → AreEffects s.effects → AreKept (f s)

bound_at : {A B : Type 0} (r : Found (A × State)) (h l : A → Act B) → AreKept r → ((a : A) → Keeps (h a) (l a)) → AreKept (and_then r h)
bound_at (Ok p) h l kept hl = (hl p.0).from p.1 kept
bound_at (Err e) h l kept hl = tt

bound : {A B : Type 0} (f g : Act A) (h l : A → Act B) → Keeps f g → ((a : A) → Keeps (h a) (l a)) → Keeps (f >>= h) (g >>= l)
bound f g h l fg hl = record { from = λ s e. bound_at (f s) h l (fg.from s e) hl }

lifted_at : {A : Type 0} (r : Found A) (s : State) → AreEffects s.effects → AreKept (in_state r s)
lifted_at (Ok a) s h = h
lifted_at (Err e) s h = tt

lifted : {A : Type 0} (r : Found A) → Keeps (lift r) (lift r)
lifted r = record { from = λ s h. lifted_at r s h }

visited_at : {A : Type 0} (c : Bool) (x : Stop) (q : A × State) → AreEffects q.1.effects → AreKept {A = A} (cond c (Err x) (Ok q))
visited_at true x q h = tt
visited_at false x q h = h

visited : (n : ℕ) (p : Place) → Keeps (visits n p) (visits n p)
unfolding visits
visited n p = record { from = λ s h. visited_at (nat_lt s.visits n) (denial rules.Fuel p) (tt, record s { visits = s.visits - n }) h }

seen : (scope : Scope) (name : List ℕ) → Keeps (read scope name) (read scope name)
unfolding read
seen scope name = record { from = λ s h. h }

stored : (name : List ℕ) (number : ℕ) (x : Value) → Keeps (store name number x) (store name number x)
unfolding store
stored name number x = record { from = λ s h. h }

out : {A : Type 0} (p : Place) (g : Act A) → Keeps (out_of_visits p) g
out p g = record { from = λ s h. tt }

counted : {A : Type 0} (f g : ℕ → Act A) → ((n j : ℕ) → Keeps (f n) (g (n + j))) → Keeps (λ s. f (s.visits + 1) s) (λ s. g (s.visits + 1) s)
counted f g fg = record { from = λ s h. (fg (s.visits + 1) 0).from s h }

-- what is found by names and is a list of these, and then is gone on with
on_all : {A B : Type 0} (is : A → Bool) (r : Found (List A)) (h : List A → Act B) → AllFound is r → ((xs : List A) → list_all is xs ≡ true → Keeps (h xs) (h xs))
    → Keeps (λ s. found_then r (λ xs. h xs s)) (λ s. found_then r (λ xs. h xs s))
on_all is (Ok xs) h all hh = hh xs all
on_all is (Err e) h all hh = record { from = λ s k. tt }

kept_at : (q : Found Effects) (s : State) → AreFound q → AreKept (found_then q (with_effects s))
kept_at (Ok e) s h = h
kept_at (Err e) s h = tt

kept : (f : Effects → Found Effects) → ((e : Effects) → AreEffects e → AreFound (f e)) → Keeps (λ s. found_then (f s.effects) (with_effects s)) (λ s. found_then (f s.effects) (with_effects s))
kept f hf = record { from = λ s h. kept_at (f s.effects) s (hf s.effects h) }

passed_at : (c : Bool) (kind : RuleKind) (p : Place) (s : State) → AreEffects s.effects → AreKept (unless_passing c kind p s)
passed_at true kind p s h = h
passed_at false kind p s h = tt

passed : (f : Context → Bool) (kind : RuleKind) (p : Place) → Keeps (λ s. unless_passing (f s.context) kind p s) (λ s. unless_passing (f s.context) kind p s)
passed f kind p = record { from = λ s h. passed_at (f s.context) kind p s h }

channel-keeps : (p : Place) (xs : List Value) → Keeps (channel p xs) (channel p xs)
unfolding channel
channel-keeps p xs =
    on_all is_channel_name (all_channels p [] xs) (λ cs s. found_then (add_channels p cs s.effects) (with_effects s)) (all_channels-all p [] xs refl)
    (λ cs all. kept (add_channels p cs) (λ e h. add_channels-found p cs e all h))

access-keeps : (p : Place) (x y : Value) → Keeps (access p x y) (access p x y)
unfolding access
access-keeps p x y =
    on_all is_grantee (grantees_in p x) (λ tos s. found_then (channels_in p y) (λ cs. found_then (add_grants p tos cs s.effects) (with_effects s))) (grantees-all p x)
    (λ tos are. on_all is_channel_name (channels_in p y) (λ cs s. found_then (add_grants p tos cs s.effects) (with_effects s)) (channels-all p y)
    (λ cs all. kept (add_grants p tos cs) (λ e h. add_grants-found p tos cs e are all h)))

role-keeps : (p : Place) (x y : Value) → Keeps (role p x y) (role p x y)
unfolding role
role-keeps p x y =
    on_all is_name (users_in p x) (λ users s. found_then (roles_in p y) (λ roles. found_then (add_roles p users roles s.effects) (with_effects s))) (users-all p x)
    (λ users are. on_all is_name (roles_in p y) (λ roles s. found_then (add_roles p users roles s.effects) (with_effects s)) (roles-all p y)
    (λ roles all. kept (add_roles p users roles) (λ e h. add_roles-found p users roles e are all h)))

user-keeps : (p : Place) (x : Value) → Keeps (require_user p x) (require_user p x)
unfolding require_user
user-keeps p x = on_all is_name (users_in p x) (λ names s. unless_passing (passes_user s.context names) rules.User p s) (users-all p x) (λ names all. passed (λ c. passes_user c names) rules.User p)

role_required-keeps : (p : Place) (x : Value) → Keeps (require_role p x) (require_role p x)
unfolding require_role
role_required-keeps p x = on_all is_name (roles_in p x) (λ roles s. unless_passing (passes_role s.context roles) rules.Role p s) (roles-all p x) (λ roles all. passed (λ c. passes_role c roles) rules.Role p)

access_required-keeps : (p : Place) (x : Value) → Keeps (require_access p x) (require_access p x)
unfolding require_access
access_required-keeps p x = on_all is_channel_name (channels_in p x) (λ cs s. unless_passing (passes_access s.context cs) rules.Access p s) (channels-all p x) (λ cs all. passed (λ c. passes_access c cs) rules.Access p)

admin-keeps : (p : Place) → Keeps (require_admin p) (require_admin p)
unfolding require_admin
admin-keeps p = passed passes_admin rules.Admin p

built : (p : Place) (f : Builtin) (xs : List Value) → Keeps (built_in p f xs) (built_in p f xs)
built p b.Channel (x ∷ xs) = channel-keeps p (x ∷ xs)
built p b.Access (x ∷ y ∷ []) = access-keeps p x y
built p b.Role (x ∷ y ∷ []) = role-keeps p x y
built p b.RequireUser (x ∷ []) = user-keeps p x
built p b.RequireRole (x ∷ []) = role_required-keeps p x
built p b.RequireAccess (x ∷ []) = access_required-keeps p x
built p b.RequireAdmin [] = admin-keeps p
built p b.IsArray (x ∷ []) = lifted (Ok (v.Bool (is_list x)))
built p _ _ = lifted (type_fault p)

abbrev keeping : Relation
keeping = record { R = Keeps; bound = bound; lifted = lifted; visited = visited; seen = seen; stored = stored; built = built; out = out; counted = counted }

body-keeps : (n : ℕ) (p : Program) → Keeps (body n p) (body (n + 0) p)
unfolding body
body-keeps n p = block-related keeping n 0 (run n) (run (n + 0)) (λ scope x. run-related keeping n 0 scope x) top p.place p.body

gathered_at : (r : Found (Completion × State)) → AreKept r → AreFound (found_then r gathered)
gathered_at (Ok p) h = h
gathered_at (Err x) h = tt

pub lawful : EffectsAreLawful
unfolding meaning_within
lawful visits p doc old context e is =
    subst (λ r. AreFound r) is (gathered_at (body (depth_for visits) p (begin visits p doc old context))
    ((body-keeps (depth_for visits) p).from (begin visits p doc old context) (record { channels = refl; grants = refl; roles = refl; few = omega arith })))
