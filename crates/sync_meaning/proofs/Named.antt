-- Effects of the names of arguments, which are put in order, each once, and then by the texts that name them.
use Rattle.std.proofs.Common.{◌≡◌, ℕ, ◌+◌, ◌≤◌, Bool, true, false, ◌&&◌, ◌||◌, cond, codes, nat_eq, List, [], ◌∷◌, ◌++◌, length, map, Option, Some, None, Ok, Err, Ordering, Less, Equal, Greater, refl, sym, ap, subst, ◌∙◌, arith, eqb-true}
use Rattle.std.specs.Cmp.{IsTotalOrder}
use Rattle.std.specs.Cmp.Lexicographic.{slice_cmp, bytes_decides}
use Rattle.std.specs.List.{list_all, list_any}
use Rattle.std.specs.Ordering.{nat_cmp, is_eq, ordering_then}
use Rattle.std.specs.Str.{bytes_eq}
use Rattle.std.proofs.lemmas.Bool.{false≢true}
use Rattle.std.proofs.lemmas.Cmp.{nat_list_cmp_total, on_total, then_total}
use Rattle.std.proofs.lemmas.List.{map-append}
use Rattle.std.proofs.lemmas.List.Folds.{list_all-append}
use Rattle.std.proofs.lemmas.Map.Text.{is_eq-slice_cmp}
use Rattle.sg_names.specs.Grammar.{is_name, is_channel_name}
use Rattle.sg_names.specs.Grants.{grantee_text, is_grantee, grant_cmp}
use Rattle.sg_names.specs.RoleGrants.{role_grant_cmp}
use Rattle.sg_names.specs.declared.grants.Grant.{Grant}
use Rattle.sg_names.specs.declared.grants.Grantee.{Grantee}
use Rattle.sg_names.specs.declared.role_grants.RoleGrant.{RoleGrant}
use Rattle.sync_tokens.specs.declared.place.Place.{Place}
use Rattle.sync_values.specs.declared.fault.FaultKind.TheVariants.{BadName}
use Rattle.sync_values.specs.declared.value.Value.{Value}
use Rattle.sync_values.specs.Found.{Found, fails}
use Rattle.sync_values.specs.Values.{found_then}
use Rattle.sync_meaning.specs.declared.effects.Effects.{Effects}
use Rattle.sync_meaning.specs.Builtins.{put, stripped, role_behind, bare_role, grantee_by, grantee_of, itself, one, named_from, named, names_in, texts_in, users_in, roles_in, channels_in, grantees_in, all_channels, is_one_of, within_limits, effect_count, for_each, add_channel, add_channels, add_grant, add_grants_to, add_grants, add_role, add_roles_to, add_roles}
use Rattle.sync_meaning.specs.inner.Arguments.{AreSame, add_channel_named, grant_named, add_grant_named, add_grants_named_to, role_grant_named, add_role_named, add_roles_named_to}
use Rattle.sync_meaning.proofs.Puts.{put_grows, put_once, put_commutes}
use Rattle.sync_meaning.proofs.Sets.{first_in, more_in, IsPut, ArePut, for_each_same, for_each_alike, for_both_same}

-- ---- orders

pub texts_total : IsTotalOrder (slice_cmp nat_cmp)
texts_total = nat_list_cmp_total

pub grants_total : IsTotalOrder (λ (a b : Grant). grant_cmp a b)
grants_total = then_total (on_total (λ (g : Grant). grantee_text g.to) nat_list_cmp_total) (on_total (λ (g : Grant). g.channel) nat_list_cmp_total)

pub role_grants_total : IsTotalOrder (λ (a b : RoleGrant). role_grant_cmp a b)
role_grants_total = then_total (on_total (λ (g : RoleGrant). g.user) nat_list_cmp_total) (on_total (λ (g : RoleGrant). g.role) nat_list_cmp_total)

same_text : (a b : List ℕ) → slice_cmp nat_cmp a b ≡ Equal → a ≡ b
same_text a b e = (bytes_decides a b).0 (sym (is_eq-slice_cmp a b) ∙ ap (λ (o : Ordering). is_eq o) e)

first_tie : (o r : Ordering) → ordering_then o r ≡ Equal → o ≡ Equal
first_tie Less r e = absurd cc
first_tie Equal r e = refl
first_tie Greater r e = absurd cc

second_tie : (o r : Ordering) → ordering_then o r ≡ Equal → r ≡ Equal
second_tie Less r e = absurd cc
second_tie Equal r e = e
second_tie Greater r e = absurd cc

-- ---- a grantee's text is the one that names it

put_back_by : (c : Bool) (b d : ℕ) (bs ds r : List ℕ) → nat_eq b d ≡ c → cond c (stripped bs ds) None ≡ Some r → (stripped bs ds ≡ Some r → bs ++ r ≡ ds) → b ∷ (bs ++ r) ≡ d ∷ ds
put_back_by true b d bs ds r is e h = ap (λ x. x ∷ (bs ++ r)) (eqb-true b d is) ∙ ap (λ l. d ∷ l) (h e)
put_back_by false b d bs ds r is e h = absurd cc

put_back : (p t r : List ℕ) → stripped p t ≡ Some r → p ++ r ≡ t
put_back [] t r e = cc
put_back (b ∷ bs) [] r e = absurd cc
put_back (b ∷ bs) (d ∷ ds) r e = put_back_by (nat_eq b d) b d bs ds r refl e (put_back bs ds r)

grantee_text_by : (t : List ℕ) (o : Option (List ℕ)) → ((r : List ℕ) → o ≡ Some r → codes "role:" ++ r ≡ t) → grantee_text (grantee_by t o) ≡ t
grantee_text_by t (Some r) h = h r refl
grantee_text_by t None h = refl

grantee_text_is : (t : List ℕ) → grantee_text (grantee_of t) ≡ t
unfolding role_behind
grantee_text_is t = grantee_text_by t (stripped (codes "role:") t) (λ r e. put_back (codes "role:") t r e)

both : (a b : Bool) → a ≡ true → b ≡ true → (a && b) ≡ true
both true true x y = refl
both true false x y = y
both false b x y = x

-- ---- what is found is in its grammar

abbrev pub AllFound : {A : Type 0} → (A → Bool) → Found (List A) → Type 0
AllFound is (Ok xs) = list_all is xs ≡ true
AllFound is (Err e) = Unit {0}

one_more : {A : Type 0} (is : A → Bool) (found : List A) (x : A) → list_all is found ≡ true → is x ≡ true → list_all is (found ++ x ∷ []) ≡ true
one_more is found x all h = list_all-append is found (x ∷ []) ∙ both (list_all is found) (list_all is (x ∷ [])) all (both (is x) true h refl)

if_named : {A : Type 0} (is : A → Bool) (c : Bool) (p : Place) (a : A) (next : A → Found (List A)) → (c ≡ true → AllFound is (next a))
    → AllFound is (found_then (cond c (Ok a) (fails BadName p)) next)
if_named is true p a next h = h refl
if_named is false p a next h = tt

named-all : {A : Type 0} (p : Place) (f : List ℕ → A) (is : A → Bool) (found : List A) (ts : List (List ℕ)) → list_all is found ≡ true → AllFound is (named_from p f is found ts)
named-all p f is found [] all = all
named-all p f is found (x ∷ xs) all =
    if_named is (is (f x)) p (f x) (λ a. named_from p f is (found ++ a ∷ []) xs) (λ h. named-all p f is (found ++ f x ∷ []) xs (one_more is found (f x) all h))

pub texts-all : {A : Type 0} (p : Place) (f : List ℕ → A) (is : A → Bool) (r : Found (List (List ℕ))) → AllFound is (found_then r (named p f is))
texts-all p f is (Ok ts) = named-all p f is [] ts refl
texts-all p f is (Err e) = tt

pub users-all : (p : Place) (x : Value) → AllFound is_name (users_in p x)
unfolding users_in
users-all p x = texts-all p itself is_name (texts_in p x)

pub roles-all : (p : Place) (x : Value) → AllFound is_name (roles_in p x)
unfolding roles_in
roles-all p x = texts-all p bare_role is_name (texts_in p x)

pub channels-all : (p : Place) (x : Value) → AllFound is_channel_name (channels_in p x)
unfolding channels_in
channels-all p x = texts-all p itself is_channel_name (texts_in p x)

pub grantees-all : (p : Place) (x : Value) → AllFound is_grantee (grantees_in p x)
unfolding grantees_in
grantees-all p x = texts-all p grantee_of is_grantee (texts_in p x)

on_found : {A : Type 0} (is : A → Bool) (r : Found (List A)) (next : List A → Found (List A)) → AllFound is r → ((xs : List A) → list_all is xs ≡ true → AllFound is (next xs))
    → AllFound is (found_then r next)
on_found is (Ok xs) next all h = h xs all
on_found is (Err e) next all h = tt

pub all_channels-all : (p : Place) (found : List (List ℕ)) (xs : List Value) → list_all is_channel_name found ≡ true → AllFound is_channel_name (all_channels p found xs)
all_channels-all p found [] all = all
all_channels-all p found (x ∷ xs) all =
    on_found is_channel_name (channels_in p x) (λ cs. all_channels p (found ++ cs) xs) (channels-all p x)
    (λ cs h. all_channels-all p (found ++ cs) xs (list_all-append is_channel_name found cs ∙ both (list_all is_channel_name found) (list_all is_channel_name cs) all h))

-- ---- what is put

abbrev with_channel : List ℕ → Effects → Effects
with_channel c e = record e { channels = put (slice_cmp nat_cmp) c e.channels }

abbrev grant_by : List ℕ → List ℕ → Grant
grant_by t c = record { to = grantee_of t; channel = c }

abbrev with_grant : List ℕ → List ℕ → Effects → Effects
with_grant t c e = record e { grants = put grant_cmp (grant_by t c) e.grants }

abbrev role_by : List ℕ → List ℕ → RoleGrant
role_by u r = record { user = u; role = r }

abbrev with_role : List ℕ → List ℕ → Effects → Effects
with_role u r e = record e { roles = put role_grant_cmp (role_by u r) e.roles }

channels_put : IsPut with_channel
channels_put = record {
  commutes = λ k l e. ap (λ (cs : List (List ℕ)). record e { channels = cs }) (put_commutes (slice_cmp nat_cmp) texts_total k l e.channels (same_text k l));
  once = λ k e. ap (λ (cs : List (List ℕ)). record e { channels = cs }) (put_once (slice_cmp nat_cmp) texts_total k e.channels);
  grows = λ k e. omega (arith, put_grows (slice_cmp nat_cmp) k e.channels);
}

same_grant : (t c u d : List ℕ) → grant_cmp (grant_by t c) (grant_by u d) ≡ Equal → grant_by t c ≡ grant_by u d
same_grant t c u d e =
    let to : t ≡ u = sym (grantee_text_is t) ∙ same_text (grantee_text (grantee_of t)) (grantee_text (grantee_of u)) (first_tie (slice_cmp nat_cmp (grantee_text (grantee_of t)) (grantee_text (grantee_of u))) (slice_cmp nat_cmp c d) e) ∙ grantee_text_is u in
    ap (λ x. grant_by x c) to ∙ ap (λ x. grant_by u x) (same_text c d (second_tie (slice_cmp nat_cmp (grantee_text (grantee_of t)) (grantee_text (grantee_of u))) (slice_cmp nat_cmp c d) e))

grants_put : ArePut with_grant
grants_put = record {
  commutes = λ t c u d e. ap (λ (gs : List Grant). record e { grants = gs }) (put_commutes (λ a b. grant_cmp a b) grants_total (grant_by t c) (grant_by u d) e.grants (same_grant t c u d));
  once = λ t c e. ap (λ (gs : List Grant). record e { grants = gs }) (put_once (λ a b. grant_cmp a b) grants_total (grant_by t c) e.grants);
  grows = λ t c e. omega (arith, put_grows grant_cmp (grant_by t c) e.grants);
}

same_role : (t c u d : List ℕ) → role_grant_cmp (role_by t c) (role_by u d) ≡ Equal → role_by t c ≡ role_by u d
same_role t c u d e =
    ap (λ x. role_by x c) (same_text t u (first_tie (slice_cmp nat_cmp t u) (slice_cmp nat_cmp c d) e))
    ∙ ap (λ x. role_by u x) (same_text c d (second_tie (slice_cmp nat_cmp t u) (slice_cmp nat_cmp c d) e))

roles_put : ArePut with_role
roles_put = record {
  commutes = λ t c u d e. ap (λ (gs : List RoleGrant). record e { roles = gs }) (put_commutes (λ a b. role_grant_cmp a b) role_grants_total (role_by t c) (role_by u d) e.roles (same_role t c u d));
  once = λ t c e. ap (λ (gs : List RoleGrant). record e { roles = gs }) (put_once (λ a b. role_grant_cmp a b) role_grants_total (role_by t c) e.roles);
  grows = λ t c e. omega (arith, put_grows role_grant_cmp (role_by t c) e.roles);
}

channel_within : (p : Place) (c : List ℕ) (e : Effects) → add_channel p c e ≡ within_limits p (with_channel c e)
unfolding add_channel
channel_within p c e = refl

grant_within : (p : Place) (t c : List ℕ) (e : Effects) → add_grant p (grantee_of t) c e ≡ within_limits p (with_grant t c e)
unfolding add_grant
grant_within p t c e = refl

role_within : (p : Place) (u r : List ℕ) (e : Effects) → add_role p u r e ≡ within_limits p (with_role u r e)
unfolding add_role
role_within p u r e = refl

-- ---- names of the same set

mapped_by : {X Y : Type 0} (f : X → Y) (h : Y → Effects → Found Effects) (xs : List X) (r : Found Effects)
    → ((d : Effects) → for_each h (map f xs) d ≡ for_each (λ x. h (f x)) xs d) → found_then r (for_each h (map f xs)) ≡ found_then r (for_each (λ x. h (f x)) xs)
mapped_by f h xs (Ok d) same = same d
mapped_by f h xs (Err d) same = refl

for_mapped : {X Y : Type 0} (f : X → Y) (h : Y → Effects → Found Effects) (xs : List X) (e : Effects) → for_each h (map f xs) e ≡ for_each (λ x. h (f x)) xs e
for_mapped f h [] e = refl
for_mapped f h (x ∷ xs) e = mapped_by f h xs (h (f x) e) (λ d. for_mapped f h xs d)

-- a property of bytes is one of the names of the same set
left : (a b : Bool) → (a && b) ≡ true → a ≡ true
left true b i = refl
left false b i = i

right : (a b : Bool) → (a && b) ≡ true → b ≡ true
right true b i = i
right false b i = absurd (false≢true i)

has_by : (b : Bool) (is : List ℕ → Bool) (x y : List ℕ) (ys : List (List ℕ)) → bytes_eq x y ≡ b → list_all is (y ∷ ys) ≡ true → (b || is_one_of ys x) ≡ true
    → (list_all is ys ≡ true → is_one_of ys x ≡ true → is x ≡ true) → is x ≡ true
has_by true is x y ys same all i further = ap is ((bytes_decides x y).0 same) ∙ left (is y) (list_all is ys) all
has_by false is x y ys same all i further = further (right (is y) (list_all is ys) all) i

has_all : (is : List ℕ → Bool) (xs : List (List ℕ)) (x : List ℕ) → list_all is xs ≡ true → is_one_of xs x ≡ true → is x ≡ true
has_all is [] x all h = absurd (false≢true h)
has_all is (y ∷ ys) x all h = has_by (bytes_eq x y) is x y ys refl all h (has_all is ys x)

all_have : (is : List ℕ → Bool) (ys : List (List ℕ)) → ((x : List ℕ) → is_one_of ys x ≡ true → is x ≡ true) → list_all is ys ≡ true
all_have is [] h = refl
all_have is (y ∷ ys) h = both (is y) (list_all is ys) (h y (first_in y ys)) (all_have is ys (λ x i. h x (more_in y x ys i)))

pub all_same : (is : List ℕ → Bool) (xs ys : List (List ℕ)) → AreSame xs ys → list_all is xs ≡ true → list_all is ys ≡ true
all_same is xs ys same all = all_have is ys (λ x i. has_all is xs x all (same x ∙ i))

if_so : {A B : Type 0} (c : Bool) (p : Place) (a : A) (f : A → Found B) → c ≡ true → found_then (cond c (Ok a) (fails BadName p)) f ≡ f a
if_so true p a f h = refl
if_so false p a f h = absurd (false≢true h)

channel_named : (p : Place) (c : List ℕ) (e : Effects) → is_channel_name c ≡ true → add_channel_named p c e ≡ add_channel p c e
unfolding add_channel_named
channel_named p c e is = if_so (is_channel_name c) p c (λ c. add_channel p c e) is

grant_is : (p : Place) (t c : List ℕ) → is_grantee (grantee_of t) ≡ true → is_channel_name c ≡ true → grant_named p t c ≡ Ok (grant_by t c)
grant_is p t c is_t is_c =
    if_so (is_grantee (grantee_of t)) p (grantee_of t) (λ to. found_then (one p itself is_channel_name c) (λ c. Ok (record { to = to; channel = c }))) is_t
    ∙ if_so (is_channel_name c) p c (λ c. Ok (grant_by t c)) is_c

grant_named_is : (p : Place) (t c : List ℕ) (e : Effects) → is_grantee (grantee_of t) ≡ true → is_channel_name c ≡ true → add_grant_named p t c e ≡ add_grant p (grantee_of t) c e
unfolding add_grant_named
grant_named_is p t c e is_t is_c = ap (λ r. found_then r (λ (g : Grant). add_grant p g.to g.channel e)) (grant_is p t c is_t is_c)

role_is : (p : Place) (u r : List ℕ) → is_name u ≡ true → is_name r ≡ true → role_grant_named p u r ≡ Ok (role_by u r)
role_is p u r is_u is_r =
    if_so (is_name u) p u (λ user. found_then (one p itself is_name r) (λ role. Ok (record { user = user; role = role }))) is_u
    ∙ if_so (is_name r) p r (λ r. Ok (role_by u r)) is_r

role_named_is : (p : Place) (u r : List ℕ) (e : Effects) → is_name u ≡ true → is_name r ≡ true → add_role_named p u r e ≡ add_role p u r e
unfolding add_role_named
role_named_is p u r e is_u is_r = ap (λ q. found_then q (λ (g : RoleGrant). add_role p g.user g.role e)) (role_is p u r is_u is_r)

-- channels that are found, and the same in order
pub channels_added : (p : Place) (found names : List (List ℕ)) (e : Effects) → AreSame found names → list_all is_channel_name found ≡ true
    → add_channels p found e ≡ for_each (add_channel_named p) names e
unfolding add_channels
channels_added p found names e same all =
    for_each_same with_channel channels_put p (add_channel p) (λ c d. channel_within p c d) found names e same
    ∙ sym (for_each_alike is_channel_name (add_channel_named p) (add_channel p) (λ c d is. channel_named p c d is) names e (all_same is_channel_name found names same all))

-- grants to the grantees that texts name, and the same in order
pub grants_added : (p : Place) (tos us cs ds : List (List ℕ)) (e : Effects) → AreSame tos us → AreSame cs ds
    → list_all (λ t. is_grantee (grantee_of t)) tos ≡ true → list_all is_channel_name cs ≡ true
    → add_grants p (map grantee_of tos) cs e ≡ for_each (add_grants_named_to p ds) us e
unfolding add_grants add_grants_to add_grants_named_to
grants_added p tos us cs ds e same alike are all =
    for_mapped grantee_of (add_grants_to p cs) tos e
    ∙ for_both_same with_grant grants_put p (λ t. add_grant p (grantee_of t)) (λ t c d. grant_within p t c d) tos us cs ds e same alike
    ∙ sym (for_each_alike (λ t. is_grantee (grantee_of t)) (add_grants_named_to p ds) (λ t. for_each (add_grant p (grantee_of t)) ds)
    (λ t d is. for_each_alike is_channel_name (add_grant_named p t) (add_grant p (grantee_of t)) (λ c b also. grant_named_is p t c b is also) ds d (all_same is_channel_name cs ds alike all))
    us e (all_same (λ t. is_grantee (grantee_of t)) tos us same are))

-- roles that are found, and the same in order
pub roles_added : (p : Place) (users us roles rs : List (List ℕ)) (e : Effects) → AreSame users us → AreSame roles rs
    → list_all is_name users ≡ true → list_all is_name roles ≡ true
    → add_roles p users roles e ≡ for_each (add_roles_named_to p rs) us e
unfolding add_roles add_roles_to add_roles_named_to
roles_added p users us roles rs e same alike are all =
    for_both_same with_role roles_put p (add_role p) (λ u r d. role_within p u r d) users us roles rs e same alike
    ∙ sym (for_each_alike is_name (add_roles_named_to p rs) (λ u. for_each (add_role p u) rs)
    (λ u d is. for_each_alike is_name (add_role_named p u) (add_role p u) (λ r b also. role_named_is p u r b is also) rs d (all_same is_name roles rs alike all))
    us e (all_same is_name users us same are))

-- ---- grantees by their texts

grantee_by_text : (c : Bool) (p : Place) (found : List (List ℕ)) (t : List ℕ) (ts : List (List ℕ))
    → named_from p grantee_of is_grantee (map grantee_of (found ++ t ∷ [])) ts ≡ found_then (named_from p itself (λ t. is_grantee (grantee_of t)) (found ++ t ∷ []) ts) (λ l. Ok (map grantee_of l))
    → found_then (cond c (Ok (grantee_of t)) (fails BadName p)) (λ a. named_from p grantee_of is_grantee (map grantee_of found ++ a ∷ []) ts)
    ≡ found_then (found_then (cond c (Ok t) (fails BadName p)) (λ a. named_from p itself (λ t. is_grantee (grantee_of t)) (found ++ a ∷ []) ts)) (λ l. Ok (map grantee_of l))
grantee_by_text true p found t ts further = ap (λ l. named_from p grantee_of is_grantee l ts) (sym (map-append grantee_of found (t ∷ []))) ∙ further
grantee_by_text false p found t ts further = refl

grantees_from : (p : Place) (found ts : List (List ℕ))
    → named_from p grantee_of is_grantee (map grantee_of found) ts ≡ found_then (named_from p itself (λ t. is_grantee (grantee_of t)) found ts) (λ l. Ok (map grantee_of l))
grantees_from p found [] = refl
grantees_from p found (t ∷ ts) = grantee_by_text (is_grantee (grantee_of t)) p found t ts (grantees_from p (found ++ t ∷ []) ts)

pub grantees_by_texts : (p : Place) (x : Value) → grantees_in p x ≡ found_then (names_in p itself (λ t. is_grantee (grantee_of t)) x) (λ l. Ok (map grantee_of l))
unfolding grantees_in
grantees_by_texts p x = by (texts_in p x)
  where
    by : (r : Found (List (List ℕ))) → found_then r (named p grantee_of is_grantee) ≡ found_then (found_then r (named p itself (λ t. is_grantee (grantee_of t)))) (λ l. Ok (map grantee_of l))
    by (Ok ts) = grantees_from p [] ts
    by (Err e) = refl
