-- what a fact is held for, in terms of puts and of documents as they are
use Rattle.std.proofs.Common.{◌≡◌, ◌+◌, ℕ, refl, sym, ◌∙◌, ap, arith, Bool, true, false, ◌&&◌, ◌||◌, if◌then◌else◌, List, [], ◌∷◌, ◌++◌, map, nat_lt, Option, Some, None}
use Rattle.std.specs.List.{list_any}
use Rattle.std.specs.Str.{bytes_eq}
use Rattle.std.specs.Cmp.Lexicographic.{bytes_decides}
use Rattle.std.proofs.lemmas.Bool.{false≢true}
use Rattle.sg_names.specs.declared.grants.Grantee.{Grantee}
use Rattle.sg_names.specs.declared.grants.Grantee.TheVariants.{User}
use Rattle.sg_names.specs.declared.grants.Grant.{Grant}
use Rattle.sg_names.specs.declared.role_grants.RoleGrant.{RoleGrant}
use Rattle.sg_history.specs.declared.entries.Entry.{Entry}
use Rattle.sg_history.specs.declared.entries.Write.{Write}
use Rattle.sg_history.specs.History.{among, as_write, document_of, documents}
use Rattle.sg_history.specs.Current.{Current, current}
use Rattle.sg_history.specs.Principals.{PrincipalState, same_grantee, exists, names_role, names_channel, grants_channel, is_granted, gives_role, is_given, user_at}
use Rattle.grant_tracks.specs.declared.things.What.TheVariants as what
use Rattle.grant_history.specs.declared.facts.Fact.{Fact}
use Rattle.grant_history.specs.Facts.{same_fact, times, fact, channel_facts, role_facts, put_facts, grant_facts, gift_facts, document_facts}
use Rattle.grant_history.specs.Sources.{principal_of, with_document, documents_once, given_by, is_held}
use Rattle.grant_history.proofs.Same.{grantee_itself}
use Rattle.grant_tracks.proofs.Once.{any_same}

positive_sum : (a b : ℕ) → nat_lt 0 (a + b) ≡ (nat_lt 0 a || nat_lt 0 b)
positive_sum a b = grind arith

and_false : (b : Bool) → (b && false) ≡ false
and_false true = refl
and_false false = refl

or_false : (b : Bool) → (b || false) ≡ b
or_false true = refl
or_false false = refl

times_any : (xs : List Fact) (f : Fact) → nat_lt 0 (times xs f) ≡ list_any (λ g. same_fact g f) xs
times_any [] f = refl
times_any (x ∷ xs) f =
    positive_sum (if same_fact x f then 1 else 0) (times xs f)
    ∙ ap (λ (b : Bool). nat_lt 0 (if same_fact x f then 1 else 0) || b) (times_any xs f)
    ∙ ap (λ (b : Bool). b || list_any (λ g. same_fact g f) xs) (by (same_fact x f))
  where
    by : (b : Bool) → nat_lt 0 (if b then 1 else 0) ≡ b
    by true = refl
    by false = refl

pub any_append : {X : Type 0} (p : X → Bool) (xs ys : List X) → list_any p (xs ++ ys) ≡ (list_any p xs || list_any p ys)
any_append p [] ys = refl
any_append p (x ∷ xs) ys = ap (λ (b : Bool). p x || b) (any_append p xs ys) ∙ by (p x)
  where
    by : (b : Bool) → (b || (list_any p xs || list_any p ys)) ≡ ((b || list_any p xs) || list_any p ys)
    by true = refl
    by false = refl

any_map : {X Y : Type 0} (p : Y → Bool) (h : X → Y) (q : X → Bool) → ((x : X) → p (h x) ≡ q x) → (xs : List X) → list_any p (map h xs) ≡ list_any q xs
any_map p h q same [] = refl
any_map p h q same (x ∷ xs) = ap (λ (b : Bool). b || list_any p (map h xs)) (same x) ∙ ap (λ (b : Bool). q x || b) (any_map p h q same xs)

any_never : {X Y : Type 0} (p : Y → Bool) (h : X → Y) → ((x : X) → p (h x) ≡ false) → (xs : List X) → list_any p (map h xs) ≡ false
any_never p h never [] = refl
any_never p h never (x ∷ xs) = ap (λ (b : Bool). b || list_any p (map h xs)) (never x) ∙ any_never p h never xs

-- what documents give
given_any : (es : List Entry) (docs : List (List ℕ)) (f : Fact) → nat_lt 0 (given_by es docs f) ≡ list_any (λ d. nat_lt 0 (times (document_facts (current es d)) f)) docs
given_any es [] f = refl
given_any es (d ∷ ds) f =
    positive_sum (times (document_facts (current es d)) f) (given_by es ds f)
    ∙ ap (λ (b : Bool). nat_lt 0 (times (document_facts (current es d)) f) || b) (given_any es ds f)

passes_among : (p : List ℕ → Bool) (xs : List (List ℕ)) (x : List ℕ) → among xs x ≡ true → p x ≡ true → list_any p xs ≡ true
passes_among p [] x h is = absurd (false≢true h)
passes_among p (y ∷ ys) x h is = by (bytes_eq y x) refl h (λ k. passes_among p ys x k is)
  where
    right : (b : Bool) → list_any p ys ≡ true → (b || list_any p ys) ≡ true
    right true k = refl
    right false k = k

    by : (b : Bool) → bytes_eq y x ≡ b → (b || among ys x) ≡ true → (among ys x ≡ true → list_any p ys ≡ true) → (p y || list_any p ys) ≡ true
    by true same h rest = ap (λ (b : Bool). b || list_any p ys) (ap p ((bytes_decides y x).0 same) ∙ is)
    by false same h rest = right (p y) (rest h)

-- each document once or as often as it was written
any_once : (p : List ℕ → Bool) (es : List Entry) → list_any p (documents_once es) ≡ list_any p (documents es)
any_once p [] = refl
any_once p (e ∷ es) = by (as_write e) (any_once p es)
  where
    of : (w : Write) (b : Bool) → among (documents_once es) w.doc ≡ b → list_any p (documents_once es) ≡ list_any p (documents es) → list_any p (if b then documents_once es else w.doc ∷ documents_once es) ≡ (p w.doc || list_any p (documents es))
    of w false old before = ap (λ (b : Bool). p w.doc || b) before
    of w true old before = before ∙ here (p w.doc) refl
      where
        here : (b : Bool) → p w.doc ≡ b → list_any p (documents es) ≡ (b || list_any p (documents es))
        here true is = sym before ∙ passes_among p (documents_once es) w.doc old is
        here false is = refl

    by : (o : Option Write) → list_any p (documents_once es) ≡ list_any p (documents es) → list_any p (with_document o (documents_once es)) ≡ list_any p (document_of o ++ documents es)
    by None before = before
    by (Some w) before = of w (among (documents_once es) w.doc) refl before

-- the sources, put and documents apart
parts : (es : List Entry) (f : Fact) → is_held es f ≡ (list_any (λ g. same_fact g f) (put_facts f.of (principal_of es f.of)) || list_any (λ d. list_any (λ g. same_fact g f) (document_facts (current es d))) (documents es))
parts es f =
    positive_sum (times (put_facts f.of (principal_of es f.of)) f) (given_by es (documents_once es) f)
    ∙ ap (λ (b : Bool). b || nat_lt 0 (given_by es (documents_once es) f)) (times_any (put_facts f.of (principal_of es f.of)) f)
    ∙ ap (λ (b : Bool). list_any (λ g. same_fact g f) (put_facts f.of (principal_of es f.of)) || b)
    (given_any es (documents_once es) f
    ∙ any_once (λ d. nat_lt 0 (times (document_facts (current es d)) f)) es
    ∙ any_same (λ d. nat_lt 0 (times (document_facts (current es d)) f)) (λ d. list_any (λ g. same_fact g f) (document_facts (current es d))) (λ d. times_any (document_facts (current es d)) f) (documents es))

-- channels
put_channel : (of : Grantee) (s : Option PrincipalState) (c : List ℕ) → list_any (λ g. same_fact g (fact of (what.Channel c))) (put_facts of s) ≡ names_channel s c
put_channel of None c = refl
put_channel of (Some s) c =
    ap (λ (b : Bool). b || list_any (λ g. same_fact g (fact of (what.Channel c))) (channel_facts of s.channels ++ role_facts of s.roles)) (and_false (same_grantee of of))
    ∙ any_append (λ g. same_fact g (fact of (what.Channel c))) (channel_facts of s.channels) (role_facts of s.roles)
    ∙ ap (λ (b : Bool). list_any (λ g. same_fact g (fact of (what.Channel c))) (channel_facts of s.channels) || b)
    (any_never (λ g. same_fact g (fact of (what.Channel c))) (λ r. fact of (what.Role r)) (λ r. and_false (same_grantee of of)) s.roles)
    ∙ or_false (list_any (λ g. same_fact g (fact of (what.Channel c))) (channel_facts of s.channels))
    ∙ any_map (λ g. same_fact g (fact of (what.Channel c))) (λ d. fact of (what.Channel d)) (λ d. bytes_eq d c) (λ d. ap (λ (b : Bool). b && bytes_eq d c) (grantee_itself of)) s.channels

document_channel : (of : Grantee) (o : Option Current) (c : List ℕ) → list_any (λ g. same_fact g (fact of (what.Channel c))) (document_facts o) ≡ grants_channel o of c
document_channel of None c = refl
document_channel of (Some d) c =
    any_append (λ g. same_fact g (fact of (what.Channel c))) (grant_facts d.effects.grants) (gift_facts d.effects.roles)
    ∙ ap (λ (b : Bool). list_any (λ g. same_fact g (fact of (what.Channel c))) (grant_facts d.effects.grants) || b)
    (any_never (λ g. same_fact g (fact of (what.Channel c))) (λ (g : RoleGrant). fact (User g.user) (what.Role g.role)) (λ g. and_false (same_grantee (User g.user) of)) d.effects.roles)
    ∙ or_false (list_any (λ g. same_fact g (fact of (what.Channel c))) (grant_facts d.effects.grants))
    ∙ any_map (λ g. same_fact g (fact of (what.Channel c))) (λ (g : Grant). fact g.to (what.Channel g.channel)) (λ (g : Grant). same_grantee g.to of && bytes_eq g.channel c) (λ g. refl) d.effects.grants

pub channel_held : (es : List Entry) (of : Grantee) (c : List ℕ) → is_held es (fact of (what.Channel c)) ≡ (names_channel (principal_of es of) c || is_granted es of c)
channel_held es of c =
    parts es (fact of (what.Channel c))
    ∙ ap (λ (b : Bool). b || list_any (λ d. list_any (λ g. same_fact g (fact of (what.Channel c))) (document_facts (current es d))) (documents es)) (put_channel of (principal_of es of) c)
    ∙ ap (λ (b : Bool). names_channel (principal_of es of) c || b)
    (any_same (λ d. list_any (λ g. same_fact g (fact of (what.Channel c))) (document_facts (current es d))) (λ d. grants_channel (current es d) of c) (λ d. document_channel of (current es d) c) (documents es))

-- roles
put_role : (of : Grantee) (s : Option PrincipalState) (r : List ℕ) → list_any (λ g. same_fact g (fact of (what.Role r))) (put_facts of s) ≡ names_role s r
put_role of None r = refl
put_role of (Some s) r =
    ap (λ (b : Bool). b || list_any (λ g. same_fact g (fact of (what.Role r))) (channel_facts of s.channels ++ role_facts of s.roles)) (and_false (same_grantee of of))
    ∙ any_append (λ g. same_fact g (fact of (what.Role r))) (channel_facts of s.channels) (role_facts of s.roles)
    ∙ ap (λ (b : Bool). b || list_any (λ g. same_fact g (fact of (what.Role r))) (role_facts of s.roles))
    (any_never (λ g. same_fact g (fact of (what.Role r))) (λ c. fact of (what.Channel c)) (λ c. and_false (same_grantee of of)) s.channels)
    ∙ any_map (λ g. same_fact g (fact of (what.Role r))) (λ d. fact of (what.Role d)) (λ d. bytes_eq d r) (λ d. ap (λ (b : Bool). b && bytes_eq d r) (grantee_itself of)) s.roles

document_role : (user : List ℕ) (o : Option Current) (r : List ℕ) → list_any (λ g. same_fact g (fact (User user) (what.Role r))) (document_facts o) ≡ gives_role o user r
document_role user None r = refl
document_role user (Some d) r =
    any_append (λ g. same_fact g (fact (User user) (what.Role r))) (grant_facts d.effects.grants) (gift_facts d.effects.roles)
    ∙ ap (λ (b : Bool). b || list_any (λ g. same_fact g (fact (User user) (what.Role r))) (gift_facts d.effects.roles))
    (any_never (λ g. same_fact g (fact (User user) (what.Role r))) (λ (g : Grant). fact g.to (what.Channel g.channel)) (λ g. and_false (same_grantee g.to (User user))) d.effects.grants)
    ∙ any_map (λ g. same_fact g (fact (User user) (what.Role r))) (λ (g : RoleGrant). fact (User g.user) (what.Role g.role)) (λ (g : RoleGrant). bytes_eq g.user user && bytes_eq g.role r) (λ g. refl) d.effects.roles

pub role_held : (es : List Entry) (user r : List ℕ) → is_held es (fact (User user) (what.Role r)) ≡ (names_role (user_at es user) r || is_given es user r)
role_held es user r =
    parts es (fact (User user) (what.Role r))
    ∙ ap (λ (b : Bool). b || list_any (λ d. list_any (λ g. same_fact g (fact (User user) (what.Role r))) (document_facts (current es d))) (documents es)) (put_role (User user) (user_at es user) r)
    ∙ ap (λ (b : Bool). names_role (user_at es user) r || b)
    (any_same (λ d. list_any (λ g. same_fact g (fact (User user) (what.Role r))) (document_facts (current es d))) (λ d. gives_role (current es d) user r) (λ d. document_role user (current es d) r) (documents es))

-- that it exists
put_exists : (of : Grantee) (s : Option PrincipalState) → list_any (λ g. same_fact g (fact of what.Exists)) (put_facts of s) ≡ exists s
put_exists of None = refl
put_exists of (Some s) = ap (λ (b : Bool). (b && true) || list_any (λ g. same_fact g (fact of what.Exists)) (channel_facts of s.channels ++ role_facts of s.roles)) (grantee_itself of)

document_exists : (of : Grantee) (o : Option Current) → list_any (λ g. same_fact g (fact of what.Exists)) (document_facts o) ≡ false
document_exists of None = refl
document_exists of (Some d) =
    any_append (λ g. same_fact g (fact of what.Exists)) (grant_facts d.effects.grants) (gift_facts d.effects.roles)
    ∙ ap (λ (b : Bool). b || list_any (λ g. same_fact g (fact of what.Exists)) (gift_facts d.effects.roles))
    (any_never (λ g. same_fact g (fact of what.Exists)) (λ (g : Grant). fact g.to (what.Channel g.channel)) (λ g. and_false (same_grantee g.to of)) d.effects.grants)
    ∙ any_never (λ g. same_fact g (fact of what.Exists)) (λ (g : RoleGrant). fact (User g.user) (what.Role g.role)) (λ g. and_false (same_grantee (User g.user) of)) d.effects.roles

none_passes : {X : Type 0} (p : X → Bool) → ((x : X) → p x ≡ false) → (xs : List X) → list_any p xs ≡ false
none_passes p never [] = refl
none_passes p never (x ∷ xs) = ap (λ (b : Bool). b || list_any p xs) (never x) ∙ none_passes p never xs

pub exists_held : (es : List Entry) (of : Grantee) → is_held es (fact of what.Exists) ≡ exists (principal_of es of)
exists_held es of =
    parts es (fact of what.Exists)
    ∙ ap (λ (b : Bool). b || list_any (λ d. list_any (λ g. same_fact g (fact of what.Exists)) (document_facts (current es d))) (documents es)) (put_exists of (principal_of es of))
    ∙ ap (λ (b : Bool). exists (principal_of es of) || b) (none_passes (λ d. list_any (λ g. same_fact g (fact of what.Exists)) (document_facts (current es d))) (λ d. document_exists of (current es d)) (documents es))
    ∙ or_false (exists (principal_of es of))
