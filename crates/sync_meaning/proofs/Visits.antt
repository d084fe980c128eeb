-- A run with more visits does the same, as far as the visits go.
use Rattle.std.proofs.Common.{◌≡◌, ℕ, ◌+◌, ◌-◌, ◌*◌, nat_lt, Bool, true, false, List, [], ◌∷◌, Ok, Err, ◌⊎◌, inl, inr, refl, subst, ap, ◌∙◌, ltb-false, le-ltb, arith}
use Rattle.sync_tokens.specs.declared.place.Place.{Place}
use Rattle.sync_syntax.specs.declared.tree.Program.{Program}
use Rattle.sync_values.specs.declared.callee.Builtin.{Builtin}
use Rattle.sync_values.specs.declared.callee.Builtin.TheVariants as b
use Rattle.sync_values.specs.declared.fault.RuleKind.{RuleKind}
use Rattle.sync_values.specs.declared.fault.RuleKind.TheVariants as rules
use Rattle.sync_values.specs.declared.value.Value.{Value}
use Rattle.sync_values.specs.declared.value.Value.TheVariants as v
use Rattle.sync_values.specs.Found.{Found, type_fault}
use Rattle.sync_values.specs.Values.{found_then, is_list}
use Rattle.sync_meaning.specs.declared.completion.Completion.{Completion}
use Rattle.sync_meaning.specs.declared.effects.Effects.{Effects}
use Rattle.sync_meaning.specs.declared.scope.Scope.{Scope}
use Rattle.sync_meaning.specs.declared.state.Context.{Context}
use Rattle.sync_meaning.specs.declared.state.State.{State}
use Rattle.sync_meaning.specs.Acts.{Act, and_then, in_state, ◌>>=◌, lift, visits, out_of_visits}
use Rattle.sync_meaning.specs.Builtins.{built_in, channel, access, role, require_user, require_role, require_access, require_admin, all_channels, users_in, roles_in, channels_in, grantees_in, add_channels, add_grants, add_roles, with_effects, unless_passing, passes_user, passes_role, passes_access, passes_admin}
use Rattle.sync_meaning.specs.Expressions.{read}
use Rattle.sync_meaning.specs.Statements.{store, run}
use Rattle.sync_meaning.specs.Variables.{top}
use Rattle.sync_meaning.specs.Meaning.{body, begin, depth_for, gathered, meaning_within}
use Rattle.sync_meaning.specs.Laws.{IsOutOfVisits, MoreVisitsChangeNothing}
use Rattle.sync_meaning.proofs.Relations.{Relation, run-related, block-related}

module _ (k : ℕ) where
  -- the same with so many more visits
  abbrev more : State → State
  more s = record s { visits = s.visits + k }

  abbrev shifted : {A : Type 0} → Found (A × State) → Found (A × State)
  shifted (Ok p) = Ok (p.0, more p.1)
  shifted (Err e) = Err e

  -- the second does with more visits what the first does, unless that runs out of visits
  record Goes {A : Type 0} (f g : Act A) : Type 0 where
    from : (s : State) → IsOutOfVisits (f s) ⊎ (g (more s) ≡ shifted (f s))

  bound_at : {A B : Type 0} (r q : Found (A × State)) (h l : A → Act B) → IsOutOfVisits r ⊎ (q ≡ shifted r) → ((a : A) → Goes (h a) (l a))
      → IsOutOfVisits (and_then r h) ⊎ (and_then q l ≡ shifted (and_then r h))
  bound_at (Ok p) q h l (inl o) hl = absurd o
  bound_at (Ok p) q h l (inr e) hl = elim ((hl p.0).from p.1) [ inl o ↦ inl o | inr x ↦ inr (ap (λ r. and_then r l) e ∙ x) ]
  bound_at (Err e) q h l (inl o) hl = inl o
  bound_at (Err e) q h l (inr x) hl = inr (ap (λ r. and_then r l) x)

  bound : {A B : Type 0} (f g : Act A) (h l : A → Act B) → Goes f g → ((a : A) → Goes (h a) (l a)) → Goes (f >>= h) (g >>= l)
  bound f g h l fg hl = record { from = λ s. bound_at (f s) (g (more s)) h l (fg.from s) hl }

  lifted_at : {A : Type 0} (r : Found A) (s : State) → in_state r (more s) ≡ shifted (in_state r s)
  lifted_at (Ok a) s = refl
  lifted_at (Err e) s = refl

  lifted : {A : Type 0} (r : Found A) → Goes (lift r) (lift r)
  lifted r = record { from = λ s. inr (lifted_at r s) }

  visited_at : (n : ℕ) (p : Place) (s : State) (c : Bool) → nat_lt s.visits n ≡ c → IsOutOfVisits (visits n p s) ⊎ (visits n p (more s) ≡ shifted (visits n p s))
  unfolding visits
  visited_at n p s true h = rw h (inl (p, refl))
  visited_at n p s false h =
      let enough : nat_lt (s.visits + k) n ≡ false = le-ltb (s.visits + k) n (omega (arith, ltb-false s.visits n h)) in
      let left : (s.visits + k) - n ≡ (s.visits - n) + k = omega (arith, ltb-false s.visits n h) in
      rw (h, enough) (inr (ap (λ m. Ok (tt, record s { visits = m })) left))

  visited : (n : ℕ) (p : Place) → Goes (visits n p) (visits n p)
  visited n p = record { from = λ s. visited_at n p s (nat_lt s.visits n) refl }

  seen : (scope : Scope) (name : List ℕ) → Goes (read scope name) (read scope name)
  unfolding read
  seen scope name = record { from = λ s. inr refl }

  stored : (name : List ℕ) (number : ℕ) (x : Value) → Goes (store name number x) (store name number x)
  unfolding store
  stored name number x = record { from = λ s. inr refl }

  out : {A : Type 0} (p : Place) (g : Act A) → Goes (out_of_visits p) g
  out p g = record { from = λ s. inl (p, refl) }

  counted : {A : Type 0} (f g : ℕ → Act A) → ((n j : ℕ) → Goes (f n) (g (n + j))) → Goes (λ s. f (s.visits + 1) s) (λ s. g (s.visits + 1) s)
  counted f g fg = record {
    from = λ s.
        let e : (s.visits + 1) + k ≡ (s.visits + k) + 1 = omega arith in
        subst (λ n. IsOutOfVisits (f (s.visits + 1) s) ⊎ (g n (more s) ≡ shifted (f (s.visits + 1) s))) e ((fg (s.visits + 1) k).from s);
  }

  found : {A B : Type 0} (r : Found A) (h : A → Act B) → ((a : A) → Goes (h a) (h a)) → Goes (λ s. found_then r (λ a. h a s)) (λ s. found_then r (λ a. h a s))
  found (Ok a) h hh = hh a
  found (Err e) h hh = record { from = λ s. inr refl }

  kept_at : (q : Found Effects) (s : State) → found_then q (with_effects (more s)) ≡ shifted (found_then q (with_effects s))
  kept_at (Ok e) s = refl
  kept_at (Err e) s = refl

  kept : (f : Effects → Found Effects) → Goes (λ s. found_then (f s.effects) (with_effects s)) (λ s. found_then (f s.effects) (with_effects s))
  kept f = record { from = λ s. inr (kept_at (f s.effects) s) }

  passed_at : (c : Bool) (kind : RuleKind) (p : Place) (s : State) → unless_passing c kind p (more s) ≡ shifted (unless_passing c kind p s)
  passed_at true kind p s = refl
  passed_at false kind p s = refl

  passed : (f : Context → Bool) (kind : RuleKind) (p : Place) → Goes (λ s. unless_passing (f s.context) kind p s) (λ s. unless_passing (f s.context) kind p s)
  passed f kind p = record { from = λ s. inr (passed_at (f s.context) kind p s) }

  channel-goes : (p : Place) (xs : List Value) → Goes (channel p xs) (channel p xs)
  unfolding channel
  channel-goes p xs = found (all_channels p [] xs) (λ cs s. found_then (add_channels p cs s.effects) (with_effects s)) (λ cs. kept (add_channels p cs))

  access-goes : (p : Place) (x y : Value) → Goes (access p x y) (access p x y)
  unfolding access
  access-goes p x y =
      found (grantees_in p x) (λ tos s. found_then (channels_in p y) (λ cs. found_then (add_grants p tos cs s.effects) (with_effects s)))
      (λ tos. found (channels_in p y) (λ cs s. found_then (add_grants p tos cs s.effects) (with_effects s)) (λ cs. kept (add_grants p tos cs)))

  role-goes : (p : Place) (x y : Value) → Goes (role p x y) (role p x y)
  unfolding role
  role-goes p x y =
      found (users_in p x) (λ users s. found_then (roles_in p y) (λ roles. found_then (add_roles p users roles s.effects) (with_effects s)))
      (λ users. found (roles_in p y) (λ roles s. found_then (add_roles p users roles s.effects) (with_effects s)) (λ roles. kept (add_roles p users roles)))

  user-goes : (p : Place) (x : Value) → Goes (require_user p x) (require_user p x)
  unfolding require_user
  user-goes p x = found (users_in p x) (λ names s. unless_passing (passes_user s.context names) rules.User p s) (λ names. passed (λ c. passes_user c names) rules.User p)

  role_required-goes : (p : Place) (x : Value) → Goes (require_role p x) (require_role p x)
  unfolding require_role
  role_required-goes p x = found (roles_in p x) (λ roles s. unless_passing (passes_role s.context roles) rules.Role p s) (λ roles. passed (λ c. passes_role c roles) rules.Role p)

  access_required-goes : (p : Place) (x : Value) → Goes (require_access p x) (require_access p x)
  unfolding require_access
  access_required-goes p x = found (channels_in p x) (λ cs s. unless_passing (passes_access s.context cs) rules.Access p s) (λ cs. passed (λ c. passes_access c cs) rules.Access p)

  admin-goes : (p : Place) → Goes (require_admin p) (require_admin p)
  unfolding require_admin
  admin-goes p = passed passes_admin rules.Admin p

  built : (p : Place) (f : Builtin) (xs : List Value) → Goes (built_in p f xs) (built_in p f xs)
  built p b.Channel (x ∷ xs) = channel-goes p (x ∷ xs)
  built p b.Access (x ∷ y ∷ []) = access-goes p x y
  built p b.Role (x ∷ y ∷ []) = role-goes p x y
  built p b.RequireUser (x ∷ []) = user-goes p x
  built p b.RequireRole (x ∷ []) = role_required-goes p x
  built p b.RequireAccess (x ∷ []) = access_required-goes p x
  built p b.RequireAdmin [] = admin-goes p
  built p b.IsArray (x ∷ []) = lifted (Ok (v.Bool (is_list x)))
  built p _ _ = lifted (type_fault p)

  abbrev rules_of : Relation
  rules_of = record { R = Goes; bound = bound; lifted = lifted; visited = visited; seen = seen; stored = stored; built = built; out = out; counted = counted }

  body-goes : (n j : ℕ) (p : Program) → Goes (body n p) (body (n + j) p)
  unfolding body
  body-goes n j p =
      block-related rules_of n j (run n) (run (n + j))
      (λ scope x. run-related rules_of n j scope x) top p.place p.body

  gathered_at : (r q : Found (Completion × State)) → IsOutOfVisits r ⊎ (q ≡ shifted r) → ¬ IsOutOfVisits (found_then r gathered) → found_then q gathered ≡ found_then r gathered
  gathered_at (Ok p) q (inl o) reached = absurd o
  gathered_at (Ok p) q (inr e) reached = ap (λ r. found_then r gathered) e
  gathered_at (Err e) q (inl o) reached = absurd (reached o)
  gathered_at (Err e) q (inr x) reached = ap (λ r. found_then r gathered) x

pub more_visits : MoreVisitsChangeNothing
unfolding meaning_within
more_visits few more p doc old context reached =
    let deep : depth_for few + 2 * more ≡ depth_for (few + more) = omega arith in
    gathered_at more (body (depth_for few) p (begin few p doc old context)) (body (depth_for (few + more)) p (begin (few + more) p doc old context))
    (subst (λ n. IsOutOfVisits (body (depth_for few) p (begin few p doc old context)) ⊎ (body n p (begin (few + more) p doc old context) ≡ shifted more (body (depth_for few) p (begin few p doc old context)))) deep
    ((body-goes more (depth_for few) (2 * more) p).from (begin few p doc old context))) reached
