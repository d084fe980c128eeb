-- Two runs whose places alone are different: what each operator, method and function gives is the same but for the place.
use Rattle.std.proofs.Common.{◌≡◌, ℕ, ◌+◌, ℤ, Bool, true, false, not, ◌&&◌, ◌||◌, cond, nat_lt, List, [], ◌∷◌, ◌++◌, length, Option, Some, None, Ok, Err, Ordering, refl, sym, ap, ◌∙◌}
use Rattle.std.specs.Ordering.{is_lt, is_gt}
use Rattle.json_doc.specs.Reading.{is_safe}
use Rattle.sg_names.specs.Grammar.{is_name, is_channel_name}
use Rattle.sg_names.specs.Grants.{is_grantee}
use Rattle.sg_names.specs.declared.grants.Grantee.{Grantee}
use Rattle.sync_tokens.specs.declared.place.Place.{Place}
use Rattle.sync_syntax.specs.declared.tree.Operator.{Operator}
use Rattle.sync_syntax.specs.declared.tree.Operator.TheVariants as op
use Rattle.sync_syntax.specs.declared.tree.Prefix.{Prefix}
use Rattle.sync_syntax.specs.declared.tree.Prefix.TheVariants as prefix
use Rattle.sync_values.specs.declared.callee.Builtin.{Builtin}
use Rattle.sync_values.specs.declared.callee.Builtin.TheVariants as b
use Rattle.sync_values.specs.declared.callee.Method.{Method}
use Rattle.sync_values.specs.declared.callee.Method.TheVariants as m
use Rattle.sync_values.specs.declared.callee.Target.{Target}
use Rattle.sync_values.specs.declared.callee.Target.TheVariants as t
use Rattle.sync_values.specs.declared.fault.FaultKind.TheVariants.{Size, BadName, Range}
use Rattle.sync_values.specs.declared.fault.RuleKind.{RuleKind}
use Rattle.sync_values.specs.declared.fault.RuleKind.TheVariants as rules
use Rattle.sync_values.specs.declared.fault.Stop.{Stop}
use Rattle.sync_values.specs.declared.value.Value.{Value, out-Value}
use Rattle.sync_values.specs.declared.value.Value.TheOpen.{Value-F}
use Rattle.sync_values.specs.declared.value.Value.TheVariants as v
use Rattle.sync_values.specs.Found.{Found, fails, type_fault, denial}
use Rattle.sync_values.specs.Values.{Layer, found_then, truth_at, truth, bounded, joined_texts, added_at, added_values, integer_at, integer_in, calculated, negated, compared_at, compared, is_nothing, is_alike, same, loosely_equal, cannot_equal, strictly_equal, truth_value, not_that, ordered, combined, prefixed, member_at, member, indexed_at, indexed, listed_values, index_at, index_of, concat_at, concat, begins_at, text_begins_with, can_be_sought, by_method}
use Rattle.sync_meaning.specs.declared.effects.Effects.{Effects}
use Rattle.sync_meaning.specs.declared.state.State.{State}
use Rattle.sync_meaning.specs.Builtins.{texts_or, texts_in, argument_at, one, named_from, named, names_in, itself, bare_role, grantee_of, users_in, roles_in, channels_in, grantees_in, all_channels, within_limits, effect_count, add_channel, add_grant, add_role, for_each, add_channels, add_grants_to, add_grants, add_roles_to, add_roles, with_effects, unless_passing, passes_user, passes_role, passes_access, passes_admin, channel, access, role, require_user, require_role, require_access, require_admin, built_in}
use Rattle.sync_meaning.specs.Expressions.{as_value}
use Rattle.sync_meaning.specs.Statements.{items_at, items_in, one_more, forbidden_in, thrown_by, thrown}
use Rattle.sync_meaning.specs.Laws.{placeless_stop, placeless}

-- the same but for the place
abbrev pub Alike : {A : Type 0} → Found A → Found A → Type 0
Alike r q = placeless r ≡ placeless q

value_of_ok : {A : Type 0} → A → Found A → A
value_of_ok a (Ok c) = c
value_of_ok a (Err e) = a

pub same_ok : {A : Type 0} (a c : A) → placeless (Ok a) ≡ placeless (Ok c) → a ≡ c
unfolding value_of_ok
same_ok a c e = ap (value_of_ok a) e

stop_of_err : {A : Type 0} → Stop → Found A → Stop
stop_of_err x (Ok a) = x
stop_of_err x (Err y) = y

pub same_err : {A : Type 0} (x y : Stop) → placeless {A = A} (Err x) ≡ placeless (Err y) → placeless_stop x ≡ placeless_stop y
unfolding stop_of_err
same_err x y e = ap (stop_of_err x) e

is_found : {A : Type 0} → Found A → Bool
is_found (Ok a) = true
is_found (Err e) = false

pub no_ok : {A : Type 0} (a : A) (x : Stop) → placeless (Ok a) ≡ placeless (Err x) → ⊥
unfolding is_found
no_ok a x e = let no : true ≡ false = ap is_found e in absurd cc

pub then_alike : {A B : Type 0} (r q : Found A) (h l : A → Found B) → Alike r q → ((a : A) → Alike (h a) (l a)) → Alike (found_then r h) (found_then q l)
then_alike (Ok a) (Ok c) h l e hl = hl a ∙ ap (λ z. placeless (l z)) (same_ok a c e)
then_alike (Ok a) (Err y) h l e hl = absurd (no_ok a y e)
then_alike (Err x) (Ok c) h l e hl = absurd (no_ok c x (sym e))
then_alike {A = A} (Err x) (Err y) h l e hl = ap Err (same_err {A = A} x y e)

if_alike : {A : Type 0} (c : Bool) (r s q u : Found A) → Alike r q → Alike s u → Alike (cond c r s) (cond c q u)
if_alike true r s q u x y = x
if_alike false r s q u x y = y

-- ---- operators

module _ (p q : Place) where
  truth_at-alike : (l : Layer) → Alike (truth_at p l) (truth_at q l)
  truth_at-alike Value-F.Opaque = refl
  truth_at-alike Value-F.Undefined = refl
  truth_at-alike Value-F.Null = refl
  truth_at-alike (Value-F.Bool b) = refl
  truth_at-alike (Value-F.Integer z) = refl
  truth_at-alike (Value-F.Text x) = refl
  truth_at-alike (Value-F.List xs) = refl
  truth_at-alike (Value-F.Object ms) = refl

  pub truth-alike : (x : Value) → Alike (truth p x) (truth q x)
  unfolding truth
  truth-alike x = truth_at-alike (out-Value x)

  pub bounded-alike : (z : ℤ) → Alike (bounded p z) (bounded q z)
  unfolding bounded
  bounded-alike z = if_alike (is_safe z) (Ok (v.Integer z)) (fails Range p) (Ok (v.Integer z)) (fails Range q) refl refl

  joined-alike : (x y : List ℕ) → Alike (joined_texts p x y) (joined_texts q x y)
  unfolding joined_texts
  joined-alike x y = if_alike (nat_lt 4096 (length x + length y)) (fails Size p) (Ok (v.Text (x ++ y))) (fails Size q) (Ok (v.Text (x ++ y))) refl refl

  added_at-alike : (l k : Layer) → Alike (added_at p l k) (added_at q l k)
  added_at-alike (Value-F.Integer x) (Value-F.Integer y) = bounded-alike _
  added_at-alike (Value-F.Text x) (Value-F.Text y) = joined-alike x y
  added_at-alike (Value-F.Text x) (Value-F.Integer y) = joined-alike x _
  added_at-alike (Value-F.Integer x) (Value-F.Text y) = joined-alike _ y
  added_at-alike _ _ = refl

  pub added-alike : (x y : Value) → Alike (added_values p x y) (added_values q x y)
  unfolding added_values
  added-alike x y = added_at-alike (out-Value x) (out-Value y)

  integer_at-alike : (l : Layer) → Alike (integer_at p l) (integer_at q l)
  integer_at-alike (Value-F.Integer z) = refl
  integer_at-alike _ = refl

  integer_in-alike : (x : Value) → Alike (integer_in p x) (integer_in q x)
  unfolding integer_in
  integer_in-alike x = integer_at-alike (out-Value x)

  pub calculated-alike : (f : ℤ → ℤ → ℤ) (x y : Value) → Alike (calculated p f x y) (calculated q f x y)
  unfolding calculated
  calculated-alike f x y =
      then_alike (integer_in p x) (integer_in q x) (λ a. found_then (integer_in p y) (λ c. bounded p (f a c))) (λ a. found_then (integer_in q y) (λ c. bounded q (f a c))) (integer_in-alike x)
      (λ a. then_alike (integer_in p y) (integer_in q y) (λ c. bounded p (f a c)) (λ c. bounded q (f a c)) (integer_in-alike y) (λ c. bounded-alike (f a c)))

  negated-alike : (x : Value) → Alike (negated p x) (negated q x)
  unfolding negated
  negated-alike x = then_alike (integer_in p x) (integer_in q x) _ _ (integer_in-alike x) (λ z. bounded-alike _)

  pub one_more-alike : (x : Value) (by : ℤ) → Alike (one_more p x by) (one_more q x by)
  one_more-alike x by = then_alike (integer_in p x) (integer_in q x) _ _ (integer_in-alike x) (λ z. bounded-alike _)

  compared_at-alike : (l k : Layer) → Alike (compared_at p l k) (compared_at q l k)
  compared_at-alike (Value-F.Integer x) (Value-F.Integer y) = refl
  compared_at-alike (Value-F.Text x) (Value-F.Text y) = refl
  compared_at-alike _ _ = refl

  compared-alike : (x y : Value) → Alike (compared p x y) (compared q x y)
  unfolding compared
  compared-alike x y = compared_at-alike (out-Value x) (out-Value y)

  loosely-alike : (x y : Value) → Alike (loosely_equal p x y) (loosely_equal q x y)
  unfolding loosely_equal
  loosely-alike x y =
      if_alike (is_nothing x || is_nothing y) (Ok (is_nothing x && is_nothing y)) (cond (is_alike x y) (Ok (same x y)) (type_fault p)) (Ok (is_nothing x && is_nothing y)) (cond (is_alike x y) (Ok (same x y)) (type_fault q))
      refl (if_alike (is_alike x y) (Ok (same x y)) (type_fault p) (Ok (same x y)) (type_fault q) refl refl)

  strictly-alike : (x y : Value) → Alike (strictly_equal p x y) (strictly_equal q x y)
  unfolding strictly_equal
  strictly-alike x y = if_alike (cannot_equal x y) (type_fault p) (Ok (same x y)) (type_fault q) (Ok (same x y)) refl refl

  pub truth_value-alike : (r u : Found Bool) → Alike r u → Alike (truth_value r) (truth_value u)
  truth_value-alike r u e = then_alike r u (λ c. Ok (v.Bool c)) (λ c. Ok (v.Bool c)) e (λ c. refl)

  not_that-alike : (r u : Found Bool) → Alike r u → Alike (not_that r) (not_that u)
  not_that-alike r u e = then_alike r u (λ c. Ok (v.Bool (not c))) (λ c. Ok (v.Bool (not c))) e (λ c. refl)

  ordered-alike : (holds : Ordering → Bool) (x y : Value) → Alike (ordered p holds x y) (ordered q holds x y)
  ordered-alike holds x y = then_alike (compared p x y) (compared q x y) (λ o. Ok (v.Bool (holds o))) (λ o. Ok (v.Bool (holds o))) (compared-alike x y) (λ o. refl)

  pub combined-alike : (o : Operator) (x y : Value) → Alike (combined p o x y) (combined q o x y)
  combined-alike op.Add x y = added-alike x y
  combined-alike op.Subtract x y = calculated-alike _ x y
  combined-alike op.Multiply x y = calculated-alike _ x y
  combined-alike op.Less x y = ordered-alike is_lt x y
  combined-alike op.LessOrEqual x y = ordered-alike (λ o. not (is_gt o)) x y
  combined-alike op.Greater x y = ordered-alike is_gt x y
  combined-alike op.GreaterOrEqual x y = ordered-alike (λ o. not (is_lt o)) x y
  combined-alike op.Equal x y = truth_value-alike _ _ (loosely-alike x y)
  combined-alike op.NotEqual x y = not_that-alike _ _ (loosely-alike x y)
  combined-alike op.Same x y = truth_value-alike _ _ (strictly-alike x y)
  combined-alike op.NotSame x y = not_that-alike _ _ (strictly-alike x y)
  combined-alike op.Or x y = refl
  combined-alike op.And x y = refl

  pub prefixed-alike : (o : Prefix) (x : Value) → Alike (prefixed p o x) (prefixed q o x)
  prefixed-alike prefix.Not x = not_that-alike _ _ (truth-alike x)
  prefixed-alike prefix.Negate x = negated-alike x
  prefixed-alike prefix.Typeof x = refl

  -- ---- members and methods

  member_at-alike : (name : List ℕ) (l : Layer) → Alike (member_at p name l) (member_at q name l)
  member_at-alike name Value-F.Undefined = refl
  member_at-alike name Value-F.Null = refl
  member_at-alike name (Value-F.Object ms) = refl
  member_at-alike name (Value-F.List xs) = refl
  member_at-alike name (Value-F.Text x) = refl
  member_at-alike name _ = refl

  pub member-alike : (name : List ℕ) (x : Value) → Alike (member p name x) (member q name x)
  unfolding member
  member-alike name x = member_at-alike name (out-Value x)

  indexed_at-alike : (l i : Layer) → Alike (indexed_at p l i) (indexed_at q l i)
  indexed_at-alike Value-F.Undefined i = refl
  indexed_at-alike Value-F.Null i = refl
  indexed_at-alike (Value-F.Object ms) (Value-F.Text x) = refl
  indexed_at-alike (Value-F.List xs) (Value-F.Integer z) = refl
  indexed_at-alike _ i = refl

  pub indexed-alike : (x i : Value) → Alike (indexed p x i) (indexed q x i)
  unfolding indexed
  indexed-alike x i = indexed_at-alike (out-Value x) (out-Value i)

  pub listed-alike : (xs : List Value) → Alike (listed_values p xs) (listed_values q xs)
  unfolding listed_values
  listed-alike xs = if_alike (nat_lt 1024 (length xs)) (fails Size p) (Ok (v.List xs)) (fails Size q) (Ok (v.List xs)) refl refl

  index_at-alike : (l : Layer) (x : Value) → Alike (index_at p l x) (index_at q l x)
  index_at-alike (Value-F.List xs) x = if_alike (can_be_sought x) _ (type_fault p) _ (type_fault q) refl refl
  index_at-alike _ x = refl

  index_of-alike : (x y : Value) → Alike (index_of p x y) (index_of q x y)
  unfolding index_of
  index_of-alike x y = index_at-alike (out-Value x) y

  concat_at-alike : (l k : Layer) → Alike (concat_at p l k) (concat_at q l k)
  concat_at-alike (Value-F.List xs) (Value-F.List ys) = listed-alike (xs ++ ys)
  concat_at-alike _ _ = refl

  concat-alike : (x y : Value) → Alike (concat p x y) (concat q x y)
  unfolding concat
  concat-alike x y = concat_at-alike (out-Value x) (out-Value y)

  begins_at-alike : (l k : Layer) → Alike (begins_at p l k) (begins_at q l k)
  begins_at-alike (Value-F.Text x) (Value-F.Text y) = refl
  begins_at-alike _ _ = refl

  begins-alike : (x y : Value) → Alike (text_begins_with p x y) (text_begins_with q x y)
  unfolding text_begins_with
  begins-alike x y = begins_at-alike (out-Value x) (out-Value y)

  pub by_method-alike : (how : Method) (x : Value) (ys : List Value) → Alike (by_method p how x ys) (by_method q how x ys)
  by_method-alike m.IndexOf x (y ∷ []) = index_of-alike x y
  by_method-alike m.Concat x (y ∷ []) = concat-alike x y
  by_method-alike m.StartsWith x (y ∷ []) = begins-alike x y
  by_method-alike _ x _ = refl

  pub as_value-alike : (x : Target) → Alike (as_value p x) (as_value q x)
  as_value-alike (t.Value x) = refl
  as_value-alike _ = refl

  items_at-alike : (l : Layer) → Alike (items_at p l) (items_at q l)
  items_at-alike (Value-F.List xs) = refl
  items_at-alike _ = refl

  pub items_in-alike : (x : Value) → Alike (items_in p x) (items_in q x)
  unfolding items_in
  items_in-alike x = items_at-alike (out-Value x)

  thrown_by-alike : (x : Option (List ℕ)) → placeless_stop (thrown_by p x) ≡ placeless_stop (thrown_by q x)
  thrown_by-alike (Some x) = refl
  thrown_by-alike None = refl

  pub thrown-alike : {A : Type 0} (x : Value) → Alike {A = A} (Err (thrown p x)) (Err (thrown q x))
  unfolding thrown
  thrown-alike x = ap Err (thrown_by-alike (forbidden_in x))

  -- ---- arguments and effects

  texts_or-alike : (x : Option (List (List ℕ))) → Alike (texts_or p x) (texts_or q x)
  texts_or-alike (Some ts) = refl
  texts_or-alike None = refl

  texts_in-alike : (x : Value) → Alike (texts_in p x) (texts_in q x)
  unfolding texts_in
  texts_in-alike x = texts_or-alike (argument_at (out-Value x))

  one-alike : {A : Type 0} (f : List ℕ → A) (is : A → Bool) (x : List ℕ) → Alike (one p f is x) (one q f is x)
  one-alike f is x = if_alike (is (f x)) (Ok (f x)) (fails BadName p) (Ok (f x)) (fails BadName q) refl refl

  named_from-alike : {A : Type 0} (f : List ℕ → A) (is : A → Bool) (found : List A) (ts : List (List ℕ)) → Alike (named_from p f is found ts) (named_from q f is found ts)
  named_from-alike f is found [] = refl
  named_from-alike f is found (x ∷ xs) =
      then_alike (one p f is x) (one q f is x) (λ a. named_from p f is (found ++ a ∷ []) xs) (λ a. named_from q f is (found ++ a ∷ []) xs) (one-alike f is x) (λ a. named_from-alike f is (found ++ a ∷ []) xs)

  names_in-alike : {A : Type 0} (f : List ℕ → A) (is : A → Bool) (x : Value) → Alike (names_in p f is x) (names_in q f is x)
  names_in-alike f is x = then_alike (texts_in p x) (texts_in q x) (named p f is) (named q f is) (texts_in-alike x) (λ ts. named_from-alike f is [] ts)

  users-alike : (x : Value) → Alike (users_in p x) (users_in q x)
  unfolding users_in
  users-alike x = names_in-alike itself is_name x

  roles-alike : (x : Value) → Alike (roles_in p x) (roles_in q x)
  unfolding roles_in
  roles-alike x = names_in-alike bare_role is_name x

  channels-alike : (x : Value) → Alike (channels_in p x) (channels_in q x)
  unfolding channels_in
  channels-alike x = names_in-alike itself is_channel_name x

  grantees-alike : (x : Value) → Alike (grantees_in p x) (grantees_in q x)
  unfolding grantees_in
  grantees-alike x = names_in-alike grantee_of is_grantee x

  all_channels-alike : (found : List (List ℕ)) (xs : List Value) → Alike (all_channels p found xs) (all_channels q found xs)
  all_channels-alike found [] = refl
  all_channels-alike found (x ∷ xs) =
      then_alike (channels_in p x) (channels_in q x) (λ cs. all_channels p (found ++ cs) xs) (λ cs. all_channels q (found ++ cs) xs) (channels-alike x) (λ cs. all_channels-alike (found ++ cs) xs)

  within-alike : (e : Effects) → Alike (within_limits p e) (within_limits q e)
  unfolding within_limits
  within-alike e = if_alike (nat_lt 1000 (effect_count e)) (fails Size p) (Ok e) (fails Size q) (Ok e) refl refl

  add_channel-alike : (c : List ℕ) (e : Effects) → Alike (add_channel p c e) (add_channel q c e)
  unfolding add_channel
  add_channel-alike c e = within-alike _

  add_grant-alike : (to : Grantee) (c : List ℕ) (e : Effects) → Alike (add_grant p to c e) (add_grant q to c e)
  unfolding add_grant
  add_grant-alike to c e = within-alike _

  add_role-alike : (user to : List ℕ) (e : Effects) → Alike (add_role p user to e) (add_role q user to e)
  unfolding add_role
  add_role-alike user to e = within-alike _

  for_each-alike : {X : Type 0} (f g : X → Effects → Found Effects) → ((x : X) (e : Effects) → Alike (f x e) (g x e)) → (xs : List X) (e : Effects) → Alike (for_each f xs e) (for_each g xs e)
  for_each-alike f g fg [] e = refl
  for_each-alike f g fg (x ∷ xs) e = then_alike (f x e) (g x e) (for_each f xs) (for_each g xs) (fg x e) (λ d. for_each-alike f g fg xs d)

  add_channels-alike : (cs : List (List ℕ)) (e : Effects) → Alike (add_channels p cs e) (add_channels q cs e)
  unfolding add_channels
  add_channels-alike cs e = for_each-alike (add_channel p) (add_channel q) (λ c d. add_channel-alike c d) cs e

  add_grants_to-alike : (cs : List (List ℕ)) (to : Grantee) (e : Effects) → Alike (add_grants_to p cs to e) (add_grants_to q cs to e)
  unfolding add_grants_to
  add_grants_to-alike cs to e = for_each-alike (add_grant p to) (add_grant q to) (λ c d. add_grant-alike to c d) cs e

  add_grants-alike : (tos : List Grantee) (cs : List (List ℕ)) (e : Effects) → Alike (add_grants p tos cs e) (add_grants q tos cs e)
  unfolding add_grants
  add_grants-alike tos cs e = for_each-alike (add_grants_to p cs) (add_grants_to q cs) (λ to d. add_grants_to-alike cs to d) tos e

  add_roles_to-alike : (roles : List (List ℕ)) (user : List ℕ) (e : Effects) → Alike (add_roles_to p roles user e) (add_roles_to q roles user e)
  unfolding add_roles_to
  add_roles_to-alike roles user e = for_each-alike (add_role p user) (add_role q user) (λ to d. add_role-alike user to d) roles e

  add_roles-alike : (users roles : List (List ℕ)) (e : Effects) → Alike (add_roles p users roles e) (add_roles q users roles e)
  unfolding add_roles
  add_roles-alike users roles e = for_each-alike (add_roles_to p roles) (add_roles_to q roles) (λ user d. add_roles_to-alike roles user d) users e

  -- ---- functions, in a state

  with_alike : (r u : Found Effects) (s : State) → Alike r u → Alike (found_then r (with_effects s)) (found_then u (with_effects s))
  with_alike r u s e = then_alike r u (with_effects s) (with_effects s) e (λ d. refl)

  passing-alike : (c : Bool) (kind : RuleKind) (s : State) → Alike (unless_passing c kind p s) (unless_passing c kind q s)
  passing-alike c kind s = if_alike c (Ok (v.Undefined, s)) (Err (denial kind p)) (Ok (v.Undefined, s)) (Err (denial kind q)) refl refl

  channel-alike : (xs : List Value) (s : State) → Alike (channel p xs s) (channel q xs s)
  unfolding channel
  channel-alike xs s = then_alike (all_channels p [] xs) (all_channels q [] xs) _ _ (all_channels-alike [] xs) (λ cs. with_alike _ _ s (add_channels-alike cs s.effects))

  access-alike : (x y : Value) (s : State) → Alike (access p x y s) (access q x y s)
  unfolding access
  access-alike x y s =
      then_alike (grantees_in p x) (grantees_in q x) _ _ (grantees-alike x) (λ tos.
      then_alike (channels_in p y) (channels_in q y) _ _ (channels-alike y) (λ cs. with_alike _ _ s (add_grants-alike tos cs s.effects)))

  role-alike : (x y : Value) (s : State) → Alike (role p x y s) (role q x y s)
  unfolding role
  role-alike x y s =
      then_alike (users_in p x) (users_in q x) _ _ (users-alike x) (λ users.
      then_alike (roles_in p y) (roles_in q y) _ _ (roles-alike y) (λ roles. with_alike _ _ s (add_roles-alike users roles s.effects)))

  user-alike : (x : Value) (s : State) → Alike (require_user p x s) (require_user q x s)
  unfolding require_user
  user-alike x s = then_alike (users_in p x) (users_in q x) _ _ (users-alike x) (λ names. passing-alike (passes_user s.context names) rules.User s)

  role_required-alike : (x : Value) (s : State) → Alike (require_role p x s) (require_role q x s)
  unfolding require_role
  role_required-alike x s = then_alike (roles_in p x) (roles_in q x) _ _ (roles-alike x) (λ roles. passing-alike (passes_role s.context roles) rules.Role s)

  access_required-alike : (x : Value) (s : State) → Alike (require_access p x s) (require_access q x s)
  unfolding require_access
  access_required-alike x s = then_alike (channels_in p x) (channels_in q x) _ _ (channels-alike x) (λ cs. passing-alike (passes_access s.context cs) rules.Access s)

  admin-alike : (s : State) → Alike (require_admin p s) (require_admin q s)
  unfolding require_admin
  admin-alike s = passing-alike (passes_admin s.context) rules.Admin s

  pub built_in-alike : (f : Builtin) (xs : List Value) (s : State) → Alike (built_in p f xs s) (built_in q f xs s)
  built_in-alike b.Channel (x ∷ xs) s = channel-alike (x ∷ xs) s
  built_in-alike b.Access (x ∷ y ∷ []) s = access-alike x y s
  built_in-alike b.Role (x ∷ y ∷ []) s = role-alike x y s
  built_in-alike b.RequireUser (x ∷ []) s = user-alike x s
  built_in-alike b.RequireRole (x ∷ []) s = role_required-alike x s
  built_in-alike b.RequireAccess (x ∷ []) s = access_required-alike x s
  built_in-alike b.RequireAdmin [] s = admin-alike s
  built_in-alike b.IsArray (x ∷ []) s = refl
  built_in-alike _ _ s = refl
