-- Two runs of one program are related, step by step, where their steps are.
use Rattle.std.proofs.Common.{◌≡◌, ℕ, zero, suc, ◌+◌, ℤ, pos, negsuc, Bool, true, false, cond, List, [], ◌∷◌, ◌++◌, length, Option, Some, None, Ok, Err, subst, arith}
use Rattle.sync_tokens.specs.declared.place.Place.{Place}
use Rattle.sync_syntax.specs.declared.tree.Declares.{Declares}
use Rattle.sync_syntax.specs.declared.tree.Declares.TheVariants.{Var, Let, Const}
use Rattle.sync_syntax.specs.declared.tree.Declaration.{Declaration}
use Rattle.sync_syntax.specs.declared.tree.Expr.{Expr, out-Expr}
use Rattle.sync_syntax.specs.declared.tree.Expr.TheOpen.{Expr-F, Suffix-F}
use Rattle.sync_syntax.specs.declared.tree.Named.{Named}
use Rattle.sync_syntax.specs.declared.tree.Operator.{Operator}
use Rattle.sync_syntax.specs.declared.tree.Operator.TheVariants as op
use Rattle.sync_syntax.specs.declared.tree.Prefix.{Prefix}
use Rattle.sync_syntax.specs.declared.tree.Simple.{Simple}
use Rattle.sync_syntax.specs.declared.tree.Simple.TheVariants as simples
use Rattle.sync_syntax.specs.declared.tree.Start.{Start}
use Rattle.sync_syntax.specs.declared.tree.Start.TheVariants as starts
use Rattle.sync_syntax.specs.declared.tree.Statement.{Statement, out-Statement}
use Rattle.sync_syntax.specs.declared.tree.Statement.TheOpen.{Statement-F}
use Rattle.sync_syntax.specs.declared.tree.Suffix.{Suffix, out-Suffix}
use Rattle.sync_syntax.specs.declared.tree.Writes.TheVariants as writes
use Rattle.sync_values.specs.declared.callee.Builtin.{Builtin}
use Rattle.sync_values.specs.declared.callee.Builtin.TheVariants.{IsArray}
use Rattle.sync_values.specs.declared.callee.Target.{Target}
use Rattle.sync_values.specs.declared.callee.Target.TheVariants as t
use Rattle.sync_values.specs.declared.value.Value.{Value}
use Rattle.sync_values.specs.declared.value.Value.TheVariants as v
use Rattle.sync_values.specs.Found.{Found, type_fault}
use Rattle.sync_values.specs.Values.{truth, combined, prefixed, member, indexed, listed_values, same_truth, added_values, by_method}
use Rattle.sync_meaning.specs.declared.completion.Completion.{Completion}
use Rattle.sync_meaning.specs.declared.completion.Completion.TheVariants.{Normal, Break, Continue, Return}
use Rattle.sync_meaning.specs.declared.scope.Scope.{Scope}
use Rattle.sync_meaning.specs.Acts.{Act, ◌>>=◌, pure, lift, visits, out_of_visits}
use Rattle.sync_meaning.specs.Variables.{new_number, declared, started, behind}
use Rattle.sync_meaning.specs.Builtins.{built_in}
use Rattle.sync_meaning.specs.Expressions.{place_of, called_by, method_of, is_called, calls_is_array, without_first, node_count, as_value, read, name, literal, call_by, member_or_method, ExprLayer, SuffixLayer, inner_value, values, values_from, members, members_from, list, object, prefix, decided, operated, operation, operations, chain, choice, call, index, suffix_at, suffix, suffixes, postfix, postfix_value, node_at, node, callee_at, callee, node_or_callee, evaluated, value_to}
use Rattle.sync_meaning.specs.Statements as s
use Rattle.sync_meaning.specs.Statements.{store, assign, one_more, count, jump, thrown, items_in, place_of_simple, StatementLayer, after_normal, after_round, run}

-- What a relation between runs holds of: one step after the other, and each step by itself. A step that is out of
-- visits is related to any.
pub record Relation : Type 1 where
  pub R : {A : Type 0} → Act A → Act A → Type 0
  pub bound : {A B : Type 0} (f g : Act A) (h k : A → Act B) → R f g → ((a : A) → R (h a) (k a)) → R (f >>= h) (g >>= k)
  pub lifted : {A : Type 0} (r : Found A) → R (lift r) (lift r)
  pub visited : (n : ℕ) (p : Place) → R (visits n p) (visits n p)
  pub seen : (scope : Scope) (name : List ℕ) → R (read scope name) (read scope name)
  pub stored : (name : List ℕ) (number : ℕ) (x : Value) → R (store name number x) (store name number x)
  pub built : (p : Place) (f : Builtin) (xs : List Value) → R (built_in p f xs) (built_in p f xs)
  pub out : {A : Type 0} (p : Place) (g : Act A) → R (out_of_visits p) g
  pub counted : {A : Type 0} (f g : ℕ → Act A) → ((n j : ℕ) → R (f n) (g (n + j))) → R (λ s. f (s.visits + 1) s) (λ s. g (s.visits + 1) s)

module _ (L : Relation) where
  open L use {R, bound, lifted, visited, seen, stored, built, out, counted}

  given : {A : Type 0} (a : A) → R (pure a) (pure a)
  given a = lifted (Ok a)

  either : {A : Type 0} (b : Bool) (f g h k : Act A) → R f h → R g k → R (cond b f g) (cond b h k)
  either true f g h k x y = x
  either false f g h k x y = y

  name-related : (scope : Scope) (p : Place) (n : List ℕ) → R (name scope p n) (name scope p n)
  unfolding name
  name-related scope p n = bound _ _ _ _ (visited 1 p) (λ u. seen scope n)

  literal-related : (p : Place) (r : Found Value) → R (literal p r) (literal p r)
  unfolding literal
  literal-related p r = bound _ _ _ _ (visited 1 p) (λ u. lifted r)

  call_by-related : (p : Place) (x : Target) (xs : List Value) → R (call_by p x xs) (call_by p x xs)
  call_by-related p (t.Method x how) xs = lifted (by_method p how x xs)
  call_by-related p (t.Builtin f) xs = built p f xs
  call_by-related p _ xs = lifted (type_fault p)

  member_or_method-related : (called : Bool) (p : Place) (x : Target) (n : List ℕ) → R (member_or_method called p x n) (member_or_method called p x n)
  unfolding member_or_method
  member_or_method-related called p x n =
      bound _ _ _ _ (lifted (as_value p x)) (λ y. either called _ _ _ _ (given (method_of y n)) (bound _ _ _ _ (lifted (member p n y)) (λ z. given (t.Value z))))

  -- Evaluating inside is related.
  module _ (inner other : Bool → Scope → Expr → Act Target) (related : (called : Bool) (scope : Scope) (e : Expr) → R (inner called scope e) (other called scope e)) where
    value-related : (scope : Scope) (e : Expr) → R (inner_value inner scope e) (inner_value other scope e)
    unfolding inner_value
    value-related scope e = bound _ _ _ _ (related false scope e) (λ x. lifted (as_value (place_of e) x))

    values_from-related : (scope : Scope) (found : List Value) (es : List Expr) → R (values_from inner scope found es) (values_from other scope found es)
    values_from-related scope found [] = given found
    values_from-related scope found (e ∷ es) = bound _ _ _ _ (value-related scope e) (λ x. values_from-related scope (found ++ x ∷ []) es)

    values-related : (scope : Scope) (es : List Expr) → R (values inner scope es) (values other scope es)
    unfolding values
    values-related scope es = values_from-related scope [] es

    members_from-related : (scope : Scope) (found : List (List ℕ × Value)) (es : List (List ℕ × Expr)) → R (members_from inner scope found es) (members_from other scope found es)
    members_from-related scope found [] = given found
    members_from-related scope found (e ∷ es) = bound _ _ _ _ (value-related scope e.1) (λ x. members_from-related scope (found ++ (e.0, x) ∷ []) es)

    members-related : (scope : Scope) (es : List (List ℕ × Expr)) → R (members inner scope es) (members other scope es)
    unfolding members
    members-related scope es = members_from-related scope [] es

    list-related : (scope : Scope) (p : Place) (es : List Expr) → R (list inner scope p es) (list other scope p es)
    unfolding list
    list-related scope p es = bound _ _ _ _ (visited 1 p) (λ u. bound _ _ _ _ (values-related scope es) (λ xs. lifted (listed_values p xs)))

    object-related : (scope : Scope) (p : Place) (es : List (List ℕ × Expr)) → R (object inner scope p es) (object other scope p es)
    unfolding object
    object-related scope p es = bound _ _ _ _ (visited 1 p) (λ u. bound _ _ _ _ (members-related scope es) (λ ms. given (v.Object ms)))

    prefix-related : (scope : Scope) (p : Place) (o : Prefix) (e : Expr) → R (prefix inner scope p o e) (prefix other scope p o e)
    unfolding prefix
    prefix-related scope p o e = bound _ _ _ _ (visited 1 p) (λ u. bound _ _ _ _ (value-related scope e) (λ x. lifted (prefixed p o x)))

    decided-related : (scope : Scope) (p : Place) (deciding : Bool) (x : Value) (e : Expr) → R (decided inner scope p deciding x e) (decided other scope p deciding x e)
    unfolding decided
    decided-related scope p deciding x e =
        bound _ _ _ _ (lifted (truth p x)) (λ b. either (same_truth b deciding) _ _ _ _ (given x) (value-related scope e))

    operated-related : (scope : Scope) (p : Place) (o : Operator) (x : Value) (e : Expr) → R (operated inner scope p o x e) (operated other scope p o x e)
    unfolding operated
    operated-related scope p o x e = bound _ _ _ _ (value-related scope e) (λ y. lifted (combined p o x y))

    operation-related : (scope : Scope) (p : Place) (o : Operator) (x : Value) (e : Expr) → R (operation inner scope p o x e) (operation other scope p o x e)
    operation-related scope p op.Or x e = decided-related scope p true x e
    operation-related scope p op.And x e = decided-related scope p false x e
    operation-related scope p o x e = operated-related scope p o x e

    operations-related : (scope : Scope) (p : Place) (x : Value) (os : List (Operator × Expr)) → R (operations inner scope p x os) (operations other scope p x os)
    operations-related scope p x [] = given x
    operations-related scope p x (o ∷ os) = bound _ _ _ _ (operation-related scope p o.0 x o.1) (λ y. operations-related scope p y os)

    chain-related : (scope : Scope) (first : Expr) (os : List (Operator × Expr)) → R (chain inner scope first os) (chain other scope first os)
    unfolding chain
    chain-related scope first os =
        bound _ _ _ _ (visited (length os) (place_of first)) (λ u. bound _ _ _ _ (value-related scope first) (λ x. operations-related scope (place_of first) x os))

    choice-related : (scope : Scope) (c a b : Expr) → R (choice inner scope c a b) (choice other scope c a b)
    unfolding choice
    choice-related scope c a b =
        bound _ _ _ _ (visited 1 (place_of c)) (λ u. bound _ _ _ _ (value-related scope c) (λ x.
        bound _ _ _ _ (lifted (truth (place_of c) x)) (λ is_true. either is_true _ _ _ _ (value-related scope a) (value-related scope b))))

    call-related : (scope : Scope) (p : Place) (x : Target) (es : List Expr) → R (call inner scope p x es) (call other scope p x es)
    unfolding call
    call-related scope p x es = bound _ _ _ _ (values-related scope es) (λ xs. call_by-related p x xs)

    index-related : (scope : Scope) (p : Place) (x : Target) (e : Expr) → R (index inner scope p x e) (index other scope p x e)
    unfolding index
    index-related scope p x e =
        bound _ _ _ _ (lifted (as_value p x)) (λ y. bound _ _ _ _ (value-related scope e) (λ i. bound _ _ _ _ (lifted (indexed p y i)) (λ z. given (t.Value z))))

    suffix_at-related : (called : Bool) (scope : Scope) (p : Place) (x : Target) (l : SuffixLayer) → R (suffix_at inner called scope p x l) (suffix_at other called scope p x l)
    suffix_at-related called scope p x (Suffix-F.Member n) = member_or_method-related called p x n
    suffix_at-related called scope p x (Suffix-F.Index e) = index-related scope p x e
    suffix_at-related called scope p x (Suffix-F.Call es) = bound _ _ _ _ (call-related scope p x es) (λ y. given (t.Value y))

    suffix-related : (called : Bool) (scope : Scope) (p : Place) (x : Target) (l : Suffix) → R (suffix inner called scope p x l) (suffix other called scope p x l)
    unfolding suffix
    suffix-related called scope p x l = suffix_at-related called scope p x (out-Suffix l)

    suffixes-related : (behind : Bool) (scope : Scope) (p : Place) (x : Target) (ss : List Suffix) → R (suffixes inner behind scope p x ss) (suffixes other behind scope p x ss)
    suffixes-related behind scope p x [] = given x
    suffixes-related behind scope p x (l ∷ ls) = bound _ _ _ _ (suffix-related (is_called behind ls) scope p x l) (λ y. suffixes-related behind scope p y ls)

    postfix-related : (behind : Bool) (scope : Scope) (first : Expr) (ss : List Suffix) → R (postfix inner behind scope first ss) (postfix other behind scope first ss)
    unfolding postfix
    postfix-related behind scope first ss =
        bound _ _ _ _ (visited (node_count behind ss) (place_of first)) (λ u. either (calls_is_array behind first ss) _ _ _ _
        (suffixes-related behind scope (place_of first) (t.Builtin IsArray) (without_first ss))
        (bound _ _ _ _ (related (is_called behind ss) scope first) (λ x. suffixes-related behind scope (place_of first) x ss)))

    postfix_value-related : (scope : Scope) (first : Expr) (ss : List Suffix) → R (postfix_value inner scope first ss) (postfix_value other scope first ss)
    unfolding postfix_value
    postfix_value-related scope first ss = bound _ _ _ _ (postfix-related false scope first ss) (λ x. lifted (as_value (place_of first) x))

    node_at-related : (scope : Scope) (l : ExprLayer) → R (node_at inner scope l) (node_at other scope l)
    node_at-related scope (Expr-F.Undefined p) = literal-related p _
    node_at-related scope (Expr-F.Null p) = literal-related p _
    node_at-related scope (Expr-F.Bool p b) = literal-related p _
    node_at-related scope (Expr-F.Integer p n) = literal-related p _
    node_at-related scope (Expr-F.Text p x) = literal-related p _
    node_at-related scope (Expr-F.Name p n) = name-related scope p n
    node_at-related scope (Expr-F.List p es) = list-related scope p es
    node_at-related scope (Expr-F.Object p ms) = object-related scope p ms
    node_at-related scope (Expr-F.Prefix p o e) = prefix-related scope p o e
    node_at-related scope (Expr-F.Postfix first ss) = postfix_value-related scope first ss
    node_at-related scope (Expr-F.Chain first os) = chain-related scope first os
    node_at-related scope (Expr-F.Choice c a b) = choice-related scope c a b

    node-related : (scope : Scope) (e : Expr) → R (node inner scope e) (node other scope e)
    unfolding node
    node-related scope e = node_at-related scope (out-Expr e)

    callee_at-related : (scope : Scope) (l : ExprLayer) → R (callee_at inner scope l) (callee_at other scope l)
    callee_at-related scope (Expr-F.Name p n) = given (called_by n)
    callee_at-related scope (Expr-F.Postfix first ss) = postfix-related true scope first ss
    callee_at-related scope _ = given t.Nothing

    callee-related : (scope : Scope) (e : Expr) → R (callee inner scope e) (callee other scope e)
    unfolding callee
    callee-related scope e = callee_at-related scope (out-Expr e)

    opened-related : (called : Bool) (scope : Scope) (e : Expr) → R (node_or_callee inner called scope e) (node_or_callee other called scope e)
    unfolding node_or_callee
    opened-related called scope e = either called _ _ _ _ (callee-related scope e) (bound _ _ _ _ (node-related scope e) (λ x. given (t.Value x)))

  -- an expression to a depth, and to the same or a greater one
  pub evaluated-related : (n j : ℕ) (called : Bool) (scope : Scope) (e : Expr) → R (evaluated n called scope e) (evaluated (n + j) called scope e)
  unfolding evaluated
  evaluated-related zero j called scope e = out (place_of e) _
  evaluated-related (suc n) j called scope e =
      let deeper : suc (n + j) ≡ suc n + j = omega arith in
      subst (λ m. R (evaluated (suc n) called scope e) (evaluated m called scope e)) deeper
      (opened-related (evaluated n) (evaluated (n + j)) (λ c sc x. evaluated-related n j c sc x) called scope e)

  -- ---- statements, with expressions to the depth n or a greater one

  module _ (n j : ℕ) where
    value_to-related : (scope : Scope) (e : Expr) → R (value_to n scope e) (value_to (n + j) scope e)
    value_to-related scope e = value-related (evaluated n) (evaluated (n + j)) (λ c sc x. evaluated-related n j c sc x) scope e

    value_or-related : (scope : Scope) (e : Option Expr) → R (s.value_or_undefined n scope e) (s.value_or_undefined (n + j) scope e)
    value_or-related scope None = given v.Undefined
    value_or-related scope (Some e) = value_to-related scope e

    stored_value : (how : Declares) (scope : Scope) (name : List ℕ) (e : Option Expr)
        → R (s.value_or_undefined n scope e >>= (λ x. store name (new_number how scope) x)) (s.value_or_undefined (n + j) scope e >>= (λ x. store name (new_number how scope) x))
    stored_value how scope name e = bound _ _ _ _ (value_or-related scope e) (λ x. stored name (new_number how scope) x)

    declare_one-related : (how : Declares) (scope : Scope) (name : List ℕ) (e : Option Expr) → R (s.declare_one n how scope name e) (s.declare_one (n + j) how scope name e)
    declare_one-related Var scope name None = given tt
    declare_one-related Var scope name (Some e) = stored_value Var scope name (Some e)
    declare_one-related Let scope name None = stored_value Let scope name None
    declare_one-related Let scope name (Some e) = stored_value Let scope name (Some e)
    declare_one-related Const scope name None = stored_value Const scope name None
    declare_one-related Const scope name (Some e) = stored_value Const scope name (Some e)

    declare_all-related : (how : Declares) (scope : Scope) (ns : List (Named × Option Expr)) → R (s.declare_all n how scope ns) (s.declare_all (n + j) how scope ns)
    declare_all-related how scope [] = given tt
    declare_all-related how scope (x ∷ xs) = bound _ _ _ _ (declare_one-related how scope x.0.name x.1) (λ u. declare_all-related how (declared how x.0.name scope) xs)

    declare-related : (scope : Scope) (d : Declaration) → R (s.declare n scope d) (s.declare (n + j) scope d)
    unfolding s.declare
    declare-related scope d = bound _ _ _ _ (visited 1 d.place) (λ u. declare_all-related d.declares scope d.names)

    assigned : (scope : Scope) (name : List ℕ) (x : Value) → R (assign scope name x) (assign scope name x)
    assigned scope name x = stored name _ x

    add_to-related : (scope : Scope) (x : Named) (e : Expr) → R (s.add_to n scope x e) (s.add_to (n + j) scope x e)
    unfolding s.add_to
    add_to-related scope x e =
        bound _ _ _ _ (seen scope x.name) (λ a. bound _ _ _ _ (value_to-related scope e) (λ b. bound _ _ _ _ (lifted (added_values x.place a b)) (λ z. assigned scope x.name z)))

    subtract_from-related : (scope : Scope) (x : Named) (e : Expr) → R (s.subtract_from n scope x e) (s.subtract_from (n + j) scope x e)
    unfolding s.subtract_from
    subtract_from-related scope x e =
        bound _ _ _ _ (seen scope x.name) (λ a. bound _ _ _ _ (value_to-related scope e) (λ b. bound _ _ _ _ (lifted _) (λ z. assigned scope x.name z)))

    set-related : (scope : Scope) (x : Named) (e : Expr) → R (s.set n scope x e) (s.set (n + j) scope x e)
    unfolding s.set
    set-related scope x e = bound _ _ _ _ (value_to-related scope e) (λ z. assigned scope x.name z)

    count-related : (scope : Scope) (x : Named) (by : ℤ) → R (count scope x by) (count scope x by)
    unfolding count
    count-related scope x by = bound _ _ _ _ (seen scope x.name) (λ a. bound _ _ _ _ (lifted (one_more x.place a by)) (λ z. assigned scope x.name z))

    expression-related : (scope : Scope) (e : Expr) → R (s.expression n scope e) (s.expression (n + j) scope e)
    unfolding s.expression
    expression-related scope e = bound _ _ _ _ (value_to-related scope e) (λ x. given tt)

    simple_by-related : (scope : Scope) (x : Simple) → R (s.simple_by n scope x) (s.simple_by (n + j) scope x)
    simple_by-related scope (simples.Write x writes.Set e) = set-related scope x e
    simple_by-related scope (simples.Write x writes.Add e) = add_to-related scope x e
    simple_by-related scope (simples.Write x writes.Subtract e) = subtract_from-related scope x e
    simple_by-related scope (simples.Increment x) = count-related scope x (pos 1)
    simple_by-related scope (simples.Decrement x) = count-related scope x (negsuc 0)
    simple_by-related scope (simples.Value p e) = expression-related scope e

    simple-related : (scope : Scope) (x : Simple) → R (s.simple n scope x) (s.simple (n + j) scope x)
    unfolding s.simple
    simple-related scope x = bound _ _ _ _ (visited 1 (place_of_simple x)) (λ u. simple_by-related scope x)

    is_true-related : (scope : Scope) (p : Place) (c : Expr) → R (s.is_true n scope p c) (s.is_true (n + j) scope p c)
    unfolding s.is_true
    is_true-related scope p c = bound _ _ _ _ (value_to-related scope c) (λ x. lifted (truth p x))

    holds-related : (scope : Scope) (p : Place) (c : Option Expr) → R (s.holds n scope p c) (s.holds (n + j) scope p c)
    holds-related scope p None = given true
    holds-related scope p (Some c) = is_true-related scope p c

    start-related : (scope : Scope) (x : Option Start) → R (s.run_start n scope x) (s.run_start (n + j) scope x)
    start-related scope None = given tt
    start-related scope (Some (starts.Declare d)) = declare-related scope d
    start-related scope (Some (starts.Simple x)) = simple-related scope x

    step-related : (scope : Scope) (x : Option Simple) → R (s.run_step n scope x) (s.run_step (n + j) scope x)
    step-related scope None = given tt
    step-related scope (Some x) = simple-related scope x

    returned-related : (scope : Scope) (p : Place) (e : Option Expr) → R (s.returned n scope p e) (s.returned (n + j) scope p e)
    unfolding s.returned
    returned-related scope p e = bound _ _ _ _ (visited 1 p) (λ u. bound _ _ _ _ (value_or-related scope e) (λ x. given Return))

    throw-related : (scope : Scope) (p : Place) (e : Expr) → R (s.throw n scope p e) (s.throw (n + j) scope p e)
    unfolding s.throw
    throw-related scope p e = bound _ _ _ _ (visited 1 p) (λ u. bound _ _ _ _ (value_to-related scope e) (λ x. lifted (Err (thrown p x))))

    jump-related : (p : Place) (how : Completion) → R (jump p how) (jump p how)
    unfolding jump
    jump-related p how = bound _ _ _ _ (visited 1 p) (λ u. given how)

    after_normal-related : (f g : Act Completion) → R f g → (how : Completion) → R (after_normal f how) (after_normal g how)
    after_normal-related f g r Normal = r
    after_normal-related f g r Break = given Break
    after_normal-related f g r Continue = given Continue
    after_normal-related f g r Return = given Return

    after_round-related : (f g : Act Completion) → R f g → (how : Completion) → R (after_round f how) (after_round g how)
    after_round-related f g r Normal = r
    after_round-related f g r Break = given Normal
    after_round-related f g r Continue = r
    after_round-related f g r Return = given Return

    -- Running inside is related.
    module _ (inner other : Scope → Statement → Act Completion) (related : (scope : Scope) (x : Statement) → R (inner scope x) (other scope x)) where
      run_all-related : (scope : Scope) (xs : List Statement) → R (s.run_all n inner scope xs) (s.run_all (n + j) other scope xs)
      run_all-related scope [] = given Normal
      run_all-related scope (x ∷ xs) = bound _ _ _ _ (related scope x) (λ how. after_normal-related _ _ (run_all-related (behind x scope) xs) how)

      pub block-related : (scope : Scope) (p : Place) (xs : List Statement) → R (s.block n inner scope p xs) (s.block (n + j) other scope p xs)
      unfolding s.block
      block-related scope p xs = bound _ _ _ _ (visited 1 p) (λ u. run_all-related scope xs)

      otherwise-related : (scope : Scope) (first : Statement) (x : Option Statement) → R (s.otherwise n inner scope first x) (s.otherwise (n + j) other scope first x)
      otherwise-related scope first None = given Normal
      otherwise-related scope first (Some x) = related (behind first scope) x

      choose-related : (scope : Scope) (p : Place) (c : Expr) (first : Statement) (x : Option Statement) → R (s.choose n inner scope p c first x) (s.choose (n + j) other scope p c first x)
      unfolding s.choose
      choose-related scope p c first x =
          bound _ _ _ _ (visited 1 p) (λ u. bound _ _ _ _ (is_true-related scope p c) (λ goes. either goes _ _ _ _ (related scope first) (otherwise-related scope first x)))

      rounds-related : (m i : ℕ) (scope : Scope) (p : Place) (c : Option Expr) (last : Option Simple) (body : Statement)
          → R (s.rounds n inner m scope p c last body) (s.rounds (n + j) other (m + i) scope p c last body)
      unfolding s.rounds
      rounds-related zero i scope p c last body = out p _
      rounds-related (suc m) i scope p c last body =
          let more : suc (m + i) ≡ suc m + i = omega arith in
          subst (λ r. R (s.rounds n inner (suc m) scope p c last body) (s.rounds (n + j) other r scope p c last body)) more
          (bound _ _ _ _ (holds-related scope p c) (λ goes. either goes _ _ _ _
          (bound _ _ _ _ (related scope body) (λ how. after_round-related _ _ (bound _ _ _ _ (step-related scope last) (λ u. rounds-related m i scope p c last body)) how))
          (given Normal)))

      all_rounds-related : (scope : Scope) (p : Place) (c : Option Expr) (last : Option Simple) (body : Statement)
          → R (s.all_rounds n inner scope p c last body) (s.all_rounds (n + j) other scope p c last body)
      unfolding s.all_rounds
      all_rounds-related scope p c last body =
          counted (λ m. s.rounds n inner m scope p c last body) (λ m. s.rounds (n + j) other m scope p c last body) (λ m i. rounds-related m i scope p c last body)

      loop-related : (scope : Scope) (p : Place) (begin : Option Start) (c : Option Expr) (last : Option Simple) (body : Statement)
          → R (s.loop_while n inner scope p begin c last body) (s.loop_while (n + j) other scope p begin c last body)
      unfolding s.loop_while
      loop-related scope p begin c last body =
          bound _ _ _ _ (visited 1 p) (λ u. bound _ _ _ _ (start-related scope begin) (λ w. all_rounds-related (started begin scope) p c last body))

      each-related : (scope : Scope) (name : List ℕ) (number : ℕ) (body : Statement) (xs : List Value) → R (s.each n inner scope name number body xs) (s.each (n + j) other scope name number body xs)
      each-related scope name number body [] = given Normal
      each-related scope name number body (x ∷ xs) =
          bound _ _ _ _ (bound _ _ _ _ (stored name number x) (λ u. related scope body)) (λ how. after_round-related _ _ (each-related scope name number body xs) how)

      loop_of-related : (scope : Scope) (p : Place) (how : Declares) (x : Named) (e : Expr) (body : Statement) → R (s.loop_of n inner scope p how x e body) (s.loop_of (n + j) other scope p how x e body)
      unfolding s.loop_of
      loop_of-related scope p how x e body =
          bound _ _ _ _ (visited 1 p) (λ u. bound _ _ _ _ (value_to-related scope e) (λ y. bound _ _ _ _ (lifted (items_in p y)) (λ ys.
          each-related (declared how x.name scope) x.name (new_number how scope) body ys)))

      normally-related : (f g : Act (Unit {0})) → R f g → R (s.normally n inner f) (s.normally (n + j) other g)
      normally-related f g r = bound _ _ _ _ r (λ u. given Normal)

      statement_at-related : (scope : Scope) (l : StatementLayer) → R (s.statement_at n inner scope l) (s.statement_at (n + j) other scope l)
      statement_at-related scope (Statement-F.Block p xs) = block-related scope p xs
      statement_at-related scope (Statement-F.Empty p) = jump-related p Normal
      statement_at-related scope (Statement-F.Declare d) = normally-related _ _ (declare-related scope d)
      statement_at-related scope (Statement-F.If p c x y) = choose-related scope p c x y
      statement_at-related scope (Statement-F.For p begin c last x) = loop-related scope p begin c last x
      statement_at-related scope (Statement-F.ForOf p how x e y) = loop_of-related scope p how x e y
      statement_at-related scope (Statement-F.Return p e) = returned-related scope p e
      statement_at-related scope (Statement-F.Throw p e) = throw-related scope p e
      statement_at-related scope (Statement-F.Break p) = jump-related p Break
      statement_at-related scope (Statement-F.Continue p) = jump-related p Continue
      statement_at-related scope (Statement-F.Simple x) = normally-related _ _ (simple-related scope x)

      opened_statement-related : (scope : Scope) (x : Statement) → R (s.run_statement n inner scope x) (s.run_statement (n + j) other scope x)
      unfolding s.run_statement
      opened_statement-related scope x = statement_at-related scope (out-Statement x)

  -- a statement to a depth, and to the same or a greater one
  pub run-related : (n j : ℕ) (scope : Scope) (x : Statement) → R (run n scope x) (run (n + j) scope x)
  unfolding run
  run-related zero j scope x = out _ _
  run-related (suc n) j scope x =
      let deeper : suc (n + j) ≡ suc n + j = omega arith in
      subst (λ m. R (run (suc n) scope x) (run m scope x)) deeper
      (opened_statement-related n j (run n) (run (n + j)) (λ sc y. run-related n j sc y) scope x)
