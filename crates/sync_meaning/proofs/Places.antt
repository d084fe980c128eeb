-- A program whose places are moved says the same, but for the place.
use Rattle.std.proofs.Common.{◌≡◌, ℕ, zero, suc, ◌+◌, ℤ, pos, negsuc, nat_lt, Bool, true, false, cond, List, [], ◌∷◌, ◌++◌, map, length, Option, Some, None, option_map, Ok, Err, refl, sym, subst, ap, ◌∙◌}
use Rattle.json_doc.specs.Tree.{Tree}
use Rattle.sync_tokens.specs.declared.place.Place.{Place}
use Rattle.sync_syntax.specs.declared.tree.Declares.{Declares}
use Rattle.sync_syntax.specs.declared.tree.Declares.TheVariants.{Var, Let, Const}
use Rattle.sync_syntax.specs.declared.tree.Declaration.{Declaration}
use Rattle.sync_syntax.specs.declared.tree.Expr.{Expr, out-Expr}
use Rattle.sync_syntax.specs.declared.tree.Expr.TheOpen.{Expr-F, Suffix-F}
use Rattle.sync_syntax.specs.declared.tree.Named.{Named}
use Rattle.sync_syntax.specs.declared.tree.Operator.{Operator}
use Rattle.sync_syntax.specs.declared.tree.Operator.TheVariants as op
use Rattle.sync_syntax.specs.declared.tree.Prefix.{Prefix}
use Rattle.sync_syntax.specs.declared.tree.Program.{Program}
use Rattle.sync_syntax.specs.declared.tree.Simple.{Simple}
use Rattle.sync_syntax.specs.declared.tree.Simple.TheVariants as simples
use Rattle.sync_syntax.specs.declared.tree.Start.{Start}
use Rattle.sync_syntax.specs.declared.tree.Start.TheVariants as starts
use Rattle.sync_syntax.specs.declared.tree.Statement.{Statement, out-Statement}
use Rattle.sync_syntax.specs.declared.tree.Statement.TheOpen.{Statement-F}
use Rattle.sync_syntax.specs.declared.tree.Suffix.{Suffix, out-Suffix}
use Rattle.sync_syntax.specs.declared.tree.Writes.TheVariants as writes
use Rattle.sync_values.specs.declared.callee.Builtin.TheVariants.{IsArray}
use Rattle.sync_values.specs.declared.callee.Target.{Target}
use Rattle.sync_values.specs.declared.callee.Target.TheVariants as t
use Rattle.sync_values.specs.declared.fault.RuleKind.TheVariants as rules
use Rattle.sync_values.specs.declared.value.Value.{Value}
use Rattle.sync_values.specs.declared.value.Value.TheVariants as v
use Rattle.sync_values.specs.Found.{Found, type_fault, denial}
use Rattle.sync_values.specs.Values.{truth, combined, prefixed, member, indexed, listed_values, same_truth, by_method}
use Rattle.sync_meaning.specs.declared.completion.Completion.{Completion}
use Rattle.sync_meaning.specs.declared.completion.Completion.TheVariants.{Normal, Break, Continue, Return}
use Rattle.sync_meaning.specs.declared.scope.Scope.{Scope}
use Rattle.sync_meaning.specs.declared.state.State.{State}
use Rattle.sync_meaning.specs.Acts.{Act, and_then, in_state, ◌>>=◌, pure, lift, visits, out_of_visits}
use Rattle.sync_meaning.specs.Variables.{top, new_number, declared, started, behind}
use Rattle.sync_meaning.specs.Expressions.{place_of, called_by, method_of, is_call_at, is_called, is_array_name, is_array_name_at, is_array_member, is_array_member_at, calls_is_array, without_first, ends_node, ends_node_at, node_count, as_value, read, name, literal, call_by, member_or_method, ExprLayer, SuffixLayer, inner_value, values, values_from, members, members_from, list, object, prefix, decided, operated, operation, operations, chain, choice, call, index, suffix_at, suffix, suffixes, postfix, postfix_value, node_at, node, callee_at, callee, node_or_callee, evaluated, value_to}
use Rattle.sync_meaning.specs.Statements as s
use Rattle.sync_meaning.specs.Statements.{store, assign, count, jump, thrown, place_of_simple, StatementLayer, after_normal, after_round, run}
use Rattle.sync_meaning.specs.Meaning.{body, begin, no_effects, depth_for, gathered, meaning_within, parameters, with_second, value_before}
use Rattle.sync_syntax.specs.Moved.{moved_expr, moved_suffix, moved_named, moved_given, moved_declaration, moved_simple, moved_start, moved_statement, moved}
use Rattle.sync_meaning.specs.Laws.{placeless, PlacesChangeNoKind}
use Rattle.sync_meaning.proofs.Alike.{Alike, same_ok, same_err, no_ok, then_alike, truth-alike, bounded-alike, added-alike, calculated-alike, one_more-alike, combined-alike, prefixed-alike, member-alike, indexed-alike, listed-alike, by_method-alike, as_value-alike, items_in-alike, thrown-alike, built_in-alike}
use Rattle.sync_meaning.proofs.MovedLayers.{moved_member, moved_tail, moved_layer, moved_suffix_layer, moved_statement_layer, out-moved_expr, out-moved_suffix, out-moved_statement}
use Rattle.sync_meaning.proofs.MovedScopes.{started-moved, behind-moved}

-- the same in each state, but for the place
record Same {A : Type 0} (g h : Act A) : Type 0 where
  from : (s : State) → Alike (g s) (h s)

bound_at : {A B : Type 0} (r q : Found (A × State)) (h l : A → Act B) → Alike r q → ((a : A) → Same (h a) (l a)) → Alike (and_then r h) (and_then q l)
bound_at (Ok a) (Ok c) h l e hl = (hl a.0).from a.1 ∙ ap (λ z. placeless (l z.0 z.1)) (same_ok a c e)
bound_at (Ok a) (Err y) h l e hl = absurd (no_ok a y e)
bound_at (Err x) (Ok c) h l e hl = absurd (no_ok c x (sym e))
bound_at {A = A} (Err x) (Err y) h l e hl = ap Err (same_err {A = A × State} x y e)

bound : {A B : Type 0} (g k : Act A) (h l : A → Act B) → Same g k → ((a : A) → Same (h a) (l a)) → Same (g >>= h) (k >>= l)
bound g k h l gk hl = record { from = λ s. bound_at (g s) (k s) h l (gk.from s) hl }

in_state-alike : {A : Type 0} (r q : Found A) (s : State) → Alike r q → Alike (in_state r s) (in_state q s)
in_state-alike (Ok a) (Ok c) s e = ap (λ z. Ok (z, s)) (same_ok a c e)
in_state-alike (Ok a) (Err y) s e = absurd (no_ok a y e)
in_state-alike (Err x) (Ok c) s e = absurd (no_ok c x (sym e))
in_state-alike {A = A} (Err x) (Err y) s e = ap Err (same_err {A = A} x y e)

lifted : {A : Type 0} (r q : Found A) → Alike r q → Same (lift r) (lift q)
lifted r q e = record { from = λ s. in_state-alike r q s e }

given : {A : Type 0} (a : A) → Same (pure a) (pure a)
given a = record { from = λ s. refl }

visited_at : (c : Bool) (p q : Place) (ok : Found (Unit {0} × State)) → Alike {A = Unit {0} × State} (cond c (Err (denial rules.Fuel p)) ok) (cond c (Err (denial rules.Fuel q)) ok)
visited_at true p q ok = refl
visited_at false p q ok = refl

visited : (n : ℕ) (p q : Place) → Same (visits n p) (visits n q)
unfolding visits
visited n p q = record { from = λ s. visited_at (nat_lt s.visits n) p q _ }

seen : (scope : Scope) (n : List ℕ) → Same (read scope n) (read scope n)
seen scope n = record { from = λ s. refl }

stored : (n : List ℕ) (number : ℕ) (x : Value) → Same (store n number x) (store n number x)
stored n number x = record { from = λ s. refl }

out : {A : Type 0} (p q : Place) → Same {A = A} (out_of_visits p) (out_of_visits q)
out p q = record { from = λ s. refl }

either : {A : Type 0} (c : Bool) (g h k l : Act A) → Same g k → Same h l → Same (cond c g h) (cond c k l)
either true g h k l x y = x
either false g h k l x y = y

name-same : (scope : Scope) (p q : Place) (n : List ℕ) → Same (name scope p n) (name scope q n)
unfolding name
name-same scope p q n = bound _ _ _ _ (visited 1 p q) (λ u. seen scope n)

literal-same : (p q : Place) (r u : Found Value) → Alike r u → Same (literal p r) (literal q u)
unfolding literal
literal-same p q r u e = bound _ _ _ _ (visited 1 p q) (λ w. lifted r u e)

call_by-same : (p q : Place) (x : Target) (xs : List Value) → Same (call_by p x xs) (call_by q x xs)
call_by-same p q (t.Method x how) xs = lifted (by_method p how x xs) (by_method q how x xs) (by_method-alike p q how x xs)
call_by-same p q (t.Builtin g) xs = record { from = λ s. built_in-alike p q g xs s }
call_by-same p q _ xs = lifted (type_fault p) (type_fault q) refl

member_or_method-same : (called : Bool) (p q : Place) (x : Target) (n : List ℕ) → Same (member_or_method called p x n) (member_or_method called q x n)
unfolding member_or_method
member_or_method-same called p q x n =
    bound _ _ _ _ (lifted (as_value p x) (as_value q x) (as_value-alike p q x)) (λ y. either called _ _ _ _ (given (method_of y n))
    (bound _ _ _ _ (lifted (member p n y) (member q n y) (member-alike p q n y)) (λ z. given (t.Value z))))

module _ (f : Place → Place) where
  -- ---- what is called is the same

  is_call_at-moved : (l : SuffixLayer) → is_call_at (moved_suffix_layer f l) ≡ is_call_at l
  is_call_at-moved (Suffix-F.Call xs) = refl
  is_call_at-moved (Suffix-F.Member n) = refl
  is_call_at-moved (Suffix-F.Index x) = refl

  is_called-moved : (c : Bool) (ss : List Suffix) → is_called c (map (moved_suffix f) ss) ≡ is_called c ss
  is_called-moved c [] = refl
  is_called-moved c (l ∷ ls) = ap is_call_at (out-moved_suffix f l) ∙ is_call_at-moved (out-Suffix l)

  ends_node_at-moved : (c : Bool) (l : SuffixLayer) → ends_node_at c (moved_suffix_layer f l) ≡ ends_node_at c l
  ends_node_at-moved c (Suffix-F.Call xs) = refl
  ends_node_at-moved c (Suffix-F.Member n) = refl
  ends_node_at-moved c (Suffix-F.Index x) = refl

  ends_node-moved : (c : Bool) (l : Suffix) → ends_node c (moved_suffix f l) ≡ ends_node c l
  ends_node-moved c l = ap (ends_node_at c) (out-moved_suffix f l) ∙ ends_node_at-moved c (out-Suffix l)

  node_count-moved : (c : Bool) (ss : List Suffix) → node_count c (map (moved_suffix f) ss) ≡ node_count c ss
  node_count-moved c [] = refl
  node_count-moved c (l ∷ ls) = rw (is_called-moved c ls, ends_node-moved (is_called c ls) l, node_count-moved c ls) refl

  is_array_name_at-moved : (l : ExprLayer) → is_array_name_at (moved_layer f l) ≡ is_array_name_at l
  is_array_name_at-moved (Expr-F.Name p n) = refl
  is_array_name_at-moved (Expr-F.Undefined p) = refl
  is_array_name_at-moved (Expr-F.Null p) = refl
  is_array_name_at-moved (Expr-F.Bool p c) = refl
  is_array_name_at-moved (Expr-F.Integer p n) = refl
  is_array_name_at-moved (Expr-F.Text p x) = refl
  is_array_name_at-moved (Expr-F.List p es) = refl
  is_array_name_at-moved (Expr-F.Object p ms) = refl
  is_array_name_at-moved (Expr-F.Prefix p o x) = refl
  is_array_name_at-moved (Expr-F.Postfix first ss) = refl
  is_array_name_at-moved (Expr-F.Chain first os) = refl
  is_array_name_at-moved (Expr-F.Choice c x y) = refl

  is_array_name-moved : (e : Expr) → is_array_name (moved_expr f e) ≡ is_array_name e
  is_array_name-moved e = ap is_array_name_at (out-moved_expr f e) ∙ is_array_name_at-moved (out-Expr e)

  is_array_member_at-moved : (l : SuffixLayer) → is_array_member_at (moved_suffix_layer f l) ≡ is_array_member_at l
  is_array_member_at-moved (Suffix-F.Call xs) = refl
  is_array_member_at-moved (Suffix-F.Member n) = refl
  is_array_member_at-moved (Suffix-F.Index x) = refl

  is_array_member-moved : (l : Suffix) → is_array_member (moved_suffix f l) ≡ is_array_member l
  is_array_member-moved l = ap is_array_member_at (out-moved_suffix f l) ∙ is_array_member_at-moved (out-Suffix l)

  calls_is_array-moved : (c : Bool) (e : Expr) (ss : List Suffix) → calls_is_array c (moved_expr f e) (map (moved_suffix f) ss) ≡ calls_is_array c e ss
  calls_is_array-moved c e [] = refl
  calls_is_array-moved c e (l ∷ ls) = rw (is_array_name-moved e, is_array_member-moved l, is_called-moved c ls) refl

  without_first-moved : (ss : List Suffix) → map (moved_suffix f) (without_first ss) ≡ without_first (map (moved_suffix f) ss)
  without_first-moved [] = refl
  without_first-moved (l ∷ ls) = refl

  tails-length : (os : List (Operator × Expr)) → length (map (moved_tail f) os) ≡ length os
  tails-length [] = refl
  tails-length (o ∷ os) = ap suc (tails-length os)

  -- ---- expressions

  module _ (inner other : Bool → Scope → Expr → Act Target) (same : (called : Bool) (scope : Scope) (e : Expr) → Same (inner called scope e) (other called scope (moved_expr f e))) where
    value-same : (scope : Scope) (e : Expr) → Same (inner_value inner scope e) (inner_value other scope (moved_expr f e))
    unfolding inner_value
    value-same scope e = bound _ _ _ _ (same false scope e) (λ x. lifted (as_value (place_of e) x) (as_value (place_of (moved_expr f e)) x) (as_value-alike _ _ x))

    values_from-same : (scope : Scope) (found : List Value) (es : List Expr) → Same (values_from inner scope found es) (values_from other scope found (map (moved_expr f) es))
    values_from-same scope found [] = given found
    values_from-same scope found (e ∷ es) = bound _ _ _ _ (value-same scope e) (λ x. values_from-same scope (found ++ x ∷ []) es)

    values-same : (scope : Scope) (es : List Expr) → Same (values inner scope es) (values other scope (map (moved_expr f) es))
    unfolding values
    values-same scope es = values_from-same scope [] es

    members_from-same : (scope : Scope) (found : List (List ℕ × Value)) (es : List (List ℕ × Expr)) → Same (members_from inner scope found es) (members_from other scope found (map (moved_member f) es))
    members_from-same scope found [] = given found
    members_from-same scope found (e ∷ es) = bound _ _ _ _ (value-same scope e.1) (λ x. members_from-same scope (found ++ (e.0, x) ∷ []) es)

    members-same : (scope : Scope) (es : List (List ℕ × Expr)) → Same (members inner scope es) (members other scope (map (moved_member f) es))
    unfolding members
    members-same scope es = members_from-same scope [] es

    list-same : (scope : Scope) (p q : Place) (es : List Expr) → Same (list inner scope p es) (list other scope q (map (moved_expr f) es))
    unfolding list
    list-same scope p q es = bound _ _ _ _ (visited 1 p q) (λ u. bound _ _ _ _ (values-same scope es) (λ xs. lifted (listed_values p xs) (listed_values q xs) (listed-alike p q xs)))

    object-same : (scope : Scope) (p q : Place) (es : List (List ℕ × Expr)) → Same (object inner scope p es) (object other scope q (map (moved_member f) es))
    unfolding object
    object-same scope p q es = bound _ _ _ _ (visited 1 p q) (λ u. bound _ _ _ _ (members-same scope es) (λ ms. given (v.Object ms)))

    prefix-same : (scope : Scope) (p q : Place) (o : Prefix) (e : Expr) → Same (prefix inner scope p o e) (prefix other scope q o (moved_expr f e))
    unfolding prefix
    prefix-same scope p q o e = bound _ _ _ _ (visited 1 p q) (λ u. bound _ _ _ _ (value-same scope e) (λ x. lifted (prefixed p o x) (prefixed q o x) (prefixed-alike p q o x)))

    decided-same : (scope : Scope) (p q : Place) (deciding : Bool) (x : Value) (e : Expr) → Same (decided inner scope p deciding x e) (decided other scope q deciding x (moved_expr f e))
    unfolding decided
    decided-same scope p q deciding x e =
        bound _ _ _ _ (lifted (truth p x) (truth q x) (truth-alike p q x)) (λ c. either (same_truth c deciding) _ _ _ _ (given x) (value-same scope e))

    operated-same : (scope : Scope) (p q : Place) (o : Operator) (x : Value) (e : Expr) → Same (operated inner scope p o x e) (operated other scope q o x (moved_expr f e))
    unfolding operated
    operated-same scope p q o x e = bound _ _ _ _ (value-same scope e) (λ y. lifted (combined p o x y) (combined q o x y) (combined-alike p q o x y))

    operation-same : (scope : Scope) (p q : Place) (o : Operator) (x : Value) (e : Expr) → Same (operation inner scope p o x e) (operation other scope q o x (moved_expr f e))
    operation-same scope p q op.Or x e = decided-same scope p q true x e
    operation-same scope p q op.And x e = decided-same scope p q false x e
    operation-same scope p q o x e = operated-same scope p q o x e

    operations-same : (scope : Scope) (p q : Place) (x : Value) (os : List (Operator × Expr)) → Same (operations inner scope p x os) (operations other scope q x (map (moved_tail f) os))
    operations-same scope p q x [] = given x
    operations-same scope p q x (o ∷ os) = bound _ _ _ _ (operation-same scope p q o.0 x o.1) (λ y. operations-same scope p q y os)

    chain-same : (scope : Scope) (first : Expr) (os : List (Operator × Expr)) → Same (chain inner scope first os) (chain other scope (moved_expr f first) (map (moved_tail f) os))
    unfolding chain
    chain-same scope first os =
        bound _ _ _ _ (subst (λ n. Same (visits (length os) (place_of first)) (visits n (place_of (moved_expr f first)))) (sym (tails-length os)) (visited (length os) _ _))
        (λ u. bound _ _ _ _ (value-same scope first) (λ x. operations-same scope _ _ x os))

    choice-same : (scope : Scope) (c x y : Expr) → Same (choice inner scope c x y) (choice other scope (moved_expr f c) (moved_expr f x) (moved_expr f y))
    unfolding choice
    choice-same scope c x y =
        bound _ _ _ _ (visited 1 _ _) (λ u. bound _ _ _ _ (value-same scope c) (λ z.
        bound _ _ _ _ (lifted _ _ (truth-alike _ _ z)) (λ is_true. either is_true _ _ _ _ (value-same scope x) (value-same scope y))))

    call-same : (scope : Scope) (p q : Place) (x : Target) (es : List Expr) → Same (call inner scope p x es) (call other scope q x (map (moved_expr f) es))
    unfolding call
    call-same scope p q x es = bound _ _ _ _ (values-same scope es) (λ xs. call_by-same p q x xs)

    index-same : (scope : Scope) (p q : Place) (x : Target) (e : Expr) → Same (index inner scope p x e) (index other scope q x (moved_expr f e))
    unfolding index
    index-same scope p q x e =
        bound _ _ _ _ (lifted (as_value p x) (as_value q x) (as_value-alike p q x)) (λ y. bound _ _ _ _ (value-same scope e) (λ i.
        bound _ _ _ _ (lifted (indexed p y i) (indexed q y i) (indexed-alike p q y i)) (λ z. given (t.Value z))))

    suffix_at-same : (called : Bool) (scope : Scope) (p q : Place) (x : Target) (l : SuffixLayer) → Same (suffix_at inner called scope p x l) (suffix_at other called scope q x (moved_suffix_layer f l))
    suffix_at-same called scope p q x (Suffix-F.Member n) = member_or_method-same called p q x n
    suffix_at-same called scope p q x (Suffix-F.Index e) = index-same scope p q x e
    suffix_at-same called scope p q x (Suffix-F.Call es) = bound _ _ _ _ (call-same scope p q x es) (λ y. given (t.Value y))

    suffix-same : (called : Bool) (scope : Scope) (p q : Place) (x : Target) (l : Suffix) → Same (suffix inner called scope p x l) (suffix other called scope q x (moved_suffix f l))
    unfolding suffix
    suffix-same called scope p q x l =
        subst (λ k. Same (suffix_at inner called scope p x (out-Suffix l)) (suffix_at other called scope q x k)) (sym (out-moved_suffix f l)) (suffix_at-same called scope p q x (out-Suffix l))

    suffixes-same : (c : Bool) (scope : Scope) (p q : Place) (x : Target) (ss : List Suffix) → Same (suffixes inner c scope p x ss) (suffixes other c scope q x (map (moved_suffix f) ss))
    suffixes-same c scope p q x [] = given x
    suffixes-same c scope p q x (l ∷ ls) =
        bound _ _ _ _
        (subst (λ d. Same (suffix inner (is_called c ls) scope p x l) (suffix other d scope q x (moved_suffix f l))) (sym (is_called-moved c ls)) (suffix-same (is_called c ls) scope p q x l))
        (λ y. suffixes-same c scope p q y ls)

    postfix_by : (c : Bool) (scope : Scope) (first : Expr) (ss : List Suffix) (array : Bool)
        → Same (cond array (suffixes inner c scope (place_of first) (t.Builtin IsArray) (without_first ss)) (inner (is_called c ss) scope first >>= (λ x. suffixes inner c scope (place_of first) x ss)))
        (cond array (suffixes other c scope (place_of (moved_expr f first)) (t.Builtin IsArray) (without_first (map (moved_suffix f) ss)))
        (other (is_called c (map (moved_suffix f) ss)) scope (moved_expr f first) >>= (λ x. suffixes other c scope (place_of (moved_expr f first)) x (map (moved_suffix f) ss))))
    postfix_by c scope first ss array =
        either array _ _ _ _
        (subst (λ us. Same (suffixes inner c scope (place_of first) (t.Builtin IsArray) (without_first ss)) (suffixes other c scope (place_of (moved_expr f first)) (t.Builtin IsArray) us)) (without_first-moved ss)
        (suffixes-same c scope (place_of first) (place_of (moved_expr f first)) (t.Builtin IsArray) (without_first ss)))
        (bound _ _ _ _
        (subst (λ d. Same (inner (is_called c ss) scope first) (other d scope (moved_expr f first))) (sym (is_called-moved c ss)) (same (is_called c ss) scope first))
        (λ x. suffixes-same c scope (place_of first) (place_of (moved_expr f first)) x ss))

    postfix-same : (c : Bool) (scope : Scope) (first : Expr) (ss : List Suffix) → Same (postfix inner c scope first ss) (postfix other c scope (moved_expr f first) (map (moved_suffix f) ss))
    unfolding postfix
    postfix-same c scope first ss =
        bound _ _ _ _
        (subst (λ n. Same (visits (node_count c ss) (place_of first)) (visits n (place_of (moved_expr f first)))) (sym (node_count-moved c ss)) (visited (node_count c ss) _ _))
        (λ u. rw (calls_is_array-moved c first ss) (postfix_by c scope first ss (calls_is_array c first ss)))

    postfix_value-same : (scope : Scope) (first : Expr) (ss : List Suffix) → Same (postfix_value inner scope first ss) (postfix_value other scope (moved_expr f first) (map (moved_suffix f) ss))
    unfolding postfix_value
    postfix_value-same scope first ss = bound _ _ _ _ (postfix-same false scope first ss) (λ x. lifted _ _ (as_value-alike _ _ x))

    node_at-same : (scope : Scope) (l : ExprLayer) → Same (node_at inner scope l) (node_at other scope (moved_layer f l))
    node_at-same scope (Expr-F.Undefined p) = literal-same p (f p) _ _ refl
    node_at-same scope (Expr-F.Null p) = literal-same p (f p) _ _ refl
    node_at-same scope (Expr-F.Bool p c) = literal-same p (f p) _ _ refl
    node_at-same scope (Expr-F.Integer p n) = literal-same p (f p) _ _ (bounded-alike p (f p) (pos n))
    node_at-same scope (Expr-F.Text p x) = literal-same p (f p) _ _ refl
    node_at-same scope (Expr-F.Name p n) = name-same scope p (f p) n
    node_at-same scope (Expr-F.List p es) = list-same scope p (f p) es
    node_at-same scope (Expr-F.Object p ms) = object-same scope p (f p) ms
    node_at-same scope (Expr-F.Prefix p o e) = prefix-same scope p (f p) o e
    node_at-same scope (Expr-F.Postfix first ss) = postfix_value-same scope first ss
    node_at-same scope (Expr-F.Chain first os) = chain-same scope first os
    node_at-same scope (Expr-F.Choice c x y) = choice-same scope c x y

    node-same : (scope : Scope) (e : Expr) → Same (node inner scope e) (node other scope (moved_expr f e))
    unfolding node
    node-same scope e = subst (λ l. Same (node_at inner scope (out-Expr e)) (node_at other scope l)) (sym (out-moved_expr f e)) (node_at-same scope (out-Expr e))

    callee_at-same : (scope : Scope) (l : ExprLayer) → Same (callee_at inner scope l) (callee_at other scope (moved_layer f l))
    callee_at-same scope (Expr-F.Name p n) = given (called_by n)
    callee_at-same scope (Expr-F.Postfix first ss) = postfix-same true scope first ss
    callee_at-same scope (Expr-F.Undefined p) = given t.Nothing
    callee_at-same scope (Expr-F.Null p) = given t.Nothing
    callee_at-same scope (Expr-F.Bool p c) = given t.Nothing
    callee_at-same scope (Expr-F.Integer p n) = given t.Nothing
    callee_at-same scope (Expr-F.Text p x) = given t.Nothing
    callee_at-same scope (Expr-F.List p es) = given t.Nothing
    callee_at-same scope (Expr-F.Object p ms) = given t.Nothing
    callee_at-same scope (Expr-F.Prefix p o e) = given t.Nothing
    callee_at-same scope (Expr-F.Chain first os) = given t.Nothing
    callee_at-same scope (Expr-F.Choice c x y) = given t.Nothing

    callee-same : (scope : Scope) (e : Expr) → Same (callee inner scope e) (callee other scope (moved_expr f e))
    unfolding callee
    callee-same scope e = subst (λ l. Same (callee_at inner scope (out-Expr e)) (callee_at other scope l)) (sym (out-moved_expr f e)) (callee_at-same scope (out-Expr e))

    opened-same : (called : Bool) (scope : Scope) (e : Expr) → Same (node_or_callee inner called scope e) (node_or_callee other called scope (moved_expr f e))
    unfolding node_or_callee
    opened-same called scope e = either called _ _ _ _ (callee-same scope e) (bound _ _ _ _ (node-same scope e) (λ x. given (t.Value x)))

  evaluated-same : (n : ℕ) (called : Bool) (scope : Scope) (e : Expr) → Same (evaluated n called scope e) (evaluated n called scope (moved_expr f e))
  unfolding evaluated
  evaluated-same zero called scope e = out _ _
  evaluated-same (suc n) called scope e = opened-same (evaluated n) (evaluated n) (λ c sc x. evaluated-same n c sc x) called scope e

  -- ---- statements

  module _ (n : ℕ) where
    value_to-same : (scope : Scope) (e : Expr) → Same (value_to n scope e) (value_to n scope (moved_expr f e))
    value_to-same scope e = value-same (evaluated n) (evaluated n) (λ c sc x. evaluated-same n c sc x) scope e

    value_or-same : (scope : Scope) (e : Option Expr) → Same (s.value_or_undefined n scope e) (s.value_or_undefined n scope (option_map (moved_expr f) e))
    value_or-same scope None = given v.Undefined
    value_or-same scope (Some e) = value_to-same scope e

    stored_value : (how : Declares) (scope : Scope) (x : List ℕ) (e : Option Expr)
        → Same (s.value_or_undefined n scope e >>= (λ y. store x (new_number how scope) y)) (s.value_or_undefined n scope (option_map (moved_expr f) e) >>= (λ y. store x (new_number how scope) y))
    stored_value how scope x e = bound _ _ _ _ (value_or-same scope e) (λ y. stored x (new_number how scope) y)

    declare_one-same : (how : Declares) (scope : Scope) (x : List ℕ) (e : Option Expr) → Same (s.declare_one n how scope x e) (s.declare_one n how scope x (option_map (moved_expr f) e))
    declare_one-same Var scope x None = given tt
    declare_one-same Var scope x (Some e) = stored_value Var scope x (Some e)
    declare_one-same Let scope x None = stored_value Let scope x None
    declare_one-same Let scope x (Some e) = stored_value Let scope x (Some e)
    declare_one-same Const scope x None = stored_value Const scope x None
    declare_one-same Const scope x (Some e) = stored_value Const scope x (Some e)

    declare_all-same : (how : Declares) (scope : Scope) (ns : List (Named × Option Expr)) → Same (s.declare_all n how scope ns) (s.declare_all n how scope (map (moved_given f) ns))
    declare_all-same how scope [] = given tt
    declare_all-same how scope (x ∷ xs) = bound _ _ _ _ (declare_one-same how scope x.0.name x.1) (λ u. declare_all-same how (declared how x.0.name scope) xs)

    declare-same : (scope : Scope) (d : Declaration) → Same (s.declare n scope d) (s.declare n scope (moved_declaration f d))
    unfolding s.declare
    declare-same scope d = bound _ _ _ _ (visited 1 d.place (f d.place)) (λ u. declare_all-same d.declares scope d.names)

    assigned : (scope : Scope) (x : List ℕ) (y : Value) → Same (assign scope x y) (assign scope x y)
    assigned scope x y = stored x _ y

    add_to-same : (scope : Scope) (x : Named) (e : Expr) → Same (s.add_to n scope x e) (s.add_to n scope (moved_named f x) (moved_expr f e))
    unfolding s.add_to
    add_to-same scope x e =
        bound _ _ _ _ (seen scope x.name) (λ a. bound _ _ _ _ (value_to-same scope e) (λ c. bound _ _ _ _ (lifted _ _ (added-alike x.place (f x.place) a c)) (λ z. assigned scope x.name z)))

    subtract_from-same : (scope : Scope) (x : Named) (e : Expr) → Same (s.subtract_from n scope x e) (s.subtract_from n scope (moved_named f x) (moved_expr f e))
    unfolding s.subtract_from
    subtract_from-same scope x e =
        bound _ _ _ _ (seen scope x.name) (λ a. bound _ _ _ _ (value_to-same scope e) (λ c. bound _ _ _ _ (lifted _ _ (calculated-alike x.place (f x.place) _ a c)) (λ z. assigned scope x.name z)))

    set-same : (scope : Scope) (x : Named) (e : Expr) → Same (s.set n scope x e) (s.set n scope (moved_named f x) (moved_expr f e))
    unfolding s.set
    set-same scope x e = bound _ _ _ _ (value_to-same scope e) (λ z. assigned scope x.name z)

    count-same : (scope : Scope) (x : Named) (by : ℤ) → Same (count scope x by) (count scope (moved_named f x) by)
    unfolding count
    count-same scope x by = bound _ _ _ _ (seen scope x.name) (λ a. bound _ _ _ _ (lifted _ _ (one_more-alike x.place (f x.place) a by)) (λ z. assigned scope x.name z))

    expression-same : (scope : Scope) (e : Expr) → Same (s.expression n scope e) (s.expression n scope (moved_expr f e))
    unfolding s.expression
    expression-same scope e = bound _ _ _ _ (value_to-same scope e) (λ x. given tt)

    simple_by-same : (scope : Scope) (x : Simple) → Same (s.simple_by n scope x) (s.simple_by n scope (moved_simple f x))
    simple_by-same scope (simples.Write x writes.Set e) = set-same scope x e
    simple_by-same scope (simples.Write x writes.Add e) = add_to-same scope x e
    simple_by-same scope (simples.Write x writes.Subtract e) = subtract_from-same scope x e
    simple_by-same scope (simples.Increment x) = count-same scope x (pos 1)
    simple_by-same scope (simples.Decrement x) = count-same scope x (negsuc 0)
    simple_by-same scope (simples.Value p e) = expression-same scope e

    simple-same : (scope : Scope) (x : Simple) → Same (s.simple n scope x) (s.simple n scope (moved_simple f x))
    unfolding s.simple
    simple-same scope x = bound _ _ _ _ (visited 1 (place_of_simple x) (place_of_simple (moved_simple f x))) (λ u. simple_by-same scope x)

    is_true-same : (scope : Scope) (p q : Place) (c : Expr) → Same (s.is_true n scope p c) (s.is_true n scope q (moved_expr f c))
    unfolding s.is_true
    is_true-same scope p q c = bound _ _ _ _ (value_to-same scope c) (λ x. lifted (truth p x) (truth q x) (truth-alike p q x))

    holds-same : (scope : Scope) (p q : Place) (c : Option Expr) → Same (s.holds n scope p c) (s.holds n scope q (option_map (moved_expr f) c))
    holds-same scope p q None = given true
    holds-same scope p q (Some c) = is_true-same scope p q c

    start-same : (scope : Scope) (x : Option Start) → Same (s.run_start n scope x) (s.run_start n scope (option_map (moved_start f) x))
    start-same scope None = given tt
    start-same scope (Some (starts.Declare d)) = declare-same scope d
    start-same scope (Some (starts.Simple x)) = simple-same scope x

    step-same : (scope : Scope) (x : Option Simple) → Same (s.run_step n scope x) (s.run_step n scope (option_map (moved_simple f) x))
    step-same scope None = given tt
    step-same scope (Some x) = simple-same scope x

    returned-same : (scope : Scope) (p q : Place) (e : Option Expr) → Same (s.returned n scope p e) (s.returned n scope q (option_map (moved_expr f) e))
    unfolding s.returned
    returned-same scope p q e = bound _ _ _ _ (visited 1 p q) (λ u. bound _ _ _ _ (value_or-same scope e) (λ x. given Return))

    throw-same : (scope : Scope) (p q : Place) (e : Expr) → Same (s.throw n scope p e) (s.throw n scope q (moved_expr f e))
    unfolding s.throw
    throw-same scope p q e = bound _ _ _ _ (visited 1 p q) (λ u. bound _ _ _ _ (value_to-same scope e) (λ x. lifted (Err (thrown p x)) (Err (thrown q x)) (thrown-alike p q x)))

    jump-same : (p q : Place) (how : Completion) → Same (jump p how) (jump q how)
    unfolding jump
    jump-same p q how = bound _ _ _ _ (visited 1 p q) (λ u. given how)

    after_normal-same : (g h : Act Completion) → Same g h → (how : Completion) → Same (after_normal g how) (after_normal h how)
    after_normal-same g h r Normal = r
    after_normal-same g h r Break = given Break
    after_normal-same g h r Continue = given Continue
    after_normal-same g h r Return = given Return

    after_round-same : (g h : Act Completion) → Same g h → (how : Completion) → Same (after_round g how) (after_round h how)
    after_round-same g h r Normal = r
    after_round-same g h r Break = given Normal
    after_round-same g h r Continue = r
    after_round-same g h r Return = given Return

    module _ (inner other : Scope → Statement → Act Completion) (same : (scope : Scope) (x : Statement) → Same (inner scope x) (other scope (moved_statement f x))) where
      run_all-same : (scope : Scope) (xs : List Statement) → Same (s.run_all n inner scope xs) (s.run_all n other scope (map (moved_statement f) xs))
      run_all-same scope [] = given Normal
      run_all-same scope (x ∷ xs) =
          bound _ _ _ _ (same scope x) (λ how. after_normal-same _ _
          (subst (λ sc. Same (s.run_all n inner (behind x scope) xs) (s.run_all n other sc (map (moved_statement f) xs))) (sym (behind-moved f x scope)) (run_all-same (behind x scope) xs)) how)

      block-same : (scope : Scope) (p q : Place) (xs : List Statement) → Same (s.block n inner scope p xs) (s.block n other scope q (map (moved_statement f) xs))
      unfolding s.block
      block-same scope p q xs = bound _ _ _ _ (visited 1 p q) (λ u. run_all-same scope xs)

      otherwise-same : (scope : Scope) (first : Statement) (x : Option Statement) → Same (s.otherwise n inner scope first x) (s.otherwise n other scope (moved_statement f first) (option_map (moved_statement f) x))
      otherwise-same scope first None = given Normal
      otherwise-same scope first (Some x) =
          subst (λ sc. Same (inner (behind first scope) x) (other sc (moved_statement f x))) (sym (behind-moved f first scope)) (same (behind first scope) x)

      choose-same : (scope : Scope) (p q : Place) (c : Expr) (first : Statement) (x : Option Statement)
          → Same (s.choose n inner scope p c first x) (s.choose n other scope q (moved_expr f c) (moved_statement f first) (option_map (moved_statement f) x))
      unfolding s.choose
      choose-same scope p q c first x =
          bound _ _ _ _ (visited 1 p q) (λ u. bound _ _ _ _ (is_true-same scope p q c) (λ goes. either goes _ _ _ _ (same scope first) (otherwise-same scope first x)))

      rounds-same : (m : ℕ) (scope : Scope) (p q : Place) (c : Option Expr) (last : Option Simple) (x : Statement)
          → Same (s.rounds n inner m scope p c last x) (s.rounds n other m scope q (option_map (moved_expr f) c) (option_map (moved_simple f) last) (moved_statement f x))
      unfolding s.rounds
      rounds-same zero scope p q c last x = out p q
      rounds-same (suc m) scope p q c last x =
          bound _ _ _ _ (holds-same scope p q c) (λ goes. either goes _ _ _ _
          (bound _ _ _ _ (same scope x) (λ how. after_round-same _ _ (bound _ _ _ _ (step-same scope last) (λ u. rounds-same m scope p q c last x)) how))
          (given Normal))

      all_rounds-same : (scope : Scope) (p q : Place) (c : Option Expr) (last : Option Simple) (x : Statement)
          → Same (s.all_rounds n inner scope p c last x) (s.all_rounds n other scope q (option_map (moved_expr f) c) (option_map (moved_simple f) last) (moved_statement f x))
      unfolding s.all_rounds
      all_rounds-same scope p q c last x = record { from = λ st. (rounds-same (st.visits + 1) scope p q c last x).from st }

      loop-same : (scope : Scope) (p q : Place) (start : Option Start) (c : Option Expr) (last : Option Simple) (x : Statement)
          → Same (s.loop_while n inner scope p start c last x) (s.loop_while n other scope q (option_map (moved_start f) start) (option_map (moved_expr f) c) (option_map (moved_simple f) last) (moved_statement f x))
      unfolding s.loop_while
      loop-same scope p q start c last x =
          bound _ _ _ _ (visited 1 p q) (λ u. bound _ _ _ _ (start-same scope start) (λ w.
          subst (λ sc. Same (s.all_rounds n inner (started start scope) p c last x) (s.all_rounds n other sc q (option_map (moved_expr f) c) (option_map (moved_simple f) last) (moved_statement f x)))
          (sym (started-moved f start scope)) (all_rounds-same (started start scope) p q c last x)))

      each-same : (scope : Scope) (x : List ℕ) (number : ℕ) (y : Statement) (xs : List Value) → Same (s.each n inner scope x number y xs) (s.each n other scope x number (moved_statement f y) xs)
      each-same scope x number y [] = given Normal
      each-same scope x number y (z ∷ zs) =
          bound _ _ _ _ (bound _ _ _ _ (stored x number z) (λ u. same scope y)) (λ how. after_round-same _ _ (each-same scope x number y zs) how)

      loop_of-same : (scope : Scope) (p q : Place) (how : Declares) (x : Named) (e : Expr) (y : Statement)
          → Same (s.loop_of n inner scope p how x e y) (s.loop_of n other scope q how (moved_named f x) (moved_expr f e) (moved_statement f y))
      unfolding s.loop_of
      loop_of-same scope p q how x e y =
          bound _ _ _ _ (visited 1 p q) (λ u. bound _ _ _ _ (value_to-same scope e) (λ z. bound _ _ _ _ (lifted _ _ (items_in-alike p q z)) (λ zs.
          each-same (declared how x.name scope) x.name (new_number how scope) y zs)))

      normally-same : (g h : Act (Unit {0})) → Same g h → Same (s.normally n inner g) (s.normally n other h)
      normally-same g h r = bound _ _ _ _ r (λ u. given Normal)

      statement_at-same : (scope : Scope) (l : StatementLayer) → Same (s.statement_at n inner scope l) (s.statement_at n other scope (moved_statement_layer f l))
      statement_at-same scope (Statement-F.Block p xs) = block-same scope p (f p) xs
      statement_at-same scope (Statement-F.Empty p) = jump-same p (f p) Normal
      statement_at-same scope (Statement-F.Declare d) = normally-same _ _ (declare-same scope d)
      statement_at-same scope (Statement-F.If p c x y) = choose-same scope p (f p) c x y
      statement_at-same scope (Statement-F.For p start c last x) = loop-same scope p (f p) start c last x
      statement_at-same scope (Statement-F.ForOf p how x e y) = loop_of-same scope p (f p) how x e y
      statement_at-same scope (Statement-F.Return p e) = returned-same scope p (f p) e
      statement_at-same scope (Statement-F.Throw p e) = throw-same scope p (f p) e
      statement_at-same scope (Statement-F.Break p) = jump-same p (f p) Break
      statement_at-same scope (Statement-F.Continue p) = jump-same p (f p) Continue
      statement_at-same scope (Statement-F.Simple x) = normally-same _ _ (simple-same scope x)

      opened_statement-same : (scope : Scope) (x : Statement) → Same (s.run_statement n inner scope x) (s.run_statement n other scope (moved_statement f x))
      unfolding s.run_statement
      opened_statement-same scope x =
          subst (λ l. Same (s.statement_at n inner scope (out-Statement x)) (s.statement_at n other scope l)) (sym (out-moved_statement f x)) (statement_at-same scope (out-Statement x))

  run-same : (n : ℕ) (scope : Scope) (x : Statement) → Same (run n scope x) (run n scope (moved_statement f x))
  unfolding run
  run-same zero scope x = out _ _
  run-same (suc n) scope x = opened_statement-same n (run n) (run n) (λ sc y. run-same n sc y) scope x

  body-same : (n : ℕ) (p : Program) → Same (body n p) (body n (moved f p))
  unfolding body
  body-same n p = block-same n (run n) (run n) (λ sc y. run-same n sc y) top p.place (f p.place) p.body

  second-moved : (x : Option Named) (old : Value) (xs : List _) → with_second (option_map (moved_named f) x) old xs ≡ with_second x old xs
  second-moved None old xs = refl
  second-moved (Some x) old xs = refl

  parameters-moved : (p : Program) (doc : Tree) (old : Option Tree) → parameters (moved f p) doc old ≡ parameters p doc old
  unfolding parameters
  parameters-moved p doc old = second-moved p.second (value_before old) _

pub places : PlacesChangeNoKind
unfolding meaning_within
places f few p doc old context =
    sym (then_alike (body (depth_for few) p (begin few p doc old context)) (body (depth_for few) (moved f p) (begin few (moved f p) doc old context)) gathered gathered
    (subst (λ xs. Alike (body (depth_for few) p (begin few p doc old context)) (body (depth_for few) (moved f p) (record { context = context; visits = few; variables = xs; effects = no_effects }))) (sym (parameters-moved f p doc old))
    ((body-same f (depth_for few) p).from (begin few p doc old context))) (λ end. refl))
