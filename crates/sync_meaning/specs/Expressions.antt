-- What expressions evaluate to.
use Rattle.std.specs.Prelude.{ℕ, zero, suc, ◌+◌, pos, Bool, true, false, not, ◌&&◌, if◌then◌else◌, codes, List, [], ◌∷◌, ◌++◌, length, Option, Some, None, Ok}
use Rattle.std.specs.Str.{bytes_eq}
use Rattle.sync_tokens.specs.declared.place.Place.{Place}
use Rattle.sync_syntax.specs.declared.tree.Operator.{Operator}
use Rattle.sync_syntax.specs.declared.tree.Operator.TheVariants as op
use Rattle.sync_syntax.specs.declared.tree.Prefix.{Prefix}
use Rattle.sync_syntax.specs.declared.tree.Expr.{Expr, out-Expr, fold-Expr}
use Rattle.sync_syntax.specs.declared.tree.Expr.TheOpen.{Expr-F, Suffix-F}
use Rattle.sync_syntax.specs.declared.tree.Suffix.{Suffix, out-Suffix}
use Rattle.sync_values.specs.declared.callee.Builtin.{Builtin}
use Rattle.sync_values.specs.declared.callee.Builtin.TheVariants as b
use Rattle.sync_values.specs.declared.callee.Method.{Method}
use Rattle.sync_values.specs.declared.callee.Method.TheVariants as m
use Rattle.sync_values.specs.declared.callee.Target.{Target}
use Rattle.sync_values.specs.declared.callee.Target.TheVariants as t
use Rattle.sync_values.specs.declared.value.Value.{Value}
use Rattle.sync_values.specs.declared.value.Value.TheVariants as v
use Rattle.sync_values.specs.Found.{Found, type_fault}
use Rattle.sync_values.specs.Values.{bounded, same_truth, truth, combined, prefixed, member, indexed, listed_values, by_method}
use Rattle.sync_meaning.specs.declared.scope.Scope.{Scope}
use Rattle.sync_meaning.specs.Acts.{Act, ◌>>=◌, ◌>>◌, pure, lift, visit, visits, out_of_visits}
use Rattle.sync_meaning.specs.Variables.{number_of, value_in}
use Rattle.sync_meaning.specs.Builtins.{built_in}

-- an expression as it is seen from outside
abbrev pub ExprLayer : Type 0
ExprLayer = Expr-F Expr Suffix

-- what follows an expression, seen from outside
abbrev pub SuffixLayer : Type 0
SuffixLayer = Suffix-F Expr Suffix

-- ---- places

-- the place of an expression, by those of the expressions in it
abbrev pub expr_place : Expr-F Place (Unit {0}) → Place
expr_place (Expr-F.Undefined p) = p
expr_place (Expr-F.Null p) = p
expr_place (Expr-F.Bool p b) = p
expr_place (Expr-F.Integer p n) = p
expr_place (Expr-F.Text p s) = p
expr_place (Expr-F.Name p n) = p
expr_place (Expr-F.List p es) = p
expr_place (Expr-F.Object p ms) = p
expr_place (Expr-F.Prefix p o e) = p
expr_place (Expr-F.Postfix first ss) = first
expr_place (Expr-F.Chain first ts) = first
expr_place (Expr-F.Choice c x y) = c

-- the place of an expression, which is that of its first character
abbrev pub place_of : Expr → Place
place_of = fold-Expr Place (Unit {0}) expr_place (λ _. tt)

-- ---- what is called

-- what stands first under a name
abbrev pub lookup : {A : Type 0} → List (List ℕ × A) → List ℕ → Option A
lookup [] name = None
lookup (f ∷ fs) name = if bytes_eq name f.0 then Some f.1 else lookup fs name

-- the functions that are built in, `Array.isArray` apart
abbrev pub builtins : List (List ℕ × Builtin)
builtins =
    (codes "channel", b.Channel) ∷ (codes "access", b.Access) ∷ (codes "role", b.Role) ∷ (codes "requireUser", b.RequireUser) ∷
    (codes "requireRole", b.RequireRole) ∷ (codes "requireAccess", b.RequireAccess) ∷ (codes "requireAdmin", b.RequireAdmin) ∷ []

-- the methods of values
abbrev pub methods : List (List ℕ × Method)
methods = (codes "indexOf", m.IndexOf) ∷ (codes "concat", m.Concat) ∷ (codes "startsWith", m.StartsWith) ∷ []

-- a function that is built in, or nothing that can be called
abbrev pub target_by : Option Builtin → Target
target_by (Some f) = t.Builtin f
target_by None = t.Nothing

-- what a name calls
unfoldable pub called_by : List ℕ → Target
called_by name = target_by (lookup builtins name)

-- a method of a value, or nothing that can be called
abbrev pub method_by : Value → Option Method → Target
method_by x (Some how) = t.Method x how
method_by x None = t.Nothing

-- what `.name` behind a value calls
unfoldable pub method_of : Value → List ℕ → Target
method_of x name = method_by x (lookup methods name)

-- a call, seen from outside
abbrev pub is_call_at : SuffixLayer → Bool
is_call_at (Suffix-F.Call es) = true
is_call_at _ = false

-- whether this is a call
abbrev pub is_call : Suffix → Bool
is_call s = is_call_at (out-Suffix s)

-- whether a call comes next; behind the last suffix as it is said
abbrev pub is_called : Bool → List Suffix → Bool
is_called behind [] = behind
is_called behind (s ∷ ss) = is_call s

-- the name `Array`, seen from outside
abbrev pub is_array_name_at : ExprLayer → Bool
is_array_name_at (Expr-F.Name p n) = bytes_eq n (codes "Array")
is_array_name_at _ = false

-- whether this is the name `Array`
abbrev pub is_array_name : Expr → Bool
is_array_name e = is_array_name_at (out-Expr e)

-- `.isArray`, seen from outside
abbrev pub is_array_member_at : SuffixLayer → Bool
is_array_member_at (Suffix-F.Member n) = bytes_eq n (codes "isArray")
is_array_member_at _ = false

-- whether this is `.isArray`
abbrev pub is_array_member : Suffix → Bool
is_array_member s = is_array_member_at (out-Suffix s)

-- `Array.isArray(`
abbrev pub calls_is_array : Bool → Expr → List Suffix → Bool
calls_is_array behind first [] = false
calls_is_array behind first (s ∷ ss) = is_array_name first && is_array_member s && is_called behind ss

-- the suffixes behind the first
abbrev pub without_first : List Suffix → List Suffix
without_first [] = []
without_first (s ∷ ss) = ss

-- whether a suffix ends a node, seen from outside
abbrev pub ends_node_at : Bool → SuffixLayer → Bool
ends_node_at called (Suffix-F.Member n) = not called
ends_node_at called _ = true

-- The callee of a call is no node, so that `.name` before a call ends none.
abbrev pub ends_node : Bool → Suffix → Bool
ends_node called s = ends_node_at called (out-Suffix s)

-- how many nodes end with these suffixes
abbrev pub node_count : Bool → List Suffix → ℕ
node_count behind [] = 0
node_count behind (s ∷ ss) = (if ends_node (is_called behind ss) s then 1 else 0) + node_count behind ss

-- ---- values

-- the value that was found; what can only be called is none
abbrev pub as_value : Place → Target → Found Value
as_value p (t.Value x) = Ok x
as_value p _ = type_fault p

-- what a variable of the scope holds
unfoldable pub read : Scope → List ℕ → Act Value
read scope name = λ s. Ok (value_in name (number_of name scope) s.variables, s)

-- ---- what needs no expression inside

-- what a name stands for
unfoldable pub name : Scope → Place → List ℕ → Act Value
name scope p n = do
  visit p
  read scope n

-- what a literal is
unfoldable pub literal : Place → Found Value → Act Value
literal p r = do
  visit p
  lift r

-- what is called is called with these arguments
abbrev pub call_by : Place → Target → List Value → Act Value
call_by p (t.Method x how) xs = lift (by_method p how x xs)
call_by p (t.Builtin f) xs = built_in p f xs
call_by p _ xs = lift (type_fault p)

-- a member, or before a call a method
unfoldable pub member_or_method : Bool → Place → Target → List ℕ → Act Target
member_or_method called p x name = do
  y ← lift (as_value p x)
  if called then pure (method_of y name) else (do z ← lift (member p name y); pure (t.Value z))

-- The first argument evaluates an expression inside: where it is given true, as what a call calls.
module _ (inner : Bool → Scope → Expr → Act Target) where
  -- the value of an expression inside
  unfoldable pub inner_value : Scope → Expr → Act Value
  inner_value scope e = do
    x ← inner false scope e
    lift (as_value (place_of e) x)

  -- the values of expressions from left to right, behind those found
  abbrev pub values_from : Scope → List Value → List Expr → Act (List Value)
  values_from scope found [] = pure found
  values_from scope found (e ∷ es) = inner_value scope e >>= (λ x. values_from scope (found ++ x ∷ []) es)

  -- the values of expressions from left to right
  unfoldable pub values : Scope → List Expr → Act (List Value)
  values scope es = values_from scope [] es

  -- the members of an object from left to right, behind those found
  abbrev pub members_from : Scope → List (List ℕ × Value) → List (List ℕ × Expr) → Act (List (List ℕ × Value))
  members_from scope found [] = pure found
  members_from scope found (e ∷ es) = inner_value scope e.1 >>= (λ x. members_from scope (found ++ (e.0, x) ∷ []) es)

  -- the members of an object from left to right
  unfoldable pub members : Scope → List (List ℕ × Expr) → Act (List (List ℕ × Value))
  members scope es = members_from scope [] es

  -- a list of expressions
  unfoldable pub list : Scope → Place → List Expr → Act Value
  list scope p es = do
    visit p
    xs ← values scope es
    lift (listed_values p xs)

  -- an object of expressions
  unfoldable pub object : Scope → Place → List (List ℕ × Expr) → Act Value
  object scope p es = do
    visit p
    ms ← members scope es
    pure (v.Object ms)

  -- an operator before its operand
  unfoldable pub prefix : Scope → Place → Prefix → Expr → Act Value
  prefix scope p o e = do
    visit p
    x ← inner_value scope e
    lift (prefixed p o x)

  -- `&&` and `||` give the first operand, or where it doesn't decide the second
  unfoldable pub decided : Scope → Place → Bool → Value → Expr → Act Value
  decided scope p deciding x e = do
    is_true ← lift (truth p x)
    if same_truth is_true deciding then pure x else inner_value scope e

  -- an operator that takes both operands
  unfoldable pub operated : Scope → Place → Operator → Value → Expr → Act Value
  operated scope p o x e = do
    y ← inner_value scope e
    lift (combined p o x y)

  -- an operator behind its first operand
  abbrev pub operation : Scope → Place → Operator → Value → Expr → Act Value
  operation scope p op.Or x e = decided scope p true x e
  operation scope p op.And x e = decided scope p false x e
  operation scope p o x e = operated scope p o x e

  -- operators from left to right, behind the first operand
  abbrev pub operations : Scope → Place → Value → List (Operator × Expr) → Act Value
  operations scope p x [] = pure x
  operations scope p x (o ∷ os) = operation scope p o.0 x o.1 >>= (λ y. operations scope p y os)

  -- operators that bind alike: the last is the outermost node, and all have the place of the first operand
  unfoldable pub chain : Scope → Expr → List (Operator × Expr) → Act Value
  chain scope first os = do
    visits (length os) (place_of first)
    x ← inner_value scope first
    operations scope (place_of first) x os

  -- `?:` gives the one operand or the other
  unfoldable pub choice : Scope → Expr → Expr → Expr → Act Value
  choice scope c first other = do
    visit (place_of c)
    x ← inner_value scope c
    is_true ← lift (truth (place_of c) x)
    if is_true then inner_value scope first else inner_value scope other

  -- ---- what stands behind an expression

  -- a call: the arguments first
  unfoldable pub call : Scope → Place → Target → List Expr → Act Value
  call scope p x es = do
    xs ← values scope es
    call_by p x xs

  -- `[e]` behind what was found; e is evaluated first
  unfoldable pub index : Scope → Place → Target → Expr → Act Target
  index scope p x e = do
    y ← lift (as_value p x)
    i ← inner_value scope e
    z ← lift (indexed p y i)
    pure (t.Value z)

  -- one suffix that is seen from outside
  abbrev pub suffix_at : Bool → Scope → Place → Target → SuffixLayer → Act Target
  suffix_at called scope p x (Suffix-F.Member n) = member_or_method called p x n
  suffix_at called scope p x (Suffix-F.Index e) = index scope p x e
  suffix_at called scope p x (Suffix-F.Call es) = do
    y ← call scope p x es
    pure (t.Value y)

  -- one suffix behind what was found; the first argument says whether a call follows
  unfoldable pub suffix : Bool → Scope → Place → Target → Suffix → Act Target
  suffix called scope p x s = suffix_at called scope p x (out-Suffix s)

  -- suffixes from left to right; the first argument says whether a call follows them
  abbrev pub suffixes : Bool → Scope → Place → Target → List Suffix → Act Target
  suffixes behind scope p x [] = pure x
  suffixes behind scope p x (s ∷ ss) = suffix (is_called behind ss) scope p x s >>= (λ y. suffixes behind scope p y ss)

  -- An expression with suffixes. The last is the outermost node, and all have the place of the first expression.
  -- The first argument says whether a call follows.
  unfoldable pub postfix : Bool → Scope → Expr → List Suffix → Act Target
  postfix behind scope first ss = do
    visits (node_count behind ss) (place_of first)
    if calls_is_array behind first ss then suffixes behind scope (place_of first) (t.Builtin b.IsArray) (without_first ss) else (do
      x ← inner (is_called behind ss) scope first
      suffixes behind scope (place_of first) x ss)

  -- ---- expressions

  -- an expression with suffixes as a value
  unfoldable pub postfix_value : Scope → Expr → List Suffix → Act Value
  postfix_value scope first ss = do
    x ← postfix false scope first ss
    lift (as_value (place_of first) x)

  -- the value of an expression that is seen from outside
  abbrev pub node_at : Scope → ExprLayer → Act Value
  node_at scope (Expr-F.Undefined p) = literal p (Ok v.Undefined)
  node_at scope (Expr-F.Null p) = literal p (Ok v.Null)
  node_at scope (Expr-F.Bool p b) = literal p (Ok (v.Bool b))
  node_at scope (Expr-F.Integer p n) = literal p (bounded p (pos n))
  node_at scope (Expr-F.Text p s) = literal p (Ok (v.Text s))
  node_at scope (Expr-F.Name p n) = name scope p n
  node_at scope (Expr-F.List p es) = list scope p es
  node_at scope (Expr-F.Object p ms) = object scope p ms
  node_at scope (Expr-F.Prefix p o e) = prefix scope p o e
  node_at scope (Expr-F.Postfix first ss) = postfix_value scope first ss
  node_at scope (Expr-F.Chain first os) = chain scope first os
  node_at scope (Expr-F.Choice c x y) = choice scope c x y

  -- the value of an expression
  unfoldable pub node : Scope → Expr → Act Value
  node scope e = node_at scope (out-Expr e)

  -- what a call calls, seen from outside
  abbrev pub callee_at : Scope → ExprLayer → Act Target
  callee_at scope (Expr-F.Name p n) = pure (called_by n)
  callee_at scope (Expr-F.Postfix first ss) = postfix true scope first ss
  callee_at scope _ = pure t.Nothing

  -- What a call calls. It is no node.
  unfoldable pub callee : Scope → Expr → Act Target
  callee scope e = callee_at scope (out-Expr e)

  -- an expression, or where it is called what the call calls
  unfoldable pub node_or_callee : Bool → Scope → Expr → Act Target
  node_or_callee called scope e = if called then callee scope e else (do x ← node scope e; pure (t.Value x))

-- To a depth that nothing reaches which has visits left: of two expressions that are open, one directly in the other,
-- at least one takes a visit.
unfoldable pub evaluated : ℕ → Bool → Scope → Expr → Act Target
evaluated zero called scope e = out_of_visits (place_of e)
evaluated (suc depth) called scope e = node_or_callee (evaluated depth) called scope e

-- the value of an expression, to this depth
abbrev pub value_to : ℕ → Scope → Expr → Act Value
value_to depth scope e = inner_value (evaluated depth) scope e
