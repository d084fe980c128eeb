-- What statements do.
use Rattle.std.specs.Prelude.{ℕ, zero, suc, ◌+◌, ℤ, pos, negsuc, ◌+ℤ◌, ◌-ℤ◌, Bool, true, if◌then◌else◌, codes, List, [], ◌∷◌, Option, Some, None, Ok, Err}
use Rattle.sync_tokens.specs.declared.place.Place.{Place}
use Rattle.sync_syntax.specs.declared.tree.Declares.{Declares}
use Rattle.sync_syntax.specs.declared.tree.Declares.TheVariants.{Var}
use Rattle.sync_syntax.specs.declared.tree.Declaration.{Declaration}
use Rattle.sync_syntax.specs.declared.tree.Expr.{Expr}
use Rattle.sync_syntax.specs.declared.tree.Named.{Named}
use Rattle.sync_syntax.specs.declared.tree.Simple.{Simple}
use Rattle.sync_syntax.specs.declared.tree.Simple.TheVariants as simples
use Rattle.sync_syntax.specs.declared.tree.Start.{Start}
use Rattle.sync_syntax.specs.declared.tree.Start.TheVariants as starts
use Rattle.sync_syntax.specs.declared.tree.Statement.{Statement, out-Statement}
use Rattle.sync_syntax.specs.declared.tree.Statement.TheOpen.{Statement-F}
use Rattle.sync_syntax.specs.declared.tree.Writes.TheVariants as writes
use Rattle.sync_values.specs.declared.fault.FaultKind.TheVariants.{Thrown}
use Rattle.sync_values.specs.declared.fault.RuleKind.TheVariants.{Forbidden}
use Rattle.sync_values.specs.declared.fault.Stop.{Stop}
use Rattle.sync_values.specs.declared.value.Value.{Value, out-Value}
use Rattle.sync_values.specs.declared.value.Value.TheOpen.{Value-F}
use Rattle.sync_values.specs.declared.value.Value.TheVariants as v
use Rattle.sync_values.specs.Found.{Found, denial, fault, type_fault}
use Rattle.sync_values.specs.Values.{Layer, found_then, last_named, truth, added_values, integer_in, bounded, calculated}
use Rattle.sync_meaning.specs.declared.completion.Completion.{Completion}
use Rattle.sync_meaning.specs.declared.completion.Completion.TheVariants.{Normal, Break, Continue, Return}
use Rattle.sync_meaning.specs.declared.scope.Scope.{Scope}
use Rattle.sync_meaning.specs.Acts.{Act, ◌>>=◌, ◌>>◌, pure, lift, visit, out_of_visits}
use Rattle.sync_meaning.specs.Variables.{number_of, new_number, declared, started, behind, variables_with}
use Rattle.sync_meaning.specs.Builtins.{text_in}
use Rattle.sync_meaning.specs.Expressions.{value_to, read}

-- a statement as it is seen from outside
abbrev pub StatementLayer : Type 0
StatementLayer = Statement-F Statement

-- ---- places

-- the place of a simple statement
abbrev pub place_of_simple : Simple → Place
place_of_simple (simples.Write n how e) = n.place
place_of_simple (simples.Increment n) = n.place
place_of_simple (simples.Decrement n) = n.place
place_of_simple (simples.Value p e) = p

-- the place of a statement that is seen from outside
abbrev pub place_at : StatementLayer → Place
place_at (Statement-F.Block p ss) = p
place_at (Statement-F.Empty p) = p
place_at (Statement-F.Declare d) = d.place
place_at (Statement-F.If p c s t) = p
place_at (Statement-F.For p start c last s) = p
place_at (Statement-F.ForOf p how n e s) = p
place_at (Statement-F.Return p e) = p
place_at (Statement-F.Throw p e) = p
place_at (Statement-F.Break p) = p
place_at (Statement-F.Continue p) = p
place_at (Statement-F.Simple s) = place_of_simple s

-- the place of a statement
unfoldable pub statement_place : Statement → Place
statement_place s = place_at (out-Statement s)

-- ---- variables

-- the variable of this name and number takes a value
unfoldable pub store : List ℕ → ℕ → Value → Act (Unit {0})
store name number x = λ s. Ok (tt, record s { variables = variables_with name number x s.variables })

-- the variable that a name stands for takes a value
abbrev pub assign : Scope → List ℕ → Value → Act (Unit {0})
assign scope name x = store name (number_of name scope) x

-- ---- what is thrown

-- the text that a value is, if there is one
abbrev pub text_of : Option Value → Option (List ℕ)
text_of (Some x) = text_in x
text_of None = None

-- the text under `forbidden` of an object that is seen from outside
abbrev pub forbidden_at : Layer → Option (List ℕ)
forbidden_at (Value-F.Object ms) = text_of (last_named (codes "forbidden") ms)
forbidden_at _ = None

-- the text that an object has under `forbidden`
unfoldable pub forbidden_in : Value → Option (List ℕ)
forbidden_in x = forbidden_at (out-Value x)

-- what throwing does, by the text under `forbidden`
abbrev pub thrown_by : Place → Option (List ℕ) → Stop
thrown_by p (Some s) = denial (Forbidden s) p
thrown_by p None = fault Thrown p

-- `throw` of an object with a text under `forbidden` denies with it; any other is a fault
unfoldable pub thrown : Place → Value → Stop
thrown p x = thrown_by p (forbidden_in x)

-- ---- lists

-- the items of a list that is seen from outside
abbrev pub items_at : Place → Layer → Found (List Value)
items_at p (Value-F.List xs) = Ok xs
items_at p _ = type_fault p

-- the items of a list; another value is a fault
unfoldable pub items_in : Place → Value → Found (List Value)
items_in p x = items_at p (out-Value x)

-- what follows a statement that ends normally
abbrev pub after_normal : Act Completion → Completion → Act Completion
after_normal next Normal = next
after_normal next how = pure how

-- what follows a round of a loop: the next one, unless the body ended the loop
abbrev pub after_round : Act Completion → Completion → Act Completion
after_round next Break = pure Normal
after_round next Return = pure Return
after_round next _ = next

-- an integer more or less
abbrev pub one_more : Place → Value → ℤ → Found Value
one_more p x by = found_then (integer_in p x) (λ a. bounded p (a +ℤ by))

-- `++` and `--`
unfoldable pub count : Scope → Named → ℤ → Act (Unit {0})
count scope n by = do
  x ← read scope n.name
  z ← lift (one_more n.place x by)
  assign scope n.name z

-- a visit, and the end of the statement
unfoldable pub jump : Place → Completion → Act Completion
jump p how = do
  visit p
  pure how

-- The first argument is the depth of the expressions inside.
module _ (depth : ℕ) where
  -- the value of an expression
  abbrev pub expression_value : Scope → Expr → Act Value
  expression_value scope e = value_to depth scope e

  -- undefined where there is none
  abbrev pub value_or_undefined : Scope → Option Expr → Act Value
  value_or_undefined scope None = pure v.Undefined
  value_or_undefined scope (Some e) = expression_value scope e

  -- One declaration. A `var` without a value leaves its variable as it is.
  abbrev pub declare_one : Declares → Scope → List ℕ → Option Expr → Act (Unit {0})
  declare_one Var scope name None = pure tt
  declare_one how scope name e = value_or_undefined scope e >>= (λ x. store name (new_number how scope) x)

  -- declarations from left to right; each sees those before it
  abbrev pub declare_all : Declares → Scope → List (Named × Option Expr) → Act (Unit {0})
  declare_all how scope [] = pure tt
  declare_all how scope (n ∷ ns) = declare_one how scope n.0.name n.1 >> declare_all how (declared how n.0.name scope) ns

  -- a declaration of variables
  unfoldable pub declare : Scope → Declaration → Act (Unit {0})
  declare scope d = do
    visit d.place
    declare_all d.declares scope d.names

  -- a variable and a value, by `+` or by an operation on integers
  unfoldable pub add_to : Scope → Named → Expr → Act (Unit {0})
  add_to scope n e = do
    x ← read scope n.name
    y ← expression_value scope e
    z ← lift (added_values n.place x y)
    assign scope n.name z

  -- `-=`
  unfoldable pub subtract_from : Scope → Named → Expr → Act (Unit {0})
  subtract_from scope n e = do
    x ← read scope n.name
    y ← expression_value scope e
    z ← lift (calculated n.place (λ a b. a -ℤ b) x y)
    assign scope n.name z

  -- `=`
  unfoldable pub set : Scope → Named → Expr → Act (Unit {0})
  set scope n e = do
    x ← expression_value scope e
    assign scope n.name x

  -- an expression whose value is passed over
  unfoldable pub expression : Scope → Expr → Act (Unit {0})
  expression scope e = do
    x ← expression_value scope e
    pure tt

  -- a simple statement, by its form
  abbrev pub simple_by : Scope → Simple → Act (Unit {0})
  simple_by scope (simples.Write n writes.Set e) = set scope n e
  simple_by scope (simples.Write n writes.Add e) = add_to scope n e
  simple_by scope (simples.Write n writes.Subtract e) = subtract_from scope n e
  simple_by scope (simples.Increment n) = count scope n (pos 1)
  simple_by scope (simples.Decrement n) = count scope n (negsuc 0)
  simple_by scope (simples.Value p e) = expression scope e

  -- a simple statement, which takes a visit
  unfoldable pub simple : Scope → Simple → Act (Unit {0})
  simple scope s = do
    visit (place_of_simple s)
    simple_by scope s

  -- whether a condition is true, by the statement at this place
  unfoldable pub is_true : Scope → Place → Expr → Act Bool
  is_true scope p c = do
    x ← expression_value scope c
    lift (truth p x)

  -- the same; a condition that is absent is
  abbrev pub holds : Scope → Place → Option Expr → Act Bool
  holds scope p None = pure true
  holds scope p (Some c) = is_true scope p c

  -- the beginning of a `for`, which may be absent
  abbrev pub run_start : Scope → Option Start → Act (Unit {0})
  run_start scope None = pure tt
  run_start scope (Some (starts.Declare d)) = declare scope d
  run_start scope (Some (starts.Simple s)) = simple scope s

  -- what a `for` does behind each round, which may be absent
  abbrev pub run_step : Scope → Option Simple → Act (Unit {0})
  run_step scope None = pure tt
  run_step scope (Some s) = simple scope s

  -- `return`; its value is passed over
  unfoldable pub returned : Scope → Place → Option Expr → Act Completion
  returned scope p e = do
    visit p
    x ← value_or_undefined scope e
    pure Return

  -- `throw`
  unfoldable pub throw : Scope → Place → Expr → Act Completion
  throw scope p e = do
    visit p
    x ← expression_value scope e
    (λ s. Err (thrown p x))

  -- The second argument runs a statement inside.
  module _ (inner : Scope → Statement → Act Completion) where
    -- statements in turn, as far as each ends normally; each sees what is declared before it
    abbrev pub run_all : Scope → List Statement → Act Completion
    run_all scope [] = pure Normal
    run_all scope (x ∷ xs) = inner scope x >>= after_normal (run_all (behind x scope) xs)

    -- a block of statements
    unfoldable pub block : Scope → Place → List Statement → Act Completion
    block scope p xs = do
      visit p
      run_all scope xs

    -- the statement behind `else`, which sees what the first one declares
    abbrev pub otherwise : Scope → Statement → Option Statement → Act Completion
    otherwise scope first None = pure Normal
    otherwise scope first (Some s) = inner (behind first scope) s

    -- `if`, by its condition
    unfoldable pub choose : Scope → Place → Expr → Statement → Option Statement → Act Completion
    choose scope p c first other = do
      visit p
      goes ← is_true scope p c
      if goes then inner scope first else otherwise scope first other

    -- ---- loops

    -- the rounds of a `for`, no more than this many
    unfoldable pub rounds : ℕ → Scope → Place → Option Expr → Option Simple → Statement → Act Completion
    rounds zero scope p c last body = out_of_visits p
    rounds (suc n) scope p c last body = do
      goes ← holds scope p c
      if goes then (do
        how ← inner scope body
        after_round (run_step scope last >> rounds n scope p c last body) how) else pure Normal

    -- Each round takes a visit at least, so that the visits that are left bound the rounds.
    unfoldable pub all_rounds : Scope → Place → Option Expr → Option Simple → Statement → Act Completion
    all_rounds scope p c last body = λ s. rounds (s.visits + 1) scope p c last body s

    -- `for`, with its beginning, its condition and what it does behind each round
    unfoldable pub loop_while : Scope → Place → Option Start → Option Expr → Option Simple → Statement → Act Completion
    loop_while scope p begin c last body = do
      visit p
      run_start scope begin
      all_rounds (started begin scope) p c last body

    -- a round for each item, which the variable of this name and number takes
    abbrev pub each : Scope → List ℕ → ℕ → Statement → List Value → Act Completion
    each scope name number body [] = pure Normal
    each scope name number body (x ∷ xs) = (do
      store name number x
      inner scope body) >>= after_round (each scope name number body xs)

    -- `for .. of`: over the items of a list, which is evaluated before its variable is seen
    unfoldable pub loop_of : Scope → Place → Declares → Named → Expr → Statement → Act Completion
    loop_of scope p how n e body = do
      visit p
      x ← expression_value scope e
      xs ← lift (items_in p x)
      each (declared how n.name scope) n.name (new_number how scope) body xs

    -- ---- statements

    -- what ends normally
    abbrev pub normally : Act (Unit {0}) → Act Completion
    normally act = act >> pure Normal

    -- a statement that is seen from outside
    abbrev pub statement_at : Scope → StatementLayer → Act Completion
    statement_at scope (Statement-F.Block p ss) = block scope p ss
    statement_at scope (Statement-F.Empty p) = jump p Normal
    statement_at scope (Statement-F.Declare d) = normally (declare scope d)
    statement_at scope (Statement-F.If p c s t) = choose scope p c s t
    statement_at scope (Statement-F.For p begin c last s) = loop_while scope p begin c last s
    statement_at scope (Statement-F.ForOf p how n e s) = loop_of scope p how n e s
    statement_at scope (Statement-F.Return p e) = returned scope p e
    statement_at scope (Statement-F.Throw p e) = throw scope p e
    statement_at scope (Statement-F.Break p) = jump p Break
    statement_at scope (Statement-F.Continue p) = jump p Continue
    statement_at scope (Statement-F.Simple s) = normally (simple scope s)

    -- a statement, one level down
    unfoldable pub run_statement : Scope → Statement → Act Completion
    run_statement scope s = statement_at scope (out-Statement s)

-- To a depth that nothing reaches which has visits left, since each statement takes one.
unfoldable pub run : ℕ → Scope → Statement → Act Completion
run zero scope s = out_of_visits (statement_place s)
run (suc depth) scope s = run_statement depth (run depth) scope s
