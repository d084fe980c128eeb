-- What is left of a rule behind its first part. Only contracts of private functions speak of it.
use Rattle.std.specs.Prelude.{ℕ, ◌-ℤ◌, if◌then◌else◌, codes, List, [], ◌∷◌}
use Rattle.sync_tokens.specs.declared.place.Place.{Place}
use Rattle.sync_syntax.specs.declared.tree.Expr.{Expr}
use Rattle.sync_syntax.specs.declared.tree.Named.{Named}
use Rattle.sync_syntax.specs.declared.tree.Statement.{Statement}
use Rattle.sync_values.specs.declared.callee.Builtin.{Builtin}
use Rattle.sync_values.specs.declared.callee.Builtin.TheVariants as b
use Rattle.sync_values.specs.declared.callee.Target.{Target}
use Rattle.sync_values.specs.declared.callee.Target.TheVariants as t
use Rattle.sync_values.specs.declared.value.Value.{Value}
use Rattle.sync_values.specs.Found.{Found}
use Rattle.sync_values.specs.Values.{added_values, calculated, indexed, truth}
use Rattle.sync_meaning.specs.declared.completion.Completion.{Completion}
use Rattle.sync_meaning.specs.declared.scope.Scope.{Scope}
use Rattle.sync_meaning.specs.Acts.{Act, ◌>>=◌, ◌>>◌, pure, lift}
use Rattle.sync_meaning.specs.Expressions.{value_to}
use Rattle.sync_meaning.specs.Statements.{assign, store, run}

-- the functions by which rules deny, which stand behind the others that are built in
abbrev pub rules : List (List ℕ × Builtin)
rules =
    (codes "requireUser", b.RequireUser) ∷ (codes "requireRole", b.RequireRole) ∷ (codes "requireAccess", b.RequireAccess) ∷
    (codes "requireAdmin", b.RequireAdmin) ∷ []

-- the item of a value at what an expression evaluates to
abbrev pub item_at : ℕ → Scope → Place → Value → Expr → Act Target
item_at depth scope p y e = do
  i ← value_to depth scope e
  z ← lift (indexed p y i)
  pure (t.Value z)

-- the one operand of `?:` or the other, by the value of the condition
abbrev pub chosen : ℕ → Scope → Place → Value → Expr → Expr → Act Value
chosen depth scope p x first other = do
  is_true ← lift (truth p x)
  if is_true then value_to depth scope first else value_to depth scope other

-- a variable takes what was found
abbrev pub assigned : Scope → Named → Found Value → Act (Unit {0})
assigned scope n found = do
  z ← lift found
  assign scope n.name z

-- `+=`, with what the variable held
abbrev pub add_value : ℕ → Scope → Named → Value → Expr → Act (Unit {0})
add_value depth scope n x e = do
  y ← value_to depth scope e
  assigned scope n (added_values n.place x y)

-- `-=`, with what the variable held
abbrev pub subtract_value : ℕ → Scope → Named → Value → Expr → Act (Unit {0})
subtract_value depth scope n x e = do
  y ← value_to depth scope e
  assigned scope n (calculated n.place (λ a b. a -ℤ b) x y)

-- a round for an item, which the variable of this name and number takes
abbrev pub round_of : ℕ → Scope → List ℕ → ℕ → Value → Statement → Act Completion
round_of depth scope name number x body = do
  store name number x
  run depth scope body
