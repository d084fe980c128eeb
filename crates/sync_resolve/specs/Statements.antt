-- The faults of the names in statements, and what statements declare.
use Rattle.std.specs.Prelude.{ℕ, List, [], ◌∷◌, ◌++◌, map, Option, Some, None}
use Rattle.sync_syntax.specs.declared.tree.Declares.{Declares}
use Rattle.sync_syntax.specs.declared.tree.Declares.TheVariants.{Var, Let, Const}
use Rattle.sync_syntax.specs.declared.tree.Expr.{Expr}
use Rattle.sync_syntax.specs.declared.tree.Named.{Named}
use Rattle.sync_syntax.specs.declared.tree.Simple.{Simple}
use Rattle.sync_syntax.specs.declared.tree.Simple.TheVariants as simples
use Rattle.sync_syntax.specs.declared.tree.Start.{Start}
use Rattle.sync_syntax.specs.declared.tree.Start.TheVariants as starts
use Rattle.sync_syntax.specs.declared.tree.Statement.{Statement, fold-Statement}
use Rattle.sync_syntax.specs.declared.tree.Statement.TheOpen.{Statement-F}
use Rattle.sync_resolve.specs.declared.fault.ResolveFault.{ResolveFault}
use Rattle.sync_resolve.specs.declared.scope.Scope.{Scope}
use Rattle.sync_resolve.specs.Names.{Variable, written_faults, once, declared_variables, more, inside}
use Rattle.sync_resolve.specs.Expressions.{Faults, nothing, value_faults, value_or_none}

-- ---- the names that `var` declares, which belong to the whole function

-- those of a declaration
abbrev pub names_by : Declares → List (Named × Option Expr) → List (List ℕ)
names_by Var ns = map (λ n. n.0.name) ns
names_by Let ns = []
names_by Const ns = []

-- those of the beginning of a `for`
abbrev pub names_at_start : Option Start → List (List ℕ)
names_at_start (Some (starts.Declare d)) = names_by d.declares d.names
names_at_start (Some (starts.Simple s)) = []
names_at_start None = []

-- the one of a `for .. of`
abbrev pub name_of_each : Declares → List ℕ → List (List ℕ)
name_of_each Var name = name ∷ []
name_of_each Let name = []
name_of_each Const name = []

-- these one behind the other
abbrev pub joined_names : List (List (List ℕ)) → List (List ℕ)
joined_names [] = []
joined_names (ns ∷ more) = ns ++ joined_names more

-- those of a statement that may be absent
abbrev pub names_or_none : Option (List (List ℕ)) → List (List ℕ)
names_or_none None = []
names_or_none (Some ns) = ns

-- those of a statement, by those of the statements in it
abbrev pub var_names_at : Statement-F (List (List ℕ)) → List (List ℕ)
var_names_at (Statement-F.Block p ns) = joined_names ns
var_names_at (Statement-F.Declare d) = names_by d.declares d.names
var_names_at (Statement-F.If p c ns ms) = ns ++ names_or_none ms
var_names_at (Statement-F.For p start c last ns) = names_at_start start ++ ns
var_names_at (Statement-F.ForOf p how name e ns) = name_of_each how name.name ++ ns
var_names_at _ = []

-- those of a statement
abbrev pub var_names : Statement → List (List ℕ)
var_names = fold-Statement (List (List ℕ)) var_names_at

-- those of statements
abbrev pub all_var_names : List Statement → List (List ℕ)
all_var_names ss = joined_names (map var_names ss)

-- ---- faults, and what is declared

-- what a part of a program has, by what is seen before it: its faults, and the variables that it gives to what follows it
-- in its block
abbrev pub Walk : Type 0
Walk = Scope → List ResolveFault × List Variable

-- one after the other: the second sees what the first declares
abbrev pub walk_then : Walk → Walk → Walk
walk_then f g scope = ((f scope).0 ++ (g (more scope (f scope).1)).0, (f scope).1 ++ (g (more scope (f scope).1)).1)

-- what declares nothing
abbrev pub only : Faults → Walk
only faults scope = (faults scope, [])

-- a block, as a `for` is one too with its head and its body: what it declares is not seen behind it
abbrev pub block_walk : Walk → Walk
block_walk f scope = ((f (inside scope)).0, [])

-- one variable, which is not seen in the value that it is given
abbrev pub declared_walk : Declares → Named → Option Expr → Walk
declared_walk how n e scope = (once how n scope ++ value_or_none e scope, declared_variables how n.name scope)

-- a declaration from left to right
abbrev pub declaration_walk : Declares → List (Named × Option Expr) → Walk
declaration_walk how [] = only nothing
declaration_walk how (n ∷ ns) = walk_then (declared_walk how n.0 n.1) (declaration_walk how ns)

-- a simple statement
abbrev pub simple_faults : Simple → Faults
simple_faults (simples.Write n how e) scope = written_faults n scope ++ value_faults e scope
simple_faults (simples.Increment n) scope = written_faults n scope
simple_faults (simples.Decrement n) scope = written_faults n scope
simple_faults (simples.Value p e) scope = value_faults e scope

-- the same where it may be absent
abbrev pub simple_or_none : Option Simple → Faults
simple_or_none None scope = []
simple_or_none (Some s) scope = simple_faults s scope

-- the beginning of a `for`
abbrev pub for_start : Option Start → Walk
for_start None = only nothing
for_start (Some (starts.Declare d)) = declaration_walk d.declares d.names
for_start (Some (starts.Simple s)) = only (simple_faults s)

-- the condition of a `for` and what it does behind each round
abbrev pub condition : Option Expr → Option Simple → Faults
condition c last scope = value_or_none c scope ++ simple_or_none last scope

-- the head of a `for`
abbrev pub for_head : Option Start → Option Expr → Option Simple → Walk
for_head begin c last = walk_then (for_start begin) (only (condition c last))

-- the head of a `for .. of`: its list does not see its variable
abbrev pub item : Declares → Named → Expr → Walk
item how n e scope = (once how n scope ++ value_faults e scope, declared_variables how n.name scope)

-- in turn
abbrev pub in_turn : List Walk → Walk
in_turn [] = only nothing
in_turn (f ∷ fs) = walk_then f (in_turn fs)

-- what may be absent
abbrev pub or_none : Option Walk → Walk
or_none None = only nothing
or_none (Some f) = f

-- an `if`: the statement behind `else` sees what the first one declares
abbrev pub if_walk : Expr → Walk → Option Walk → Walk
if_walk c f g = walk_then (only (value_faults c)) (walk_then f (or_none g))

-- a statement, by the statements in it
abbrev pub walk_at : Statement-F Walk → Walk
walk_at (Statement-F.Block p fs) = block_walk (in_turn fs)
walk_at (Statement-F.Empty p) = only nothing
walk_at (Statement-F.Declare d) = declaration_walk d.declares d.names
walk_at (Statement-F.If p c f g) = if_walk c f g
walk_at (Statement-F.For p begin c last f) = block_walk (walk_then (for_head begin c last) f)
walk_at (Statement-F.ForOf p how n e f) = block_walk (walk_then (item how n e) f)
walk_at (Statement-F.Return p e) = only (value_or_none e)
walk_at (Statement-F.Throw p e) = only (value_faults e)
walk_at (Statement-F.Break p) = only nothing
walk_at (Statement-F.Continue p) = only nothing
walk_at (Statement-F.Simple s) = only (simple_faults s)

-- a statement
abbrev pub walk : Statement → Walk
walk = fold-Statement Walk walk_at

-- statements in turn
abbrev pub walk_all : List Statement → Walk
walk_all ss = in_turn (map walk ss)
