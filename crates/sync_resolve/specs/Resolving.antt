-- The faults of a program's names.
use Rattle.std.specs.Prelude.{◌≡◌, ℕ, List, [], ◌∷◌, ◌++◌, Option, Some, None}
use Rattle.sync_syntax.specs.declared.tree.Declares.TheVariants.{Var}
use Rattle.sync_syntax.specs.declared.tree.Named.{Named}
use Rattle.sync_syntax.specs.declared.tree.Program.{Program}
use Rattle.sync_resolve.specs.declared.fault.ResolveFault.{ResolveFault}
use Rattle.sync_resolve.specs.declared.scope.Scope.{Scope}
use Rattle.sync_resolve.specs.Names.{once, top_scope, inside}
use Rattle.sync_resolve.specs.Statements.{all_var_names, walk_all}

-- the name of the second parameter, if there is one
abbrev pub second_name : Option Named → List (List ℕ)
second_name None = []
second_name (Some n) = n.name ∷ []

-- the function's own names: its parameters and those that `var` declares anywhere in it
unfoldable pub own_names : Program → List (List ℕ)
own_names p = p.first.name ∷ (second_name p.second ++ all_var_names p.body)

-- the second parameter is declared, if there is one
abbrev pub second_faults : Option Named → Scope → List ResolveFault
second_faults None scope = []
second_faults (Some n) scope = once Var n scope

-- the faults of the parameters
unfoldable pub parameter_faults : Program → Scope → List ResolveFault
parameter_faults p scope = once Var p.first scope ++ second_faults p.second scope

-- the faults of a program's names, in the order of the tree
unfoldable pub faults : Program → List ResolveFault
faults p = let scope = top_scope (own_names p) in parameter_faults p scope ++ (walk_all p.body (inside scope)).0

-- a program whose names all stand for something
abbrev pub IsResolved : Program → Type 0
IsResolved p = faults p ≡ []
