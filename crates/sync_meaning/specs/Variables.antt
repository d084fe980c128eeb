-- Names: which variable a name stands for, and what the variables hold.
use Rattle.std.specs.Prelude.{ℕ, ◌+◌, if◌then◌else◌, List, [], ◌∷◌, ◌++◌, Option, None, Some, unwrap_or}
use Rattle.sync_syntax.specs.declared.tree.Declares.{Declares}
use Rattle.sync_syntax.specs.declared.tree.Declares.TheVariants.{Var, Let, Const}
use Rattle.sync_syntax.specs.declared.tree.Expr.{Expr}
use Rattle.sync_syntax.specs.declared.tree.Named.{Named}
use Rattle.sync_syntax.specs.declared.tree.Start.{Start}
use Rattle.sync_syntax.specs.declared.tree.Start.TheVariants as starts
use Rattle.sync_syntax.specs.declared.tree.Statement.{Statement, fold-Statement}
use Rattle.sync_syntax.specs.declared.tree.Statement.TheOpen.{Statement-F}
use Rattle.sync_values.specs.declared.value.Value.{Value}
use Rattle.sync_values.specs.declared.value.Value.TheVariants as v
use Rattle.sync_values.specs.Values.{last_named}
use Rattle.sync_meaning.specs.declared.scope.Scope.{Scope}
use Rattle.sync_meaning.specs.declared.variables.Variable.{Variable}
use Rattle.sync_meaning.specs.Slots.{is_variable}

-- ---- which variables of `let` and `const` are seen. This is by the text alone, whatever runs.

-- nothing is seen before the first declaration
unfoldable pub top : Scope
top = record { seen = []; next = 1 }

-- the number of the variable that a name stands for: of those that are seen the latest, else 0, the function's own
unfoldable pub number_of : List ℕ → Scope → ℕ
number_of name scope = unwrap_or (last_named name scope.seen) 0

-- the number that a declaration gives its variable
abbrev pub new_number : Declares → Scope → ℕ
new_number Var scope = 0
new_number Let scope = scope.next
new_number Const scope = scope.next

-- what is seen from the end of a declaration: its variable too, which has a number of its own
abbrev pub declared : Declares → List ℕ → Scope → Scope
declared Var name scope = scope
declared Let name scope = record { seen = scope.seen ++ (name, scope.next) ∷ []; next = scope.next + 1 }
declared Const name scope = record { seen = scope.seen ++ (name, scope.next) ∷ []; next = scope.next + 1 }

-- what is seen behind declarations, one after the other
abbrev pub all_declared : Declares → List (Named × Option Expr) → Scope → Scope
all_declared how [] scope = scope
all_declared how (n ∷ ns) scope = all_declared how ns (declared how n.0.name scope)

-- what is seen behind a block: what was before it, and its numbers are given to no other variable
abbrev pub left : Scope → Scope → Scope
left outer inner = record { seen = outer.seen; next = inner.next }

-- what is seen behind the beginning of a `for`
abbrev pub started : Option Start → Scope → Scope
started (Some (starts.Declare d)) scope = all_declared d.declares d.names scope
started (Some (starts.Simple s)) scope = scope
started None scope = scope

-- what is seen behind statements, by what is seen behind each
abbrev pub through : List (Scope → Scope) → Scope → Scope
through [] scope = scope
through (f ∷ fs) scope = through fs (f scope)

-- what is seen behind a statement that may be absent
abbrev pub through_other : Option (Scope → Scope) → Scope → Scope
through_other None scope = scope
through_other (Some f) scope = f scope

-- what is seen behind a statement, by what is seen behind those in it
abbrev pub seen_behind : Statement-F (Scope → Scope) → Scope → Scope
seen_behind (Statement-F.Block p fs) = λ scope. left scope (through fs scope)
seen_behind (Statement-F.Declare d) = λ scope. all_declared d.declares d.names scope
seen_behind (Statement-F.If p c f g) = λ scope. through_other g (f scope)
seen_behind (Statement-F.For p start c last f) = λ scope. left scope (f (started start scope))
seen_behind (Statement-F.ForOf p how name e f) = λ scope. left scope (f (declared how name.name scope))
seen_behind _ = λ scope. scope

-- what is seen behind a statement
abbrev pub behind : Statement → Scope → Scope
behind = fold-Statement (Scope → Scope) seen_behind

-- what is seen behind statements
abbrev pub behind_all : List Statement → Scope → Scope
behind_all [] scope = scope
behind_all (s ∷ ss) scope = behind_all ss (behind s scope)

-- ---- what the variables hold

-- what a variable holds: undefined where it was not written
abbrev pub value_in : List ℕ → ℕ → List Variable → Value
value_in name number [] = v.Undefined
value_in name number (x ∷ xs) = if is_variable name number x then x.value else value_in name number xs

-- the variable of a name and a number, with what it holds
abbrev pub variable : List ℕ → ℕ → Value → Variable
variable name number x = record { name = name; number = number; value = x }

-- the variables where this one holds a value
abbrev pub variables_with : List ℕ → ℕ → Value → List Variable → List Variable
variables_with name number x [] = variable name number x ∷ []
variables_with name number x (y ∷ ys) = if is_variable name number y then variable name number x ∷ ys else y ∷ variables_with name number x ys
