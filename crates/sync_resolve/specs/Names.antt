-- Which names are known at a place, and what is wrong with the use of one.
use Rattle.std.specs.Prelude.{ℕ, ◌+◌, ◌==◌, Bool, true, false, not, ◌&&◌, ◌||◌, if◌then◌else◌, codes, List, [], ◌∷◌, ◌++◌, Option, Some, None}
use Rattle.std.specs.List.{list_any}
use Rattle.std.specs.Str.{bytes_eq}
use Rattle.sync_tokens.specs.declared.place.Place.{Place}
use Rattle.sync_syntax.specs.declared.tree.Declares.{Declares}
use Rattle.sync_syntax.specs.declared.tree.Declares.TheVariants.{Var, Let, Const}
use Rattle.sync_syntax.specs.declared.tree.Named.{Named}
use Rattle.sync_resolve.specs.declared.callee.Takes.{Takes}
use Rattle.sync_resolve.specs.declared.callee.Takes.TheVariants as takes
use Rattle.sync_resolve.specs.declared.fault.ResolveFault.{ResolveFault}
use Rattle.sync_resolve.specs.declared.fault.ResolveFault.TheVariants.{UnknownName, Redeclared, ConstWritten}
use Rattle.sync_resolve.specs.declared.scope.Bound.{Bound}
use Rattle.sync_resolve.specs.declared.scope.Scope.{Scope}

-- ---- the functions that are built in

-- what stands first under a name
abbrev pub lookup_name : {A : Type 0} → List (List ℕ × A) → List ℕ → Option A
lookup_name [] name = None
lookup_name (f ∷ fs) name = if bytes_eq name f.0 then Some f.1 else lookup_name fs name

-- the functions that are built in, and how many arguments each takes; `Array.isArray` apart
abbrev pub functions : List (List ℕ × Takes)
functions =
    (codes "channel", takes.OneOrMore) ∷ (codes "access", takes.Two) ∷ (codes "role", takes.Two) ∷ (codes "requireUser", takes.One) ∷
    (codes "requireRole", takes.One) ∷ (codes "requireAccess", takes.One) ∷ (codes "requireAdmin", takes.Nothing) ∷ []

-- the methods of values, each of which takes one argument
abbrev pub known_methods : List (List ℕ × Takes)
known_methods = (codes "indexOf", takes.One) ∷ (codes "concat", takes.One) ∷ (codes "startsWith", takes.One) ∷ []

-- how many arguments the function of this name takes, if there is one
unfoldable pub function_takes : List ℕ → Option Takes
function_takes name = lookup_name functions name

-- how many arguments the method of this name takes, if there is one
unfoldable pub method_takes : List ℕ → Option Takes
method_takes name = lookup_name known_methods name

-- whether there is something
abbrev pub is_there : {A : Type 0} → Option A → Bool
is_there (Some a) = true
is_there None = false

-- whether a name is that of a function that is built in
unfoldable pub is_function : List ℕ → Bool
is_function name = is_there (function_takes name)

-- ---- what is seen

-- what stands last under a name, else what was found before
abbrev pub last_under : {A : Type 0} → List ℕ → Option A → List (List ℕ × A) → Option A
last_under name found [] = found
last_under name found (m ∷ ms) = last_under name (if bytes_eq name m.0 then Some m.1 else found) ms

-- the variable of `let` or `const` that a name stands for: of those that are seen the latest
unfoldable pub bound : List ℕ → Scope → Option Bound
bound name scope = last_under name None scope.seen

-- whether a name is that of a parameter or is declared by `var` anywhere in the function
unfoldable pub is_own : List ℕ → Scope → Bool
is_own name scope = list_any (bytes_eq name) scope.own

-- a variable that was found, or one of the function's own
abbrev pub is_bound_or : Option Bound → Bool → Bool
is_bound_or (Some b) own = true
is_bound_or None own = own

-- whether a name stands for a variable
unfoldable pub is_known : List ℕ → Scope → Bool
is_known name scope = not (is_function name) && is_bound_or (bound name scope) (is_own name scope)

-- a fault unless this is so
abbrev pub unless : Bool → ResolveFault → List ResolveFault
unless true e = []
unless false e = e ∷ []

-- a name whose value is wanted stands for a variable
unfoldable pub used : Place → List ℕ → Scope → List ResolveFault
used p name scope = unless (is_known name scope) (UnknownName p)

-- whether this is a constant
abbrev pub is_constant : Option Bound → Bool
is_constant (Some b) = b.constant
is_constant None = false

-- a name that is written stands for a variable, and for no constant
unfoldable pub written_faults : Named → Scope → List ResolveFault
written_faults n scope = if is_known n.name scope then unless (not (is_constant (bound n.name scope))) (ConstWritten n.place) else UnknownName n.place ∷ []

-- ---- what is declared

-- whether this is of the block with this number
abbrev pub is_of_block : ℕ → Option Bound → Bool
is_of_block block (Some b) = b.block == block
is_of_block block None = false

-- whether a name may not be declared here: it is that of a function that is built in, or `let` or `const` of the block has it
abbrev pub redeclares : Declares → List ℕ → Scope → Bool
redeclares Var name scope = is_function name
redeclares Let name scope = is_function name || is_of_block scope.block (bound name scope)
redeclares Const name scope = is_function name || is_of_block scope.block (bound name scope)

-- a name is declared once in a block
unfoldable pub once : Declares → Named → Scope → List ResolveFault
once how n scope = unless (not (redeclares how n.name scope)) (Redeclared n.place)

-- a variable of `let` or `const` with its name
abbrev pub Variable : Type 0
Variable = List ℕ × Bound

-- the variable that a declaration gives to what follows in its block
abbrev pub declared_variables : Declares → List ℕ → Scope → List Variable
declared_variables Var name scope = []
declared_variables Let name scope = (name, record { block = scope.block; constant = false }) ∷ []
declared_variables Const name scope = (name, record { block = scope.block; constant = true }) ∷ []

-- what is seen where these are declared besides
unfoldable pub more : Scope → List Variable → Scope
more scope added = record { own = scope.own; seen = scope.seen ++ added; block = scope.block }

-- what is seen at the beginning of a block
unfoldable pub inside : Scope → Scope
inside scope = record { own = scope.own; seen = scope.seen; block = scope.block + 1 }

-- what is seen at the beginning of a function with these names of its own
abbrev pub top_scope : List (List ℕ) → Scope
top_scope own = record { own = own; seen = []; block = 0 }
