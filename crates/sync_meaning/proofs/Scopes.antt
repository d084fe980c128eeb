-- What is seen behind statements, one after the other.
use Rattle.std.proofs.Common.{◌≡◌, List, [], ◌∷◌, map, refl}
use Rattle.sync_syntax.specs.declared.tree.Statement.{Statement}
use Rattle.sync_meaning.specs.declared.scope.Scope.{Scope}
use Rattle.sync_meaning.specs.Variables.{behind, behind_all, through}

pub through-behind : (ss : List Statement) (scope : Scope) → behind_all ss scope ≡ through (map behind ss) scope
through-behind [] scope = refl
through-behind (s ∷ ss) scope = through-behind ss (behind s scope)
