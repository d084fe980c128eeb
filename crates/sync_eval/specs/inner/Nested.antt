-- What the parts of the judge ensure, and function values that evaluate what is inside.
use Rattle.std.specs.Prelude.{ℕ, Bool, IsTrue}
use Rattle.std.specs.declared.alloc.Global.{Global}
use denote.Ref.{Bor, MutBor}
use Rattle.sync_values.specs.declared.callee.Target.{Target}
use Rattle.sync_values.specs.Found.{Found}
use Rattle.sync_meaning.specs.declared.scope.Scope.{Scope}
use Rattle.sync_meaning.specs.declared.state.State.{State}
use Rattle.sync_meaning.specs.Acts.{Act, Does}
use Rattle.sync_meaning.specs.Expressions.{evaluated}
use Rattle.sync_code.specs.declared.code.Code.{Code}
use Rattle.sync_code.specs.Code.{Fits, fits, source}

-- wherever code fits what is seen, this is done
abbrev pub DoesWhere : {A : Type 0} → Fits → (Scope → Act A) → State → Found A → State → Type 0
DoesWhere fits act old result new = (scope : Scope) → IsTrue (fits scope) → Does (act scope old) result new

-- a function value that evaluates an expression inside, to this depth
pub record Nests (depth : ℕ) (pre : Global → ℕ → MutBor State → Bor Code → Bool → Type 0)
    (post : Global → ℕ → MutBor State → Bor Code → Bool → Found Target → MutBor State → Type 0) : Type 0 where
  pub callable : (alloc : Global) (old : MutBor State) (e : Bor Code) (called : Bool) → pre alloc depth old e called
  pub does : (alloc : Global) (old new : MutBor State) (e : Bor Code) (called : Bool) (r : Found Target)
      → post alloc depth old e called r new
      → DoesWhere (fits e.now) (λ scope. evaluated depth called scope (source e.now)) old.now r new.now
