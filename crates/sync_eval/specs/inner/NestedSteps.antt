-- Function values that run a statement inside.
use Rattle.std.specs.Prelude.{ℕ}
use Rattle.std.specs.declared.alloc.Global.{Global}
use denote.Ref.{Bor, MutBor}
use Rattle.sync_values.specs.Found.{Found}
use Rattle.sync_meaning.specs.declared.completion.Completion.{Completion}
use Rattle.sync_meaning.specs.declared.state.State.{State}
use Rattle.sync_meaning.specs.Statements.{run}
use Rattle.sync_code.specs.declared.code.Step.{Step}
use Rattle.sync_code.specs.Steps.{step_fits, step_source}
use Rattle.sync_eval.specs.inner.Nested.{DoesWhere}

-- a function value that runs a statement inside, to this depth
pub record NestsStep (depth : ℕ) (pre : Global → ℕ → MutBor State → Bor Step → Type 0)
    (post : Global → ℕ → MutBor State → Bor Step → Found Completion → MutBor State → Type 0) : Type 0 where
  pub callable : (alloc : Global) (old : MutBor State) (s : Bor Step) → pre alloc depth old s
  pub does : (alloc : Global) (old new : MutBor State) (s : Bor Step) (r : Found Completion)
      → post alloc depth old s r new
      → DoesWhere (step_fits s.now) (λ scope. run depth scope (step_source s.now)) old.now r new.now
