use Rattle.std.proofs.Common.{◌≡◌, length, IsTrue}
use Rattle.sync_meaning.specs.declared.scope.Scope.{Scope}
use Rattle.sync_meaning.specs.Statements.{run, run_all}
use Rattle.sync_code.specs.Steps.{steps_fit, step_sources}
use Rattle.sync_eval.proofs.statement.Statements.run_all.Given as goal

abbrev pub invariant-loop-left : goal.invariant-loop-left
invariant-loop-left g l = (first : Scope) → IsTrue (steps_fit l.fn.steps first)
    → (scope : Scope) × IsTrue (steps_fit l.left scope)
    × (run_all l.self.depth (run l.self.depth) scope (step_sources l.left) l.state ≡ run_all l.self.depth (run l.self.depth) first (step_sources l.fn.steps) l.fn.state)

abbrev pub decreases-loop-left : goal.decreases-loop-left
decreases-loop-left g l = length l.left
