use Rattle.std.proofs.Common.{◌≡◌, length, IsTrue}
use Rattle.sync_meaning.specs.declared.scope.Scope.{Scope}
use Rattle.sync_meaning.specs.Statements.{each, run}
use Rattle.sync_code.specs.Steps.{step_fits, step_source}
use Rattle.sync_eval.proofs.statement.Statements.each.Given as goal

abbrev pub invariant-loop-left : goal.invariant-loop-left
invariant-loop-left g l = (scope : Scope) → IsTrue (step_fits l.fn.body scope)
    → each l.self.depth (run l.self.depth) scope l.fn.slot.name l.fn.slot.number (step_source l.fn.body) l.left l.state
    ≡ each l.self.depth (run l.self.depth) scope l.fn.slot.name l.fn.slot.number (step_source l.fn.body) l.fn.items l.fn.state

abbrev pub decreases-loop-left : goal.decreases-loop-left
decreases-loop-left g l = length l.left
