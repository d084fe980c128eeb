use Rattle.std.proofs.Common.{◌≡◌, [], length, IsTrue}
use Rattle.sync_meaning.specs.declared.scope.Scope.{Scope}
use Rattle.sync_meaning.specs.Expressions.{evaluated, values_from}
use Rattle.sync_code.specs.Code.{all_fit, sources}
use Rattle.sync_eval.proofs.expression.Expressions.values.Given as goal

abbrev pub invariant-loop-left : goal.invariant-loop-left
invariant-loop-left g l = (scope : Scope) → IsTrue (all_fit l.fn.exprs scope) → IsTrue (all_fit l.left scope) × (values_from (evaluated l.self.depth) scope l.found (sources l.left) l.state ≡ values_from (evaluated l.self.depth) scope [] (sources l.fn.exprs) l.fn.state)

abbrev pub decreases-loop-left : goal.decreases-loop-left
decreases-loop-left g l = length l.left
