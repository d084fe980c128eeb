use Rattle.std.proofs.Common.{◌≡◌, length, IsTrue}
use Rattle.sync_meaning.specs.declared.scope.Scope.{Scope}
use Rattle.sync_meaning.specs.Expressions.{evaluated, operations}
use Rattle.sync_code.specs.Code.{operands_fit, operand_sources}
use Rattle.sync_eval.proofs.expression.Expressions.operations.Given as goal

abbrev pub invariant-loop-left : goal.invariant-loop-left
invariant-loop-left g l = (scope : Scope) → IsTrue (operands_fit l.fn.tails scope) → IsTrue (operands_fit l.left scope) × (operations (evaluated l.self.depth) scope l.fn.place l.value (operand_sources l.left) l.state ≡ operations (evaluated l.self.depth) scope l.fn.place l.fn.first (operand_sources l.fn.tails) l.fn.state)

abbrev pub decreases-loop-left : goal.decreases-loop-left
decreases-loop-left g l = length l.left
