use Rattle.std.proofs.Common.{◌≡◌, length, IsTrue}
use Rattle.sync_meaning.specs.declared.scope.Scope.{Scope}
use Rattle.sync_meaning.specs.Expressions.{evaluated, suffixes}
use Rattle.sync_code.specs.Code.{tails_fit, tail_sources}
use Rattle.sync_eval.proofs.expression.Expressions.suffixes.Given as goal

abbrev pub invariant-loop-left : goal.invariant-loop-left
invariant-loop-left g l = (scope : Scope) → IsTrue (tails_fit l.fn.suffixes scope) → IsTrue (tails_fit l.left scope) × (suffixes (evaluated l.self.depth) l.fn.behind scope l.fn.place l.target (tail_sources l.left) l.state ≡ suffixes (evaluated l.self.depth) l.fn.behind scope l.fn.place l.fn.first (tail_sources l.fn.suffixes) l.fn.state)

abbrev pub decreases-loop-left : goal.decreases-loop-left
decreases-loop-left g l = length l.left
