use Rattle.std.proofs.Common.{◌≡◌, [], length, IsTrue}
use Rattle.sync_meaning.specs.declared.scope.Scope.{Scope}
use Rattle.sync_meaning.specs.Expressions.{evaluated, members_from}
use Rattle.sync_code.specs.Code.{members_fit, member_sources}
use Rattle.sync_eval.proofs.expression.Expressions.members.Given as goal

abbrev pub invariant-loop-left : goal.invariant-loop-left
invariant-loop-left g l = (scope : Scope) → IsTrue (members_fit l.fn.exprs scope) → IsTrue (members_fit l.left scope) × (members_from (evaluated l.self.depth) scope l.found (member_sources l.left) l.state ≡ members_from (evaluated l.self.depth) scope [] (member_sources l.fn.exprs) l.fn.state)

abbrev pub decreases-loop-left : goal.decreases-loop-left
decreases-loop-left g l = length l.left
