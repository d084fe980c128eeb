use Rattle.std.proofs.Common.{◌≡◌, map, drop}
use Rattle.sync_resolve.specs.Faults.{earliest}
use Rattle.sync_resolve.specs.Expressions as spec
use Rattle.sync_resolve.specs.Expressions.{said, said_behind}
use Rattle.sync_resolve.proofs.expression.+names.Given as goal

abbrev pub invariant-suffixes-loop-next : goal.invariant-suffixes-loop-next
invariant-suffixes-loop-next l =
    earliest l.first (spec.suffixes_faults l.fn.place l.array l.takes (map said_behind (drop l.next-index l.found)) l.fn.scope)
    ≡ earliest l.fn.first (spec.suffixes_faults l.fn.place l.fn.is_array l.fn.callee (map said_behind l.fn.found) l.fn.scope)

abbrev pub invariant-values-loop-expr : goal.invariant-values-loop-expr
invariant-values-loop-expr l =
    earliest l.first (spec.values_faults (map said (drop l.expr-index l.exprs)) l.fn.scope)
    ≡ earliest l.fn.first (spec.values_faults (map said l.fn.exprs) l.fn.scope)

abbrev pub invariant-members-loop-expr : goal.invariant-members-loop-expr
invariant-members-loop-expr l =
    earliest l.first (spec.members_faults (map (λ m. (m.0, said m.1)) (drop l.expr-index l.exprs)) l.fn.scope)
    ≡ earliest l.fn.first (spec.members_faults (map (λ m. (m.0, said m.1)) l.fn.exprs) l.fn.scope)

abbrev pub invariant-operands-loop-tail : goal.invariant-operands-loop-tail
invariant-operands-loop-tail l =
    earliest l.first (spec.operands (map (λ o. (o.0, said o.1)) (drop l.tail-index l.tails)) l.fn.scope)
    ≡ earliest l.fn.first (spec.operands (map (λ o. (o.0, said o.1)) l.fn.tails) l.fn.scope)
