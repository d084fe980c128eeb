use Rattle.std.proofs.Common.{◌≡◌, false, List, ◌++◌, map, sym, ap, ◌∙◌, rules}
use Rattle.sync_syntax.specs.declared.tree.Operator.{Operator}
use Rattle.sync_syntax.specs.declared.tree.Expr.{Expr, the_lemmas}
use Rattle.sync_syntax.specs.declared.tree.Expr.TheOpen.{Expr-F}
use Rattle.sync_syntax.specs.declared.tree.Expr.TheVariants as e
use Rattle.sync_resolve.specs.declared.fault.ResolveFault.{ResolveFault}
use Rattle.sync_resolve.specs.Expressions.{said, expr_says, operands}
use Rattle.sync_resolve.specs.Faults.{earliest}
use Rattle.sync_resolve.proofs.Earliest.{earliest_append}
use Rattle.sync_resolve.proofs.expression.+names.Goals as goal

said_chain : (x : Expr) (ts : List (Operator × Expr)) → said (e.Chain x ts) ≡ expr_says (Expr-F.Chain (said x) (map (λ o. (o.0, said o.1)) ts))
said_chain x ts = search (rules, the_lemmas)

pub names-returns-in-Chain : goal.names-returns-in-Chain
names-returns-in-Chain t c =
    let scope = c.args.scope.now in
    let back = operands (map (λ o. (o.0, said o.1)) c.in-Chain.tails) scope in
    let front : Expr → List ResolveFault = λ x. (said x).faults false scope in
    c.operands.ensures
    ∙ ap (λ f. earliest f back) c.names-in-Chain.ensures
    ∙ sym (earliest_append c.args.first.now (front c.get-in-Chain.result.now) back)
    ∙ ap (λ x. earliest c.args.first.now (front x ++ back)) c.get-in-Chain.ensures
    ∙ ap (λ s. earliest c.args.first.now (s.faults c.args.called scope)) (sym (ap said c.in-Chain.is ∙ said_chain c.in-Chain.expr c.in-Chain.tails))
