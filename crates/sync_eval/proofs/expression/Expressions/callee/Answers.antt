use Rattle.std.proofs.Common.{◌∙◌, ◌&&◌, true, Ok, IsTrue, ap, sym, subst}
use Rattle.sync_meaning.specs.Expressions as spec
use Rattle.sync_meaning.specs.Expressions.{evaluated}
use Rattle.sync_code.specs.Code.{source, tail_sources, fits, tails_fit}
use Rattle.sync_eval.specs.inner.Nested.{DoesWhere}
use Rattle.sync_eval.proofs.Nodes.{does_as, callee_Name, callee_Postfix, fits_Postfix}
use Rattle.sync_eval.proofs.expression.Expressions.callee.Goals as goal

pub returns-in-Name : goal.returns-in-Name
returns-in-Name g c = λ scope f.
    let inner = evaluated c.args.self.now.depth in
    let s = c.args.state.now in
    ap (λ x. spec.callee inner scope (source x) s) c.in-Name.is ∙ callee_Name inner scope s _ _
    ∙ ap (λ n. Ok (spec.called_by n, s)) (sym c.as_str.ensures) ∙ ap (λ t. Ok (t, s)) (sym c.called_by.ensures)

pub returns-in-Postfix : goal.returns-in-Postfix
returns-in-Postfix g c = λ scope f.
    let inner = evaluated c.args.self.now.depth in
    let s = c.args.state.now in
    let h = subst (λ x. DoesWhere (λ k. fits x k && tails_fit c.as_slice.result.now k) (λ k. spec.postfix inner true k (source x) (tail_sources c.as_slice.result.now)) s c.postfix.result c.postfix.new.state) c.get.ensures c.postfix.ensures in
    let h = subst (λ x. DoesWhere (λ k. fits c.in-Postfix.first k && tails_fit x k) (λ k. spec.postfix inner true k (source c.in-Postfix.first) (tail_sources x)) s c.postfix.result c.postfix.new.state) c.as_slice.ensures h in
    let k = subst (λ b. IsTrue b) (ap (λ x. fits x scope) c.in-Postfix.is ∙ fits_Postfix scope _ _) f in
    does_as _ _ (ap (λ x. spec.callee inner scope (source x) s) c.in-Postfix.is ∙ callee_Postfix inner scope s _ _) (h scope k)
