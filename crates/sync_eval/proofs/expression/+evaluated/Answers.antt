use Rattle.std.proofs.Common.{◌≡◌, ◌∙◌, ap, sym, arith, Err}
use Rattle.sync_values.specs.declared.fault.RuleKind.TheVariants.{Fuel}
use Rattle.sync_values.specs.Found.{denial}
use Rattle.sync_meaning.specs.Expressions.{evaluated}
use Rattle.sync_code.specs.Code.{source}
use Rattle.sync_eval.proofs.Depths.{deeper}
use Rattle.sync_eval.proofs.expression.+evaluated.Goals as goal

pub returns-then-depth-eq0 : goal.returns-then-depth-eq0
unfolding evaluated
returns-then-depth-eq0 t c = λ scope f _.
    let none : c.args.depth ≡ 0 = omega arith in
    ap (λ n. evaluated n c.args.called scope (source c.args.expr.now) c.args.state.now) none ∙ ap (λ p. Err (denial Fuel p)) (sym c.place_of.ensures)

pub returns : goal.returns
unfolding evaluated
returns t c = λ scope f.
    rw (deeper (λ n. evaluated n c.args.called scope (source c.args.expr.now) c.args.state.now) c.args.depth (omega arith)) (c.opened.ensures scope f)
