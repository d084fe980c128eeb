use Rattle.std.proofs.Common.{◌≡◌, ◌∙◌, ap, sym, arith, Err}
use Rattle.sync_values.specs.declared.fault.RuleKind.TheVariants.{Fuel}
use Rattle.sync_values.specs.Found.{denial}
use Rattle.sync_meaning.specs.Statements.{run}
use Rattle.sync_code.specs.Steps.{step_source}
use Rattle.sync_eval.proofs.Depths.{deeper}
use Rattle.sync_eval.proofs.statement.+run.Goals as goal

pub returns-then-depth-eq0 : goal.returns-then-depth-eq0
unfolding run
returns-then-depth-eq0 t c = λ scope f _.
    let none : c.args.depth ≡ 0 = omega arith in
    ap (λ n. run n scope (step_source c.args.step.now) c.args.state.now) none ∙ ap (λ p. Err (denial Fuel p)) (sym c.statement_place.ensures)

pub returns : goal.returns
unfolding run
returns t c = λ scope f.
    rw (deeper (λ n. run n scope (step_source c.args.step.now) c.args.state.now) c.args.depth (omega arith)) (c.opened.ensures scope f)
