use Rattle.std.proofs.Common.{◌∙◌, IsTrue, ap, sym, subst}
use Rattle.sync_meaning.specs.Meaning as spec
use Rattle.sync_meaning.specs.Statements.{run, block}
use Rattle.sync_meaning.specs.Variables.{top}
use Rattle.sync_code.specs.Steps.{step_sources, steps_fit}
use Rattle.sync_eval.proofs.Nodes.{does_as}
use Rattle.sync_eval.proofs.meaning.body.Goals as goal

pub returns : goal.returns
unfolding spec.body
returns c =
    let code = c.as_code-code.ensures in
    let depth = c.args.depth in
    let s = c.args.state.now in
    let b = c.block.ensures top (subst (λ x. IsTrue (steps_fit x top)) (sym c.as_slice.ensures) code.fits) in
    let body = ap step_sources c.as_slice.ensures ∙ code.body in
    does_as _ _ (ap (λ p. block depth (run depth) top p c.args.program.now.body s) (sym code.place) ∙ ap (λ x. block depth (run depth) top c.as_code-code.result.now.place x s) (sym body)) b
