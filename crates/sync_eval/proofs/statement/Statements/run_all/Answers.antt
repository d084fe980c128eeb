use Rattle.std.proofs.Common.{◌≡◌, ◌∙◌, ap, sym, subst, refl, IsTrue, drop, Ok, rules, arith}
use Rattle.std.proofs.lemmas.Bool.{and_parts}
use Rattle.std.proofs.lemmas.Grind.{common_steps}
use Rattle.sync_meaning.specs.declared.completion.Completion.TheVariants.{Normal}
use Rattle.sync_meaning.specs.declared.scope.Scope.{Scope}
use Rattle.sync_meaning.specs.Acts.{and_then}
use Rattle.sync_meaning.specs.Statements.{run, run_all, after_normal}
use Rattle.sync_meaning.specs.Variables.{behind}
use Rattle.sync_code.specs.Steps.{step_source, step_sources, steps_fit}
use Rattle.sync_eval.proofs.InTurn.{split_left, none_left, rest_same}
use Rattle.sync_eval.proofs.statement.Statements.run_all.Goals as goal

pub loop-left-init : goal.loop-left-init
loop-left-init g c = λ first f. (first, f, refl)

pub returns-in_err-how : goal.returns-in_err-how
returns-in_err-how g c = λ first f.
    let i = c.loop-left.invariant first f in
    let l = split_left c.loop-left.left.now c.step-item.result c.in-len1-up.len_at_least c.step-item.is in
    let k = and_parts _ _ (subst (λ x. IsTrue (steps_fit x i.0)) l i.1) in
    let h = c.inner.ensures i.0 k.0 in
    let e = sym i.2 ∙ ap (λ x. run_all c.args.self.now.depth (run c.args.self.now.depth) i.0 (step_sources x) c.loop-left.state) l in
    first_of (search (rules, h, e), grind (arith, common_steps, h, e))

pub returns-then-ne : goal.returns-then-ne
returns-then-ne g c = λ first f.
    let i = c.loop-left.invariant first f in
    let l = split_left c.loop-left.left.now c.step-item.result c.in-len1-up.len_at_least c.step-item.is in
    let k = and_parts _ _ (subst (λ x. IsTrue (steps_fit x i.0)) l i.1) in
    let h = c.inner.ensures i.0 k.0 in
    let e = sym i.2 ∙ ap (λ x. run_all c.args.self.now.depth (run c.args.self.now.depth) i.0 (step_sources x) c.loop-left.state) l in
    first_of (search (rules, h, e), grind (arith, common_steps, h, e))

pub loop-left-preserved : goal.loop-left-preserved
loop-left-preserved g c = λ first f.
    let i = c.loop-left.invariant first f in
    let l = split_left c.loop-left.left.now c.step-item.result c.in-len1-up.len_at_least c.step-item.is in
    let k = and_parts _ _ (subst (λ x. IsTrue (steps_fit x i.0)) l i.1) in
    let h = c.inner.ensures i.0 k.0 in
    let e = sym i.2 ∙ ap (λ x. run_all c.args.self.now.depth (run c.args.self.now.depth) i.0 (step_sources x) c.loop-left.state) l in
    let normal : c.in_ok-how.how ≡ Normal = first_of (search rules, grind (arith, common_steps)) in
    let next = run_all c.args.self.now.depth (run c.args.self.now.depth) (behind (step_source c.step-item.result) i.0) (step_sources (drop 1 c.loop-left.left.now)) in
    let done : run c.args.self.now.depth i.0 (step_source c.step-item.result) c.loop-left.state ≡ Ok (Normal, c.inner.new.state) = first_of (search (rules, h, normal), grind (arith, common_steps, h, normal)) in
    let go = ap (λ r. and_then r (after_normal next)) done in
    subst (λ x. (scope : Scope) × IsTrue (steps_fit x scope) × (run_all c.args.self.now.depth (run c.args.self.now.depth) scope (step_sources x) c.inner.new.state ≡ run_all c.args.self.now.depth (run c.args.self.now.depth) first (step_sources c.args.steps.now) c.args.state.now))
    (sym (rest_same c.loop-left.left.now))
    (behind (step_source c.step-item.result) i.0, k.1, sym go ∙ sym e)

pub returns : goal.returns
returns g c = λ first f.
    let i = c.loop-left.invariant first f in
    sym i.2 ∙ ap (λ x. run_all c.args.self.now.depth (run c.args.self.now.depth) i.0 (step_sources x) c.loop-left.state) (none_left c.loop-left.left.now c.in_default.len_below)
