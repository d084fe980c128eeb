use Rattle.std.proofs.Common.{◌≡◌, ◌++◌, ◌∷◌, [], ◌∙◌, List, length, ap, sym, subst, arith, append-nil}
use Rattle.std.proofs.lemmas.List.{append_assoc, length-append, nil_from_length}
use Rattle.principals.specs.declared.admin_line.AdminLine.{AdminLine}
use Rattle.principals.specs.Script.{AreLines}
use Rattle.replay_in_turn.specs.inner.Shape.{IsScriptRun}
use Rattle.replay_in_turn.proofs.Lines.{script_more}
use Rattle.replay_in_turn.proofs.script.run_script.Goals as goal

pub run_line-outcome-requires-clause-line : goal.run_line-outcome-requires-clause-line
run_line-outcome-requires-clause-line c =
    let A : List AdminLine → Type 0 = λ ls. AreLines ls in
    (subst A c.in-Some.ensures.steps.0 c.loop-line.invariant.rest).0

pub loop-line-preserved : goal.loop-line-preserved
loop-line-preserved c =
    let A : List AdminLine → Type 0 = λ ls. AreLines ls in
    record {
      run = script_more c.args.program.now c.args.strict 2 c.loop-line.number c.loop-line.yielded _ _ _ _ _ _ c.in-Some.line c.run_line-outcome.result c.loop-line.invariant.run c.run_line-outcome.ensures.line c.loop-line.invariant.number c.in_ok-print_outcome.ensures;
      own = c.run_line-outcome.ensures.own;
      number = omega (arith, c.loop-line.invariant.number, length-append c.loop-line.yielded (c.in-Some.line ∷ []));
      rest = (subst A c.in-Some.ensures.steps.0 c.loop-line.invariant.rest).1;
      all = c.loop-line.invariant.all ∙ ap (λ (ls : List AdminLine). c.loop-line.yielded ++ ls) c.in-Some.ensures.steps.0 ∙ sym (append_assoc c.loop-line.yielded (c.in-Some.line ∷ []) _);
      len = omega (arith, c.loop-line.invariant.len, c.in-Some.ensures.steps.1, ap (λ (l : List AdminLine). length l) c.in-Some.ensures.steps.0);
    }

pub returns-clause-run : goal.returns-clause-run
returns-clause-run c =
    let none : c.loop-line.line-iterator.rest.items ≡ [] = nil_from_length c.loop-line.line-iterator.rest.items (omega (arith, c.loop-line.invariant.len, c.in-None.ensures.steps.0)) in
    let whole : c.args.lines ≡ c.loop-line.yielded = c.loop-line.invariant.all ∙ ap (λ (l : List AdminLine). c.loop-line.yielded ++ l) none ∙ append-nil c.loop-line.yielded in
    subst (λ (l : List AdminLine). IsScriptRun c.args.program.now c.args.strict 2 l c.args.ground.now.board.log c.loop-line.ground.board.log c.args.out.now c.loop-line.out) (sym whole) c.loop-line.invariant.run
