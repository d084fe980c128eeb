use Rattle.std.proofs.Common.{rules, ◌++◌, ◌∷◌, [], ◌∙◌, List, length, refl, sym, ap, subst, arith}
use Rattle.std.proofs.lemmas.List.{append_assoc}
use Rattle.principals.specs.declared.admin_line.AdminLine.{AdminLine}
use Rattle.principals.specs.Script.{AreLines}
use Rattle.session_threads.proofs.Lining.{run_more}
use Rattle.session_threads.proofs.line.run_lines.Goals as goal

pub loop-line-init : goal.loop-line-init
loop-line-init g c = record {
  all = search rules;
  len = search rules;
  lawful = subst (λ (ls : List AdminLine). AreLines ls) (sym c.into_iter-line-iterator.ensures.into_iter_gives.0) c.requires.lines;
  draws = search rules;
  room = search rules;
  run = rw (c.requires.none) refl;
  origin = refl;
}

pub run_line-requires-clause-line : goal.run_line-requires-clause-line
run_line-requires-clause-line g c = (subst (λ (ls : List AdminLine). AreLines ls) c.in-Some.ensures.steps.0 c.loop-line.invariant.lawful).0

pub run_line-requires-clause-draws : goal.run_line-requires-clause-draws
run_line-requires-clause-draws g c = omega (arith, c.loop-line.invariant.draws, ap (λ (ls : List AdminLine). length ls) c.in-Some.ensures.steps.0)

pub loop-line-preserved : goal.loop-line-preserved
loop-line-preserved g c =
    let was = c.loop-line.invariant in
    let steps = c.in-Some.ensures.steps in record {
      all = was.all ∙ ap (λ (ls : List AdminLine). c.loop-line.yielded ++ ls) steps.0 ∙ sym (append_assoc c.loop-line.yielded (c.in-Some.line ∷ []) _);
      len = omega (arith, was.len, steps.1, ap (λ (ls : List AdminLine). length ls) steps.0);
      lawful = (subst (λ (ls : List AdminLine). AreLines ls) steps.0 was.lawful).1;
      draws = omega (arith, was.draws, c.run_line.ensures.spends.most, ap (λ (ls : List AdminLine). length ls) steps.0);
      room = search rules;
      run = rw (c.push_reserved.ensures.items) (run_more _ _ _ _ _ c.loop-line.yielded _ c.in-Some.line _ was.run c.run_line.ensures.run);
      origin = c.run_line.ensures.spends.origin ∙ was.origin;
    }
