use Rattle.std.proofs.Common.{rules, ◌≡◌, ◌++◌, ◌∷◌, [], ◌∙◌, List, length, map, refl, sym, ap, subst, arith}
use Rattle.std.proofs.lemmas.List.{append_assoc}
use Rattle.seq_gate.specs.Passes.{joined_passes}
use Rattle.seq_gate.specs.declared.known.Known.{Known}
use Rattle.session_threads.specs.Pairs.{AllOf}
use Rattle.session_threads.specs.inner.Runs.{joined_all}
use Rattle.session_threads.proofs.Pairs.{map_more, pairs_more}
use Rattle.session_threads.proofs.Threading.{joined_more}
use Rattle.session_threads.proofs.run.take_in_all.Goals as goal

pub loop-one-init : goal.loop-one-init
loop-one-init g c = record {
  here = search rules;
  room = search rules;
  all = search rules;
  len = search rules;
  others = subst (λ ds. AllOf (λ d. d.ground.gate ≡ c.args.gate.now) ds) (sym c.into_iter-one-iterator.ensures.into_iter_gives.0) c.requires.others;
  knows = refl;
  ended = rw (c.requires.none) tt;
}

pub take_in-requires-clause-other : goal.take_in-requires-clause-other
take_in-requires-clause-other g c = λ κs within. (subst (λ ds. AllOf (λ d. d.ground.gate ≡ c.args.gate.now) ds) c.in-Some.ensures.steps.0 c.loop-one.invariant.others).0

pub loop-one-preserved : goal.loop-one-preserved
loop-one-preserved g c =
    let was = c.loop-one.invariant in
    let steps = c.in-Some.ensures.steps in record {
      here = c.take_in.ensures.gate ∙ was.here;
      room = search rules;
      all = was.all ∙ ap (λ l. c.loop-one.yielded ++ l) steps.0 ∙ sym (append_assoc c.loop-one.yielded (c.in-Some.one ∷ []) _);
      len = omega (arith, was.len, steps.1, ap (λ l. length l) steps.0);
      others = (subst (λ ds. AllOf (λ d. d.ground.gate ≡ c.args.gate.now) ds) steps.0 was.others).1;
      knows = c.take_in.ensures.knows ∙ ap (λ (p : Known). joined_passes p c.in-Some.one.ground.knows) was.knows
          ∙ sym (joined_more c.args.pass.now.knows (map (λ d. d.ground.knows) c.loop-one.yielded) c.in-Some.one.ground.knows)
          ∙ ap (λ (ks : List Known). joined_all c.args.pass.now.knows ks) (sym (map_more (λ d. d.ground.knows) c.loop-one.yielded c.in-Some.one));
      ended = rw (c.push_reserved.ensures.items) (pairs_more _ c.loop-one.yielded _ c.in-Some.one _ was.ended (c.take_in.ensures.wire, c.take_in.ensures.ended, c.take_in.ensures.rests));
    }
