use Rattle.std.proofs.Common.{rules, ◌∙◌, length, sym, ap, subst, arith}
use Rattle.gateway_server.specs.Serving.{Each}
use Rattle.gateway_server.proofs.ServingSteps.{before, each, same}
use Rattle.gateway_server.proofs.accepting.finish_all.Goals as goal

pub loop-one-init : goal.loop-one-init
loop-one-init g c = record {
  len = search rules;
  jobs = subst (λ rs. Each (λ r. g.S.Serve.made c.args.serve.now r.child.promise.job.value) rs) (sym c.into_iter-one-iterator.ensures.into_iter_gives.0) c.requires.jobs;
  out = search rules;
  within = search rules;
  refused = search rules;
  follows = g.met.S.Serve.itself c.args.serve.now;
  served = same _ _ _;
  faults = search rules;
}

pub finish-requires-clause-job : goal.finish-requires-clause-job
finish-requires-clause-job g c = λ κs within. (subst (λ rs. Each (λ r. g.S.Serve.made c.loop-one.serve r.child.promise.job.value) rs) c.in-Some.ensures.steps.0 c.loop-one.invariant.jobs).0

pub loop-one-preserved : goal.loop-one-preserved
loop-one-preserved g c =
    let was = c.loop-one.invariant in
    let steps = c.in-Some.ensures.steps in
    let count = ap (λ l. length l) steps.0 in record {
      len = omega (arith, was.len, steps.1, count);
      jobs = each _ _ (λ r made. c.finish.ensures.stays r.child.promise.job.value made) _ (subst (λ rs. Each (λ r. g.S.Serve.made c.loop-one.serve r.child.promise.job.value) rs) steps.0 was.jobs).1;
      out = omega (arith, was.out, c.finish.ensures.out, count);
      within = omega (arith, was.within, c.finish.ensures.out, count);
      refused = c.finish.ensures.refused ∙ was.refused;
      follows = g.met.S.Serve.later _ _ _ was.follows c.finish.ensures.follows;
      served = before was.served c.finish.ensures.served;
      faults = omega (arith, was.faults, c.finish.ensures.faults);
    }
