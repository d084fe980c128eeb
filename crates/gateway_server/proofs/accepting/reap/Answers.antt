use Rattle.std.proofs.Common.{rules, ◌∙◌, length, sym, ap, subst, arith}
use Rattle.gateway_server.specs.Serving.{Each}
use Rattle.gateway_server.proofs.ServingSteps.{before, each, each_more, same}
use Rattle.gateway_server.proofs.accepting.reap.Goals as goal

pub loop-one-init : goal.loop-one-init
loop-one-init g c = record {
  len = search rules;
  jobs = subst (λ rs. Each (λ r. g.S.Serve.made c.args.serve.now r.child.promise.job.value) rs) (sym c.into_iter-one-iterator.ensures.into_iter_gives.0) c.requires.jobs;
  kept = rw (c.reserve.ensures.items, c.new-kept.ensures.items) tt;
  out = search rules;
  within = search rules;
  room = search rules;
  refused = search rules;
  follows = g.met.S.Serve.itself c.args.serve.now;
  served = same _ _ _;
  faults = search rules;
}

pub loop-one-preserved-then-has_ended : goal.loop-one-preserved-then-has_ended
loop-one-preserved-then-has_ended g c =
    let was = c.loop-one.invariant in
    let steps = c.in-Some.ensures.steps in
    let count = ap (λ l. length l) steps.0 in record {
      len = omega (arith, was.len, steps.1, count);
      jobs = each _ _ (λ r made. c.finish.ensures.stays r.child.promise.job.value made) _ (subst (λ rs. Each (λ r. g.S.Serve.made c.loop-one.serve r.child.promise.job.value) rs) steps.0 was.jobs).1;
      kept = each _ _ (λ r made. c.finish.ensures.stays r.child.promise.job.value made) _ was.kept;
      out = omega (arith, was.out, c.finish.ensures.out, count);
      within = omega (arith, was.within, c.finish.ensures.out, count);
      room = omega (arith, was.room, count);
      refused = c.finish.ensures.refused ∙ was.refused;
      follows = g.met.S.Serve.later _ _ _ was.follows c.finish.ensures.follows;
      served = before was.served c.finish.ensures.served;
      faults = omega (arith, was.faults, c.finish.ensures.faults);
    }

pub loop-one-preserved : goal.loop-one-preserved
loop-one-preserved g c =
    let was = c.loop-one.invariant in
    let steps = c.in-Some.ensures.steps in
    let count = ap (λ l. length l) steps.0 in
    let jobs = subst (λ rs. Each (λ r. g.S.Serve.made c.loop-one.serve r.child.promise.job.value) rs) steps.0 was.jobs in record {
      len = omega (arith, was.len, steps.1, count);
      jobs = jobs.1;
      kept = rw (c.push_reserved.ensures.items) (each_more _ _ _ was.kept jobs.0);
      out = omega (arith, was.out, c.push_reserved.ensures.len, count);
      within = omega (arith, was.within, c.push_reserved.ensures.len, count);
      room = omega (arith, was.room, c.push_reserved.ensures.len, c.push_reserved.ensures.capacity, count);
      refused = was.refused;
      follows = was.follows;
      served = was.served;
      faults = was.faults;
    }

pub returns-then-is_err-clause-served : goal.returns-then-is_err-clause-served
returns-then-is_err-clause-served g c = same _ _ _

pub returns-then-is_err-clause-follows : goal.returns-then-is_err-clause-follows
returns-then-is_err-clause-follows g c = g.met.S.Serve.itself c.args.serve.now
