use Rattle.std.proofs.Common.{◌∙◌, arith}
use Rattle.gateway_server.proofs.ServingSteps.{before}
use Rattle.gateway_server.proofs.accepting.serve_all.Goals as goal

pub returns-in-Some-clause-served : goal.returns-in-Some-clause-served
returns-in-Some-clause-served g c = before c.loop.invariant.served (before c.reap-running.ensures.served c.in-Some.ensures.served)

pub loop-preserved : goal.loop-preserved
loop-preserved g c =
    let was = c.loop.invariant in record {
      jobs = c.serve_next.ensures.jobs;
      out = omega (arith, was.out, c.reap-running.ensures.count, c.serve_next.ensures.count);
      refused = c.in-None.ensures.refused ∙ c.reap-running.ensures.refused ∙ was.refused;
      follows = g.met.S.Serve.later _ _ _ was.follows (g.met.S.Serve.later _ _ _ c.reap-running.ensures.follows c.in-None.ensures.follows);
      served = before was.served (before c.reap-running.ensures.served c.in-None.ensures.served);
      faults = omega (arith, was.faults, c.reap-running.ensures.faults, c.serve_next.ensures.faults);
    }

pub returns-in-Some-clause-follows : goal.returns-in-Some-clause-follows
returns-in-Some-clause-follows g c = g.met.S.Serve.later _ _ _ c.loop.invariant.follows (g.met.S.Serve.later _ _ _ c.reap-running.ensures.follows c.in-Some.ensures.follows)
