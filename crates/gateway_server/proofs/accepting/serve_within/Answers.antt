use Rattle.std.proofs.Common.{arith}
use Rattle.gateway_server.proofs.ServingSteps.{behind, served}
use Rattle.gateway_server.proofs.accepting.serve_within.Goals as goal

pub returns-clause-served : goal.returns-clause-served
returns-clause-served g c = served (omega (arith, c.serve_all-stop.ensures.count, c.finish_all.ensures.out)) (behind c.serve_all-stop.ensures.served c.finish_all.ensures.served)

pub returns-clause-follows : goal.returns-clause-follows
returns-clause-follows g c = g.met.S.Serve.later _ _ _ c.serve_all-stop.ensures.follows c.finish_all.ensures.follows
