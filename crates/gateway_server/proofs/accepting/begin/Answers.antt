use Rattle.gateway_server.proofs.ServingSteps.{each, same}
use Rattle.gateway_server.proofs.accepting.begin.Goals as goal

pub returns-in-Ok-clause-served : goal.returns-in-Ok-clause-served
returns-in-Ok-clause-served g c = same _ _ _

pub returns-in-Err-clause-jobs : goal.returns-in-Err-clause-jobs
returns-in-Err-clause-jobs g c = each _ _ (λ r made. c.give_back.ensures.stays r.child.promise.job.value made) _ c.requires.jobs
