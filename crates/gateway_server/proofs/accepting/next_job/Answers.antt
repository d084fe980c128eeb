use Rattle.gateway_server.proofs.ServingSteps.{at_end, at_fault, at_want}
use Rattle.gateway_server.proofs.accepting.next_job.Goals as goal

pub returns-in-End-clause-served : goal.returns-in-End-clause-served
returns-in-End-clause-served g c = at_end g.row.D-Line.Denot _ _ _ _ c.in-End.ensures.recorded

pub returns-in-Failed-clause-served : goal.returns-in-Failed-clause-served
returns-in-Failed-clause-served g c = at_fault g.row.D-Line.Denot _ _ _ _ c.in-Failed.ensures.recorded

pub returns-in-Memory-clause-served : goal.returns-in-Memory-clause-served
returns-in-Memory-clause-served g c = at_want g.row.D-Line.Denot _ _ _ _ c.in-Memory.ensures.recorded
