use Rattle.session_core.proofs.Conducts.{conducted, kept, fewer}
use Rattle.session_core.proofs.laws.conduct.Goals as goal

pub returns-clause-puts : goal.returns-clause-puts
returns-clause-puts c m event done awaits does = (conducted m event done awaits does).puts

pub returns-clause-due : goal.returns-clause-due
returns-clause-due c m event done awaits does = (conducted m event done awaits does).still

pub returns-clause-wants : goal.returns-clause-wants
returns-clause-wants c m event done awaits does = (conducted m event done awaits does).wants

pub returns-clause-fewer : goal.returns-clause-fewer
returns-clause-fewer c = fewer

pub returns-clause-kept : goal.returns-clause-kept
returns-clause-kept c = kept
