use Rattle.session_threads.proofs.Sessions.{resume_in}
use Rattle.session_threads.proofs.laws.resume.Goals as goal

pub returns : goal.returns
returns c = resume_in c.resume.ensures
