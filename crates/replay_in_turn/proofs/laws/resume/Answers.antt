use Rattle.replay_in_turn.proofs.Resumes.{resume_in}
use Rattle.replay_in_turn.proofs.laws.resume.Goals as goal

pub returns : goal.returns
returns c = resume_in c.resume.ensures
