use Rattle.clap.proofs.WalkLemmas.{both}
use Rattle.command_line.proofs.matches.matches_by.Goals as goal

pub returns-in-Ok-clause-rows : goal.returns-in-Ok-clause-rows
returns-in-Ok-clause-rows c = (c.in-Ok.ensures.matches (both _ _ c.requires).0).0
