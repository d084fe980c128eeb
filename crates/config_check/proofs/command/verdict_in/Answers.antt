use Rattle.config_check.proofs.Runs.{found_loaded, too_long}
use Rattle.config_check.proofs.command.verdict_in.Goals as goal

pub returns-in-Ok-clause-loaded : goal.returns-in-Ok-clause-loaded
returns-in-Ok-clause-loaded g c = found_loaded c.verdict_on.result _ _ c.verdict_on.ensures.memory c.in-Ok.ensures.loaded

pub returns-in-Err-BadInput-clause-recorded : goal.returns-in-Err-BadInput-clause-recorded
returns-in-Err-BadInput-clause-recorded g c = λ bytes file.
    too_long c.in-Err-BadInput.field-0 _ _ _ bytes c.in-Err-BadInput.field-0-is (c.in-Err-BadInput.ensures.recorded bytes file)
