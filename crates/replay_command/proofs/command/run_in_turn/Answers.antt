use Rattle.command_line.specs.ReplayRequest.{replay_of}
use Rattle.replay_command.proofs.command.run_in_turn.Goals as goal

pub returns-in-Ok-clause-outside : goal.returns-in-Ok-clause-outside
returns-in-Ok-clause-outside g c = λ none. absurd (none (replay_of c.in-Ok.request) c.in-Ok.ensures.ok)
