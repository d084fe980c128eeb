use Rattle.command_line.specs.ReplayRequest.{replay_of}
use Rattle.command_line.proofs.OneCommand.{feed_or_replay}
use Rattle.gateway_app.proofs.commands.run_on_files.Goals as goal

pub returns-in-Ok-clause-outside : goal.returns-in-Ok-clause-outside
returns-in-Ok-clause-outside g c = λ no_feed none. absurd (none (replay_of c.in-Ok.request) c.in-Ok.ensures.ok)

pub returns-in-Ok-clause-ends : goal.returns-in-Ok-clause-ends
returns-in-Ok-clause-ends g c = λ f bytes is has. absurd (feed_or_replay _ is.0 c.in-Ok.ensures.ok.0)

pub returns-in-Ok-clause-absent : goal.returns-in-Ok-clause-absent
returns-in-Ok-clause-absent g c = λ f is none. absurd (feed_or_replay _ is.0 c.in-Ok.ensures.ok.0)

pub returns-in-Ok-clause-feed_loads : goal.returns-in-Ok-clause-feed_loads
returns-in-Ok-clause-feed_loads g c = λ f is. absurd (feed_or_replay _ is.0 c.in-Ok.ensures.ok.0)

pub returns-in-Err-BadWords-clause-words : goal.returns-in-Err-BadWords-clause-words
returns-in-Err-BadWords-clause-words g c = λ e. (c.run.ensures.words e, c.read_replay.ensures.bad search)
