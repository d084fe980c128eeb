use Rattle.command_line.proofs.OneCommand.{feed_or_serve, replay_or_serve}
use Rattle.gateway_app.proofs.commands.run.Goals as goal

pub returns-in-Ok-clause-outside : goal.returns-in-Ok-clause-outside
returns-in-Ok-clause-outside g c = λ no_feed no_replay none. absurd (none c.in-Ok.config.now c.in-Ok.ensures.ok)

pub returns-in-Ok-clause-ends : goal.returns-in-Ok-clause-ends
returns-in-Ok-clause-ends g c = λ f bytes is has. absurd (feed_or_serve _ is.0 c.in-Ok.ensures.ok.0)

pub returns-in-Ok-clause-replays : goal.returns-in-Ok-clause-replays
returns-in-Ok-clause-replays g c = λ r contents is have. absurd (replay_or_serve _ is.0 c.in-Ok.ensures.ok.0)

pub returns-in-Ok-clause-absent : goal.returns-in-Ok-clause-absent
returns-in-Ok-clause-absent g c = λ f is none. absurd (feed_or_serve _ is.0 c.in-Ok.ensures.ok.0)

pub returns-in-Ok-clause-feed_loads : goal.returns-in-Ok-clause-feed_loads
returns-in-Ok-clause-feed_loads g c = λ f is. absurd (feed_or_serve _ is.0 c.in-Ok.ensures.ok.0)

pub returns-in-Ok-clause-replay_loads : goal.returns-in-Ok-clause-replay_loads
returns-in-Ok-clause-replay_loads g c = λ r is. absurd (replay_or_serve _ is.0 c.in-Ok.ensures.ok.0)

pub returns-in-Ok-clause-closed : goal.returns-in-Ok-clause-closed
returns-in-Ok-clause-closed g c = λ none. absurd (none c.in-Ok.config.now c.in-Ok.ensures.ok)

pub returns-in-Err-BadWords-clause-words : goal.returns-in-Err-BadWords-clause-words
returns-in-Err-BadWords-clause-words g c = λ is. let words = c.run_on_files.ensures.words is in (words.0, words.1, c.read_serve.ensures.bad search)
