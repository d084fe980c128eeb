use Rattle.command_line.proofs.OneCommand as one
use Rattle.command_line.proofs.laws.one_command.Goals as goal

pub returns : goal.returns
returns c = record {
  feed_or_replay = λ words f r feed replay. one.feed_or_replay words feed.0 replay.0;
  feed_or_serve = λ words f config feed serve. one.feed_or_serve words feed.0 serve.0;
  replay_or_serve = λ words r config replay serve. one.replay_or_serve words replay.0 serve.0;
}
