use Rattle.std.proofs.Common.{IsTrue, IsUtf8, take}
use Rattle.std.specs.List.{All}
use Rattle.sg_names.specs.Grammar.{is_channel_name}
use Rattle.session_threads.proofs.opening.pass_channels.Given as goal

abbrev pub invariant-loop-channel : goal.invariant-loop-channel
invariant-loop-channel l = All (λ name. IsTrue (is_channel_name name) × IsUtf8 name) (take l.channel-index l.channels)
