use Rattle.std.proofs.Common.{IsUtf8, take}
use Rattle.std.specs.List.{All}
use Rattle.board_steps.proofs.texts.pass_channels.Given as goal

abbrev pub invariant-loop-channel : goal.invariant-loop-channel
invariant-loop-channel l = All (λ name. IsUtf8 name) (take l.channel-index l.channels)
