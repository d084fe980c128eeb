use Rattle.std.proofs.Common.{◌≡◌, ◌++◌, drop}
use Rattle.sg_history.specs.Puts.{grantee_in}
use Rattle.grant_history.specs.Facts.{channel_facts}
use Rattle.grant_history.proofs.given.add_channels.Given as goal

-- what is there so far with what is left is all
abbrev pub invariant-loop-channel : goal.invariant-loop-channel
invariant-loop-channel l = l.list.items ++ channel_facts (grantee_in l.of) (drop l.channel-index l.channels) ≡ l.initial.list.items ++ channel_facts (grantee_in l.of) l.channels
