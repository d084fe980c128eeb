use Rattle.std.proofs.Common.{◌≡◌, drop}
use Rattle.channel_cache.specs.Sequences.{Changed, Lists, left}
use Rattle.channel_cache.proofs.Changing.{leaving}
use Rattle.channel_cache.proofs.kept.leave_each.Given as goal

-- what is left is done from there on
abbrev pub invariant-loop-channel : goal.invariant-loop-channel
invariant-loop-channel l = record {
  cap : l.lists.cap ≡ l.initial.lists.cap;
  ok : (end : Lists) → Changed l.lists.entries end (left (leaving (drop l.channel-index l.channels)) l.seq) → Changed l.initial.lists.entries end (left (leaving l.channels) l.seq);
}
