use Rattle.std.proofs.Common.{◌≡◌, drop}
use Rattle.sg_history.specs.History.{among}
use Rattle.channel_cache.specs.Sequences.{Changed, Lists, entered}
use Rattle.channel_cache.proofs.kept.enter_each.Given as goal

-- what is left is done from there on
abbrev pub invariant-loop-channel : goal.invariant-loop-channel
invariant-loop-channel l = record {
  cap : l.lists.cap ≡ l.initial.lists.cap;
  ok : (end : Lists) → Changed l.lists.entries end (entered (among (drop l.channel-index l.channels)) l.seq) → Changed l.initial.lists.entries end (entered (among l.channels) l.seq);
}
