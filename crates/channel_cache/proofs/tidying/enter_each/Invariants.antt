use Rattle.std.proofs.Common.{◌≡◌, drop}
use Rattle.sg_history.specs.History.{among}
use Rattle.channel_cache.specs.inner.Counting.{counts_at}
use Rattle.channel_cache.specs.Sequences.{Counted, Lists, entered}
use Rattle.channel_cache.proofs.tidying.enter_each.Given as goal

-- what is left is done from there on
abbrev pub invariant-loop-channel : goal.invariant-loop-channel
invariant-loop-channel l = record {
  cap : l.lists.cap ≡ l.initial.lists.cap;
  ok : (end : Lists) → Counted (counts_at l.index l.place) l.lists.entries end (entered (among (drop l.channel-index l.channels)) l.seq)
      → Counted (counts_at l.index l.place) l.initial.lists.entries end (entered (among l.channels) l.seq);
}
