use Rattle.std.proofs.Common.{◌≡◌, drop, map}
use Rattle.channel_cache.specs.inner.Counting.{counts_at}
use Rattle.channel_cache.specs.inner.Moves.{entered_by, move_in}
use Rattle.channel_cache.specs.Sequences.{Counted, Lists}
use Rattle.channel_cache.proofs.tidying.enter_moved.Given as goal

-- what is left is done from there on
abbrev pub invariant-loop-one : goal.invariant-loop-one
invariant-loop-one l = record {
  cap : l.lists.cap ≡ l.initial.lists.cap;
  ok : (end : Lists) → Counted (counts_at l.index l.place) l.lists.entries end (entered_by (drop l.one-index (map move_in l.moved)))
      → Counted (counts_at l.index l.place) l.initial.lists.entries end (entered_by (map move_in l.moved));
}
