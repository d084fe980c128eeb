use Rattle.std.proofs.Common.{◌≡◌, drop, map}
use Rattle.channel_cache.specs.inner.Moves.{left_by, move_in}
use Rattle.channel_cache.specs.Sequences.{Changed, Lists}
use Rattle.channel_cache.proofs.kept.leave_moved.Given as goal

-- what is left is done from there on
abbrev pub invariant-loop-one : goal.invariant-loop-one
invariant-loop-one l = record {
  cap : l.lists.cap ≡ l.initial.lists.cap;
  ok : (end : Lists) → Changed l.lists.entries end (left_by (drop l.one-index (map move_in l.moved))) → Changed l.initial.lists.entries end (left_by (map move_in l.moved));
}
