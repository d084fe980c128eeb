use Rattle.std.proofs.Common.{take}
use Rattle.grant_history.specs.inner.Gifts.{has_at_by}
use Rattle.grant_history.specs.Periods.{AreSoFar, names_of}
use Rattle.grant_history.proofs.periods.add_periods.Given as goal

-- the periods of the channels so far
abbrev pub invariant-loop-channel : goal.invariant-loop-channel
invariant-loop-channel l = AreSoFar (take l.channel-index (names_of l.channels)) l.periods.items (has_at_by l.gifts l.all.items)
