use Rattle.std.proofs.Common.{◌≡◌, take}
use Rattle.feed_rows.proofs.by_channels.are_same.Given as goal

-- the channels so far are the same
abbrev pub invariant-loop-i : goal.invariant-loop-i
invariant-loop-i l = take l.i l.one ≡ take l.i l.other
