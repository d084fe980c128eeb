use Rattle.std.proofs.Common.{drop}
use Rattle.grant_tracks.proofs.Counting.{CountsWith}
use Rattle.grant_tracks.proofs.events.Events.of.Given as goal

-- the events of the spells so far, with the spells that are left, make up all
abbrev pub invariant-loop-spell : goal.invariant-loop-spell
invariant-loop-spell l = CountsWith l.begins.items l.ends.items (drop l.spell-index l.spells) l.spells
