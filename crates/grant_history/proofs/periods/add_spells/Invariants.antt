use Rattle.std.proofs.Common.{◌≡◌, ◌++◌, drop, map}
use Rattle.grant_history.specs.Periods.{period_of}
use Rattle.grant_history.proofs.periods.add_spells.Given as goal

-- what is there so far with what is left is all
abbrev pub invariant-loop-spell : goal.invariant-loop-spell
invariant-loop-spell l = l.periods.items ++ map (period_of l.channel) (drop l.spell-index l.spells) ≡ l.initial.periods.items ++ map (period_of l.channel) l.spells
