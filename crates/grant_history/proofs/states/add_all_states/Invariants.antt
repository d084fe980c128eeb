use Rattle.std.proofs.Common.{◌≡◌}
use Rattle.sg_history.specs.History.{past}
use Rattle.grant_history.specs.inner.MoreStates.{HasNoneAbove}
use Rattle.grant_history.specs.NewStates.{AreNewStates}
use Rattle.grant_history.proofs.states.add_all_states.Given as goal

-- the entries up to here are taken, and the states from each on kept
abbrev pub invariant-loop-entry : goal.invariant-loop-entry
invariant-loop-entry l = record {
  indexes : l.index ≡ past l.entries l.entry-index;
  states : AreNewStates l.entries l.states l.entry-index;
  above : HasNoneAbove l.states;
}
