use Rattle.std.proofs.Common.{◌≡◌, ◌++◌, drop}
use Rattle.grant_history.specs.NewStates.{by_marks}
use Rattle.grant_history.proofs.states.states_marked.Given as goal

-- those so far, and those of the rest
abbrev pub invariant-loop-i : goal.invariant-loop-i
invariant-loop-i l = l.list.items ++ by_marks l.index (drop l.i l.marks) l.i ≡ by_marks l.index l.marks 0
