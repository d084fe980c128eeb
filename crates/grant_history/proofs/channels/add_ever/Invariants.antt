use Rattle.std.proofs.Common.{◌≡◌, ◌||◌, ℕ, List, drop}
use Rattle.sg_history.specs.History.{among}
use Rattle.grant_history.specs.Periods.{ever_among, names_of}
use Rattle.grant_history.proofs.channels.add_ever.Given as goal

-- what is there so far with what is left is all
abbrev pub invariant-loop-held : goal.invariant-loop-held
invariant-loop-held l = (x : List ℕ) → (ever_among (drop l.held-index l.all) x || among (names_of l.list.items) x) ≡ (ever_among l.all x || among (names_of l.initial.list.items) x)
