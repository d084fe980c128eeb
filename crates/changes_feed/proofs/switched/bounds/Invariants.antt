use Rattle.std.proofs.Common.{◌≡◌, ℕ, List, take}
use Rattle.std.specs.List.{list_any}
use Rattle.sg_history.specs.History.{among}
use Rattle.changes_feed.specs.inner.Bounds.{is_bound_of}
use Rattle.changes_feed.proofs.switched.bounds.Given as goal

abbrev pub invariant-loop-period : goal.invariant-loop-period
invariant-loop-period l = (c : List ℕ) → among l.channels.items c ≡ list_any (is_bound_of l.start l.front c) (take l.period-index l.periods)
