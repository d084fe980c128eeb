use Rattle.std.proofs.Common.{◌≡◌, option_map, length}
use Rattle.sync_values.specs.Values.{last_from, last_named}
use Rattle.sync_values.proofs.by_name.last_named.Given as goal

abbrev pub invariant-loop-left : goal.invariant-loop-left
invariant-loop-left g l = last_from l.fn.name (option_map (λ x. x.now) l.found) l.left ≡ last_named l.fn.name l.fn.members

abbrev pub decreases-loop-left : goal.decreases-loop-left
decreases-loop-left g l = length l.left
