use Rattle.std.proofs.Common.{◌≡◌, take}
use Rattle.sync_values.proofs.value.share_all.Given as goal

abbrev pub invariant-loop-value : goal.invariant-loop-value
invariant-loop-value l = l.made ≡ take l.value-index l.values
