use Rattle.std.proofs.Common.{◌≡◌, length, reverse}
use Rattle.ws_door.specs.Items.{skip_spaces}
use Rattle.ws_door.proofs.items.trim_back.Given as goal

abbrev pub invariant-loop-item : goal.invariant-loop-item
invariant-loop-item l = skip_spaces (reverse l.item) ≡ skip_spaces (reverse l.fn.item)

abbrev pub decreases-loop-item : goal.decreases-loop-item
decreases-loop-item l = length l.item
