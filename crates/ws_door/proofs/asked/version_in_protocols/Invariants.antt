use Rattle.std.proofs.Common.{◌≡◌, length}
use Rattle.sg_history.specs.Pieces.{pieces}
use Rattle.ws_door.specs.Items.{first_given}
use Rattle.ws_door.specs.Upgrades.{version_in_item}
use Rattle.ws_door.proofs.asked.version_in_protocols.Given as goal

abbrev pub invariant-loop-item : goal.invariant-loop-item
invariant-loop-item l = first_given version_in_item (pieces 44 l.rest) ≡ first_given version_in_item (pieces 44 l.value)

abbrev pub decreases-loop-item : goal.decreases-loop-item
decreases-loop-item l = length l.rest
