use Rattle.std.proofs.Common.{◌≡◌, length}
use Rattle.sg_history.specs.Pieces.{pieces}
use Rattle.ws_door.specs.Items.{first_given}
use Rattle.ws_door.specs.Cookies.{session_in_item}
use Rattle.ws_door.proofs.cookies.session_in_cookies.Given as goal

abbrev pub invariant-loop-item : goal.invariant-loop-item
invariant-loop-item l = first_given session_in_item (pieces 59 l.rest) ≡ first_given session_in_item (pieces 59 l.value)

abbrev pub decreases-loop-item : goal.decreases-loop-item
decreases-loop-item l = length l.rest
