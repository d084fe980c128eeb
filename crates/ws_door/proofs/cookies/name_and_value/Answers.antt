use Rattle.ws_door.proofs.Walks.{parted_by}
use Rattle.ws_door.proofs.cookies.name_and_value.Goals as goal

pub returns : goal.returns
returns c = parted_by 61 c.cut.result c.args.item.now c.cut.ensures.some c.cut.ensures.none
