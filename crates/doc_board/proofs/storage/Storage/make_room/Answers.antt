use Rattle.std.proofs.Common.{subst, sym}
use Rattle.sg_history.specs.declared.room.RoomFor.{RoomFor}
use Rattle.doc_board.specs.Storage.{HasPlacesOf}
use Rattle.doc_board.proofs.storage.Storage.make_room.Goals as goal

pub returns-clause-board : goal.returns-clause-board
returns-clause-board c =
    rw c.add.ensures (subst (λ (r : RoomFor). HasPlacesOf c.make_places.new.self r) (sym c.in_ok-made_for.ensures) (c.in_ok-make_places.ensures.ok c.args.bytes))
