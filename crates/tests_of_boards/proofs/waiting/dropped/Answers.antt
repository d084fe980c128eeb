use Rattle.std.proofs.Common.{None, refl}
use Rattle.sg_history.specs.declared.entries.Entry.TheVariants.{DropUser}
use Rattle.doc_board.specs.Rooms.{room_for}
use Rattle.tests_of_boards.proofs.Frees.{left_again, stays_by}
use Rattle.tests_of_boards.proofs.waiting.dropped.Goals as goal

pub returns-in-Stored-clause-rooms : goal.returns-in-Stored-clause-rooms
returns-in-Stored-clause-rooms c =
    left_again (room_for None 0) c.in-Ok.room.made_for (room_for None 0) c.args.board.now.rooms c.room.new.self.rooms c.commit.new.self.rooms refl refl c.in-Ok.ensures.room c.in-Ok.ensures.ok c.in-Stored.ensures.rooms c.requires.alike

pub returns-in-Stored-clause-stays : goal.returns-in-Stored-clause-stays
returns-in-Stored-clause-stays c =
    stays_by c.args.board.now c.room.new.self c.commit.new.self c.args.number c.new.result.value (DropUser c.args.user) c.in-Ok.ensures.log c.in-Ok.ensures.pending c.new.ensures c.in-Stored.ensures.book
