use Rattle.std.proofs.Common.{None, refl}
use Rattle.sg_history.specs.declared.entries.Entry.TheVariants.{Unused}
use Rattle.doc_board.specs.Rooms.{room_for}
use Rattle.tests_of_boards.proofs.Frees.{left_again, stays_by}
use Rattle.tests_of_boards.proofs.waiting.given_up.Goals as goal

pub returns-clause-rooms : goal.returns-clause-rooms
returns-clause-rooms c =
    left_again (room_for None 0) c.in-Ok.room.made_for (room_for None 0) c.args.board.now.rooms c.room.new.self.rooms c.void.new.self.rooms refl refl c.in-Ok.ensures.room c.in-Ok.ensures.ok c.void.ensures.rooms c.requires.alike

pub returns-clause-stays : goal.returns-clause-stays
returns-clause-stays c =
    stays_by c.args.board.now c.room.new.self c.void.new.self c.args.number c.new.result.value Unused c.in-Ok.ensures.log c.in-Ok.ensures.pending c.new.ensures c.void.ensures.book
