use Rattle.std.proofs.Common.{◌∙◌, None, List, refl, sym, subst, arith}
use Rattle.sg_history.specs.declared.entries.Entry.TheVariants.{Unused}
use Rattle.sg_history.specs.declared.room.RoomFor.{RoomFor}
use Rattle.doc_board.specs.Rooms.{room_for}
use Rattle.tests_of_boards.specs.inner.Frees.{AreAlike}
use Rattle.tests_of_boards.proofs.Frees.{as_free, left_again, one_more_alike, stays_by}
use Rattle.tests_of_boards.proofs.waiting.+filled.Goals as goal

pub filled-why-requires : goal.filled-why-requires
filled-why-requires t c =
    let alike = subst (λ (rs : List RoomFor). AreAlike (room_for None c.args.bytes) rs) (sym c.in-Ok.ensures.ok) (one_more_alike (room_for None c.args.bytes) c.args.board.now.rooms c.requires.alike) in (
      omega (arith, c.decreases, c.if-count-eq0.false),
      (c.requires.small, (c.requires.small_too, (omega (arith, c.requires.from), (omega (arith, c.requires.numbers, c.if-count-eq0.false), (λ m least from. as_free c.args.board.now c.room.new.self c.in-Ok.ensures.log c.in-Ok.ensures.pending m (c.requires.free m (omega (arith, least)) from), alike))))),
    )

pub returns-clause-rooms : goal.returns-clause-rooms
returns-clause-rooms t c =
    left_again (room_for None c.args.bytes) c.in-Ok.room.made_for (room_for None c.args.bytes) c.args.board.now.rooms c.filled-why.new.board.rooms c.void.new.self.rooms refl refl c.in-Ok.ensures.room (c.filled-why.ensures.rooms ∙ c.in-Ok.ensures.ok) c.void.ensures.rooms c.requires.alike

pub returns-clause-below : goal.returns-clause-below
returns-clause-below t c = λ other less may.
    stays_by c.filled-why.new.board c.filled-why.new.board c.void.new.self c.args.number c.new.result.value Unused refl refl c.new.ensures c.void.ensures.book other (λ e. absurd (omega (arith, less, e)))
    (c.filled-why.ensures.below other (omega (arith, less)) (as_free c.args.board.now c.room.new.self c.in-Ok.ensures.log c.in-Ok.ensures.pending other may))
