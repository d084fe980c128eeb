use Rattle.std.proofs.Common.{◌+◌, ◌∙◌, None, List, sym, subst, arith}
use Rattle.sg_history.specs.declared.room.RoomFor.{RoomFor}
use Rattle.doc_board.specs.Rooms.{room_for}
use Rattle.tests_of_boards.specs.inner.Frees.{AreAlike}
use Rattle.tests_of_boards.proofs.waiting.all_given_up.Goals as goal

pub loop-i-init : goal.loop-i-init
loop-i-init c = record { free = λ m least from. c.requires.free m (omega (arith, least)) from; rooms = λ i. c.args.board.now.rooms; below = λ m less may. may }

pub given_up-front-requires-clause-number : goal.given_up-front-requires-clause-number
given_up-front-requires-clause-number c = c.loop-i.invariant.free (c.args.number + c.loop-i.i) (omega arith) (omega (arith, c.requires.from))

pub given_up-front-requires-clause-alike : goal.given_up-front-requires-clause-alike
given_up-front-requires-clause-alike c =
    subst (λ (rs : List RoomFor). AreAlike (room_for None 0) rs) (sym c.loop-i.invariant.rooms) c.requires.alike

pub loop-i-preserved : goal.loop-i-preserved
loop-i-preserved c = record {
  free = λ m least from. c.given_up-front.ensures.stays m (λ e. absurd (omega (arith, least, e))) (c.loop-i.invariant.free m (omega (arith, least)) from);
  rooms = c.given_up-front.ensures.rooms ∙ c.loop-i.invariant.rooms;
  below = λ m less may. c.given_up-front.ensures.stays m (λ e. absurd (omega (arith, less, e))) (c.loop-i.invariant.below m less may);
}
