use Rattle.std.proofs.Common.{◌≡◌, ◌-◌, true, List, length, subst, sym, arith}
use Rattle.sg_history.specs.declared.room.RoomFor.{RoomFor}
use Rattle.doc_board.specs.Boards.{bytes_asked}
use Rattle.doc_board.specs.Rooms.{AreSmall, is_outstanding}
use Rattle.doc_board.proofs.OutstandingRooms.{asked_less, one_less, small_without}
use Rattle.doc_board.proofs.room.OutstandingRooms.end.Goals as goal

pub overflow_sub-self : goal.overflow_sub-self
overflow_sub-self c =
    let out = subst (λ (rs : List RoomFor). is_outstanding rs c.args.room.made_for ≡ true) (sym c.self.view_is) c.requires in
    let one = one_less c.args.room.made_for c.self.inside.list out in
    omega (arith, one, c.self.invariant.0)

pub overflow_sub-self-2 : goal.overflow_sub-self-2
overflow_sub-self-2 c =
    let out = subst (λ (rs : List RoomFor). is_outstanding rs c.args.room.made_for ≡ true) (sym c.self.view_is) c.requires in
    let less = asked_less c.args.room.made_for c.self.inside.list out in
    omega (arith, less, c.self.invariant.1)

pub invariant_of-self : goal.invariant_of-self
invariant_of-self c =
    let out = subst (λ (rs : List RoomFor). is_outstanding rs c.args.room.made_for ≡ true) (sym c.self.view_is) c.requires in
    let less = asked_less c.args.room.made_for c.self.inside.list out in
    let one = one_less c.args.room.made_for c.self.inside.list out in
    let P : List RoomFor → Type 0 = λ rs. (c.self.inside.count - 1 ≡ length rs) × (c.self.inside.asked - c.args.room.made_for.bytes ≡ bytes_asked rs) × AreSmall rs in
    subst P (sym c.end.ensures) (
      omega (arith, one, c.self.invariant.0),
      omega (arith, less, c.self.invariant.1),
      small_without c.args.room.made_for c.self.inside.list c.self.invariant.2,
    )
