use Rattle.std.proofs.Common.{◌≡◌, ◌+◌, ◌<◌, ◌∷◌, [], List, length, subst, sym, arith}
use Rattle.std.proofs.lemmas.List.{length-append}
use Rattle.sg_history.specs.declared.room.RoomFor.{RoomFor}
use Rattle.doc_board.specs.Boards.{bytes_asked}
use Rattle.doc_board.specs.Rooms.{AreSmall}
use Rattle.doc_board.proofs.OutstandingRooms.{asked_more, small_sum, small_more}
use Rattle.doc_board.proofs.room.OutstandingRooms.add.Goals as goal

pub overflow_add-self-2 : goal.overflow_add-self-2
overflow_add-self-2 c =
    let few = subst (λ (rs : List RoomFor). length rs < 1000000) (sym c.self.view_is) c.requires.few in
    let sum = small_sum c.self.inside.list c.self.invariant.2 in
    omega (arith, few, sum, c.self.invariant.1, c.requires.small)

pub invariant_of-self : goal.invariant_of-self
invariant_of-self c =
    let room = c.args.made_for.now in
    let old = c.self.inside.list in
    let P : List RoomFor → Type 0 = λ rs. (c.self.inside.count + 1 ≡ length rs) × (c.self.inside.asked + room.bytes ≡ bytes_asked rs) × AreSmall rs in
    subst P (sym c.add.ensures) (
      omega (arith, length-append old (room ∷ []), c.self.invariant.0),
      omega (arith, asked_more room old, c.self.invariant.1),
      small_more room old c.requires.small c.self.invariant.2,
    )
