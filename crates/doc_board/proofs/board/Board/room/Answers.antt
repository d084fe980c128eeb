use Rattle.std.proofs.Common.{◌≡◌, ◌++◌, ◌∷◌, [], ◌∙◌, true, List, ap, subst, sym}
use Rattle.std.specs.Option.{option_copied}
use Rattle.sg_history.specs.declared.room.RoomFor.{RoomFor}
use Rattle.doc_board.specs.Rooms.{is_outstanding, room_for}
use Rattle.doc_board.proofs.OutstandingRooms.{made_outstanding}
use Rattle.doc_board.proofs.board.Board.room.Goals as goal

pub returns-in-Ok-clause-out : goal.returns-in-Ok-clause-out
returns-in-Ok-clause-out c =
    let old : List RoomFor = c.args.self.now.rooms in
    let room : RoomFor = c.new.result.made_for in
    let is : room ≡ room_for (option_copied c.args.doc) c.args.body_bytes = c.new.ensures ∙ c.in-Ok.ensures.room in
    let list : c.make_room.new.self.rooms ≡ old ++ room ∷ [] = c.in-Ok.ensures.ok ∙ ap (λ (r : RoomFor). old ++ r ∷ []) (sym is) in
    subst (λ (rs : List RoomFor). is_outstanding rs room ≡ true) (sym list) (made_outstanding room old)
