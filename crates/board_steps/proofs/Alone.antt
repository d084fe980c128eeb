-- a room that is outstanding alone
use Rattle.std.proofs.Common.{◌≡◌, ℕ, Bool, true, false, not, List, [], ◌∷◌, Option, Some, None, refl, ap, if◌then◌else◌, nat_eq}
use Rattle.std.proofs.lemmas.Bool.{and_from, or_left, eq-eqb}
use Rattle.std.proofs.lemmas.Slice.Eq.{bytes_eq-Decides}
use Rattle.sg_history.specs.declared.room.RoomFor.{RoomFor}
use Rattle.sg_history.specs.Rooms.{same_doc, same_room, without_room}
use Rattle.doc_board.specs.Rooms.{is_outstanding}

doc_itself : (doc : Option (List ℕ)) → same_doc doc doc ≡ true
doc_itself None = refl
doc_itself (Some doc) = (bytes_eq-Decides doc doc).1 refl

room_itself : (room : RoomFor) → same_room room room ≡ true
room_itself room = and_from (same_doc room.doc room.doc) (nat_eq room.bytes room.bytes) (doc_itself room.doc) (eq-eqb room.bytes room.bytes refl)

pub alone_outstanding : (room : RoomFor) → is_outstanding (room ∷ []) room ≡ true
alone_outstanding room = or_left (same_room room room) false (room_itself room)

pub alone_gone : (room : RoomFor) → without_room room (room ∷ []) ≡ []
alone_gone room = ap (λ (b : Bool). if b then [] else room ∷ []) (room_itself room)

-- a candidate that is based on the last write is not stale
pub fresh_on : (base last : ℕ) → base ≡ last → not (nat_eq base last) ≡ false
fresh_on base last e = ap not (eq-eqb base last e)
