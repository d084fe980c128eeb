-- the rooms that are outstanding
use Rattle.std.specs.Prelude.{◌≤◌, ℕ, Bool, List, [], ◌∷◌, Option}
use Rattle.std.specs.List.{list_any}
use Rattle.sg_history.specs.declared.room.RoomFor.{RoomFor}
use Rattle.sg_history.specs.Rooms.{same_room}

-- whether a room is among these
abbrev pub is_outstanding : List RoomFor → RoomFor → Bool
is_outstanding rooms room = list_any (λ r. same_room r room) rooms

-- the room that is made for a document, or for none, and for a body of so many bytes
abbrev pub room_for : Option (List ℕ) → ℕ → RoomFor
room_for doc bytes = record { doc = doc; bytes = bytes }

-- each of these rooms is for at most so many bytes as a body may have
abbrev pub AreSmall : List RoomFor → Type 0
AreSmall [] = Unit {0}
AreSmall (room ∷ rooms) = (room.bytes ≤ 20971520) × AreSmall rooms
