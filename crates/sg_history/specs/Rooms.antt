-- Rooms that are outstanding: which of them are alike, how often one stands among them, and what is left without it.
use Rattle.std.specs.Prelude.{ℕ, ◌+◌, Bool, true, false, ◌&&◌, nat_eq, List, [], ◌∷◌, Option, Some, None, if◌then◌else◌}
use Rattle.std.specs.Str.{bytes_eq}
use Rattle.sg_history.specs.declared.room.RoomFor.{RoomFor}

-- whether both are one document, or none
abbrev pub same_doc : Option (List ℕ) → Option (List ℕ) → Bool
same_doc None None = true
same_doc None (Some b) = false
same_doc (Some a) None = false
same_doc (Some a) (Some b) = bytes_eq a b

-- whether two rooms are for the same document, or both for none, and for as many bytes
abbrev pub same_room : RoomFor → RoomFor → Bool
same_room a b = same_doc a.doc b.doc && nat_eq a.bytes b.bytes

-- how often a room stands in a list
abbrev pub room_times : RoomFor → List RoomFor → ℕ
room_times room [] = 0
room_times room (first ∷ others) = (if same_room first room then 1 else 0) + room_times room others

-- the rooms without one that is so, where there is one
abbrev pub without_room : RoomFor → List RoomFor → List RoomFor
without_room room [] = []
without_room room (first ∷ others) = if same_room first room then others else first ∷ without_room room others
