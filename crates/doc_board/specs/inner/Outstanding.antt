-- The rooms that are outstanding, by those that were made and that ended.
use Rattle.std.specs.Prelude.{List, [], ◌∷◌, ◌++◌}
use Rattle.sg_history.specs.declared.room.RoomFor.{RoomFor}
use Rattle.sg_history.specs.Rooms.{without_room}
use Rattle.doc_board.specs.declared.room.Links.{Links, fold-Links}
use Rattle.doc_board.specs.declared.room.Links.TheOpen.{Links-F}

-- one room more, or one less
abbrev pub rooms_step : Links-F (List RoomFor) → List RoomFor
rooms_step Links-F.Nothing = []
rooms_step (Links-F.Made before room) = before.value ++ room.value ∷ []
rooms_step (Links-F.Ended before room) = without_room room.value before.value

-- the rooms that are outstanding
abbrev pub rooms_in : Links → List RoomFor
rooms_in = fold-Links (List RoomFor) rooms_step
