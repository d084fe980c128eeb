-- What snapshots of shelves and of entries stand for.
use Rattle.std.specs.Prelude.{List, [], ◌∷◌}
use Rattle.sg_history.specs.declared.book.Waiting.{Waiting}
use Rattle.sg_history.specs.Board.{BoardState}
use Rattle.write_path.specs.Shelf.{shelf_state}
use Rattle.write_path.specs.declared.trail.Links.{Links, fold-Links}
use Rattle.write_path.specs.declared.trail.Links.TheOpen.{Links-F}
use Rattle.write_path.specs.declared.trail.Stored.{Stored, fold-Stored}
use Rattle.write_path.specs.declared.trail.Stored.TheOpen.{Stored-F}

-- the board of the newest, before those of the others
abbrev pub boards_step : Links-F (List BoardState) → List BoardState
boards_step Links-F.Nothing = []
boards_step (Links-F.Then before shelf) = shelf_state shelf.value ∷ before.value

-- the boards, the newest first
abbrev pub boards_in : Links → List BoardState
boards_in = fold-Links (List BoardState) boards_step

-- the newest entry with its number, before the others
abbrev pub entries_step : Stored-F (List Waiting) → List Waiting
entries_step Stored-F.Nothing = []
entries_step (Stored-F.Then before number entry) = record { number = number.value; entry = entry.value } ∷ before.value

-- the entries with their numbers, the newest first
abbrev pub entries_in : Stored → List Waiting
entries_in = fold-Stored (List Waiting) entries_step
