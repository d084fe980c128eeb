-- Waiting entries as a map keeps them under their numbers, and by rising numbers.
use Rattle.std.specs.Prelude.{ℕ, List, [], ◌∷◌}
use Rattle.sg_history.specs.declared.book.Waiting.{Waiting}
use Rattle.sg_history.specs.declared.entries.Entry.{Entry}
use Rattle.sg_history.specs.World.{put_waiting}

-- the entries of a map, by rising numbers
abbrev pub rising : List (ℕ × Entry) → List Waiting
rising [] = []
rising (first ∷ others) = put_waiting (record { number = first.0; entry = first.1 }) (rising others)
