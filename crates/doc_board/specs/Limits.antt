-- The limits of a board: for which rooms there is none.
use Rattle.std.specs.Prelude.{◌≡◌, ℕ, ◌+◌, ◌*◌, min, ◌||◌, nat_le, nat_lt, length, Option, Some, None, Result, Err, IfErr, if◌then◌else◌}
use Rattle.doc_board.specs.declared.candidate.NoRoom.{NoRoom}
use Rattle.doc_board.specs.declared.candidate.NoRoom.TheVariants.{Full503, LogFull509, Memory}
use Rattle.doc_board.specs.declared.room.Room.{Room}
use Rattle.sg_history.specs.Board.{BoardState}

-- the places that are taken: those of entries that wait, and two for each room that is outstanding
abbrev pub places_on : BoardState → ℕ
places_on board = length board.pending + 2 * length board.rooms

-- the entries of the log, and those places
abbrev pub entries_on : BoardState → ℕ
entries_on board = length board.log + places_on board

-- why a board refuses a room for a body of so many bytes before memory is asked for: too many places, or else too many entries or bytes; none where it does not
abbrev pub refusal : BoardState → ℕ → Option NoRoom
refusal board body =
    if nat_le 19999 (places_on board) then Some (Full503 (places_on board))
    else if nat_le 3999999 (entries_on board) || nat_lt 2147483648 (board.bytes + body)
    then Some (LogFull509 (entries_on board) (min (board.bytes + body) 18446744073709551615))
    else None

-- a room is refused for that reason, or where there is none for want of memory alone
abbrev pub IsRefusedBy : Option NoRoom → Result Room NoRoom → Type 0
IsRefusedBy (Some why) result = result ≡ Err why
IsRefusedBy None result = IfErr result (λ why. why ≡ Memory)
