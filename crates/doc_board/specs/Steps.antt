-- What storing makes of a board's log, of the entries that wait, and of its book.
use Rattle.std.specs.Prelude.{ℕ, List, Some, nat_eq, if◌then◌else◌}
use Rattle.sg_history.specs.declared.entries.Entry.{Entry}
use Rattle.sg_history.specs.declared.entries.Entry.TheVariants.{Unused}
use Rattle.sg_history.specs.Book.{Book}
use Rattle.sg_history.specs.World.{Released, World, release, put_waiting}
use Rattle.doc_board.specs.State.{State}

-- the log of a board, and the entries that wait
abbrev pub history_on : State → Released
history_on s = record { log = s.log; pending = s.pending }

-- these once an entry is stored at a number: it waits there, and then the entries that come next are moved to the log
abbrev pub stored_at : State → ℕ → Entry → Released
stored_at s number e = release s.log (put_waiting (record { number = number; entry = e }) s.pending)

-- these once a number is given up and an entry is stored at another
abbrev pub swapped_to : State → ℕ → ℕ → Entry → Released
swapped_to s spent number e =
    release s.log (put_waiting (record { number = number; entry = e }) (put_waiting (record { number = spent; entry = Unused }) s.pending))

-- a book with an entry at a number
abbrev pub with_entry : ℕ → Entry → Book → Book
with_entry number e book other = if nat_eq number other then Some e else book other

-- the world of a board: so many numbers were drawn, and these are held
abbrev pub world_on : State → ℕ → List ℕ → World
world_on s count held = record { count = count; held = held; pending = s.pending; log = s.log }
