-- The world of sequences: how many were drawn, which of them are held, which entries wait for their places, and the log.
use Rattle.std.specs.Prelude.{◌≡◌, ◌≢◌, ◌<◌, ◌+◌, ℕ, Bool, ◌&&◌, true, nat_eq, nat_le, nat_lt, List, [], ◌∷◌, ◌++◌, length, count_by, IsTrue, if◌then◌else◌}
use Rattle.sg_history.specs.declared.book.Waiting.{Waiting}
use Rattle.sg_history.specs.declared.entries.Entry.{Entry}
use Rattle.sg_history.specs.declared.entries.Entry.TheVariants.{Unused}
use Rattle.sg_history.specs.Book.{Book, IsAbove, book_with}

-- how many sequences were drawn, which are held, the entries that wait, and the log
pub record World : Type 0 where
  pub count : ℕ
  pub held : List ℕ
  pub pending : List Waiting
  pub log : List Entry

-- the book of a world
abbrev pub world_book : World → Book
world_book world = book_with world.log world.pending

-- once where the number is one of the first so many from 1, else not at all
abbrev pub once_among : ℕ → ℕ → ℕ
once_among number count = if nat_le 1 number && nat_le number count then 1 else 0

-- how often a number is a place of the log, the number of an entry that waits, or held
abbrev pub times_taken : World → ℕ → ℕ
times_taken world number =
    once_among number (length world.log) + count_by (λ p. nat_eq p.number number) world.pending + count_by (λ held. nat_eq held number) world.held

-- numbers of waiting entries rise
abbrev pub rises_from : ℕ → List Waiting → Bool
rises_from before [] = true
rises_from before (first ∷ others) = nat_lt before first.number && rises_from first.number others

-- each number from 1 to the count is exactly one of a place of the log, the number of an entry that waits and a held number,
-- and no other number is any of these; the entries that wait stand by rising numbers, above the place next to the log's end
pub record IsSound (world : World) : Type 0 where
  pub taken : (number : ℕ) → times_taken world number ≡ once_among number world.count
  pub waiting : IsTrue (rises_from (length world.log + 1) world.pending)

-- what a log and the waiting entries are once those that come next were moved to the log
pub record Released : Type 0 where
  pub log : List Entry
  pub pending : List Waiting

-- the waiting entries that come next are moved to the log's end, as long as there is one
abbrev pub release : List Entry → List Waiting → Released
release log [] = record { log = log; pending = [] }
release log (first ∷ others) =
    if nat_eq first.number (length log + 1) then release (log ++ first.entry ∷ []) others
    else record { log = log; pending = first ∷ others }

-- an entry put among waiting ones by its number
abbrev pub put_waiting : Waiting → List Waiting → List Waiting
put_waiting put [] = put ∷ []
put_waiting put (first ∷ others) = if nat_lt put.number first.number then put ∷ first ∷ others else first ∷ put_waiting put others

-- held numbers without this one
abbrev pub without_number : ℕ → List ℕ → List ℕ
without_number number [] = []
without_number number (first ∷ others) = if nat_eq first number then others else first ∷ without_number number others

-- the world with these held numbers, and with what was released
abbrev pub with_released : World → List ℕ → Released → World
with_released world held now = record { count = world.count; held = held; pending = now.pending; log = now.log }

-- what may be done: draw a number; store an entry at a held one; store that a held number is given up and an entry at another; look
pub data Step : Type 0 where
  draw : Step
  store : ℕ → Entry → Step
  swap : ℕ → ℕ → Entry → Step
  look : Step

-- what a step makes of a world: a draw holds the next number; a store moves a held number to those that wait, with its entry,
-- and then moves the entries that come next to the log; a swap does so with two numbers at once; a look changes nothing
abbrev pub world_after : World → Step → World
world_after world draw =
    record { count = world.count + 1; held = (world.count + 1) ∷ world.held; pending = world.pending; log = world.log }
world_after world (store number e) =
    with_released world (without_number number world.held) (release world.log (put_waiting (record { number = number; entry = e }) world.pending))
world_after world (swap unused number e) =
    with_released world (without_number number (without_number unused world.held))
    (release world.log (put_waiting (record { number = number; entry = e }) (put_waiting (record { number = unused; entry = Unused }) world.pending)))
world_after world look = world

-- the number is held
abbrev pub IsHeld : World → ℕ → Type 0
IsHeld world number = 0 < count_by (λ held. nat_eq held number) world.held

-- a step that stores needs held numbers, two different ones where it stores at two, and a number for the entry above each entry of
-- the book to which it is tied
abbrev pub MayStep : World → Step → Type 0
MayStep world draw = Unit {0}
MayStep world (store number e) = IsHeld world number × IsAbove (world_book world) number e
MayStep world (swap unused number e) =
    IsHeld world unused × IsHeld world number × (unused ≢ number) × IsAbove (world_book world) number e
MayStep world look = Unit {0}
