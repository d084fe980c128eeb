-- How often a number stands somewhere. That each number is exactly one of several things is said by sums of these.
use Rattle.std.specs.Prelude.{ℕ, ◌+◌, Bool, true, false, nat_eq, nat_lt, List, [], ◌∷◌, Option, Some, None, if◌then◌else◌}
use Rattle.sg_history.specs.declared.book.Waiting.{Waiting}
use Rattle.sg_history.specs.declared.entries.Entry.{Entry}
use Rattle.sg_history.specs.declared.entries.Entry.TheVariants.{Unused}
use Rattle.sg_history.specs.declared.room.RoomFor.{RoomFor}
use Rattle.sg_history.specs.Rooms.{without_room}

-- once where it is so, else not at all
abbrev pub count_once : Bool → ℕ
count_once b = if b then 1 else 0

-- how often a number stands in a list
abbrev pub times : ℕ → List ℕ → ℕ
times k [] = 0
times k (n ∷ ns) = count_once (nat_eq n k) + times k ns

-- the numbers of entries
abbrev pub numbers : List Waiting → List ℕ
numbers [] = []
numbers (first ∷ others) = first.number ∷ numbers others

-- the rooms without each of these, once for each time that it stands there
abbrev pub without_rooms : List RoomFor → List RoomFor → List RoomFor
without_rooms [] rooms = rooms
without_rooms (gone ∷ others) rooms = without_rooms others (without_room gone rooms)

-- whether a sequence was given up
abbrev pub is_unused : Entry → Bool
is_unused Unused = true
is_unused other = false

-- how many entries stand where this one was looked up: one or none
abbrev pub stands : Option Entry → ℕ
stands None = 0
stands (Some e) = 1

-- the same, where a sequence that was given up counts for none
abbrev pub count_used : Option Entry → ℕ
count_used None = 0
count_used (Some e) = if is_unused e then 0 else 1

-- how often a number is one of the first so many from 0: once or not at all
abbrev pub below : ℕ → ℕ → ℕ
below k n = count_once (nat_lt k n)

module _ {V : Type 0} where
  -- what the views have together
  abbrev pub total : (V → ℕ) → List V → ℕ
  total f [] = 0
  total f (v ∷ vs) = f v + total f vs
