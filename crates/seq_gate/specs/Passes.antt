-- What a pass knows, and what each call makes of it.
use Rattle.std.specs.Prelude.{◌≡◌, ◌<◌, ◌≤◌, ◌+◌, ◌-◌, ◌^◌, ℕ, suc, max, nat_le, nat_lt, List, [], ◌∷◌, ◌++◌, length, Option, Some, None, IsTrue, if◌then◌else◌}
use Rattle.sg_history.specs.declared.book.Waiting.{Waiting}
use Rattle.sg_history.specs.declared.entries.Entry.{Entry}
use Rattle.sg_history.specs.declared.room.RoomFor.{RoomFor}
use Rattle.sg_history.specs.Board.{BoardState, board_book, After, IsAfterAll}
use Rattle.sg_history.specs.Book.{Book}
use Rattle.sg_history.specs.History.{Extends}
use Rattle.sg_history.specs.World.{rises_from}
use Rattle.sg_history.specs.Rooms.{room_times}
use Rattle.seq_gate.specs.Boards.{HasAll}
use Rattle.seq_gate.specs.Counts.{is_unused, times, numbers, count_used, without_rooms}
use Rattle.seq_gate.specs.declared.known.Known.{Known}

-- the draws that a pass has, made ones included
abbrev pub share : Known → ℕ
share p = p.left + p.made

-- the first pass of a gate to a board: it has all draws, and has read the board
abbrev pub first_pass : BoardState → Known
first_pass board =
    record {
      opening = length board.log;
      left = 2 ^ 62;
      made = 0;
      in_turns = 0;
      held = [];
      seen = board.log;
      lowest_front = length board.log;
      rooms = [];
      read = board ∷ [];
      own = [];
    }

-- after a draw, and after one in a turn
abbrev pub drawn : Known → ℕ → Known
drawn p n = record p { left = p.left - 1; made = suc p.made; held = n ∷ p.held }

abbrev pub drawn_in_turn : Known → ℕ → Known
drawn_in_turn p n = record p { left = p.left - 1; made = suc p.made; in_turns = suc p.in_turns; held = n ∷ p.held }

-- after it loaded the front
abbrev pub with_lowest_front : Known → ℕ → Known
with_lowest_front p front = record p { lowest_front = front }

-- a number before others, where nothing stands at it
abbrev pub before_if_none : Option Entry → ℕ → List ℕ → List ℕ
before_if_none None n ns = n ∷ ns
before_if_none (Some e) n ns = ns

-- the numbers at which a book has nothing
abbrev pub still_held : Book → List ℕ → List ℕ
still_held book [] = []
still_held book (n ∷ ns) = before_if_none (book n) n (still_held book ns)

-- an entry with its number before others, where one stands there that is not a sequence given up
abbrev pub before_if_used : Option Entry → ℕ → List Waiting → List Waiting
before_if_used None n others = others
before_if_used (Some e) n others = if is_unused e then others else record { number = n; entry = e } ∷ others

-- the entries that a book has at these numbers, sequences given up apart
abbrev pub stored_at : Book → List ℕ → List Waiting
stored_at book [] = []
stored_at book (n ∷ ns) = before_if_used (book n) n (stored_at book ns)

-- the rooms of a pass change as those of the board did
abbrev pub rooms_after : List RoomFor → BoardState → BoardState → List RoomFor
rooms_after rooms found left = without_rooms found.rooms (left.rooms ++ rooms)

-- after a turn, with the board as it was found and as it was left: it has seen the log, and read both boards; the numbers
-- at which the board has an entry are no longer held, and such an entry is its own; its rooms changed as the board's did
abbrev pub after_turn : Known → BoardState → BoardState → Known
after_turn p found left =
    record p {
      held = still_held (board_book left) p.held;
      seen = left.log;
      lowest_front = length left.log;
      rooms = rooms_after p.rooms found left;
      read = left ∷ found ∷ p.read;
      own = stored_at (board_book left) p.held ++ p.own;
    }

-- a pass that was split, and the one that was split from it: that one knows the same, and holds nothing
abbrev pub split_from : Known → Known
split_from p = record p { left = p.left - 2 ^ 32 }

abbrev pub split_off : Known → Known
split_off p =
    record p { left = 2 ^ 32; made = 0; in_turns = 0; held = []; rooms = []; own = [] }

-- the longer of two histories
abbrev pub longer : List Entry → List Entry → List Entry
longer one other = if nat_le (length one) (length other) then other else one

-- a pass that took in another
abbrev pub joined_passes : Known → Known → Known
joined_passes p other =
    record {
      opening = p.opening;
      left = p.left + other.left;
      made = p.made + other.made;
      in_turns = p.in_turns + other.in_turns;
      held = p.held ++ other.held;
      seen = longer p.seen other.seen;
      lowest_front = max p.lowest_front other.lowest_front;
      rooms = p.rooms ++ other.rooms;
      read = p.read ++ other.read;
      own = p.own ++ other.own;
    }

-- no number is held twice, nor that of two own entries
pub record HasEachOnce (p : Known) : Type 0 where
  pub held : (k : ℕ) → times k p.held ≤ 1
  pub own : (k : ℕ) → times k (numbers p.own) ≤ 1

-- the number is above each at which a book has an entry
abbrev pub IsAboveBook : ℕ → Book → Type 0
IsAboveBook n book = (k : ℕ) (e : Entry) → book k ≡ Some e → k < n

-- the number is above each of the books of these boards
abbrev pub IsAboveAll : ℕ → List BoardState → Type 0
IsAboveAll n [] = Unit {0}
IsAboveAll n (board ∷ others) = IsAboveBook n (board_book board) × IsAboveAll n others

-- the number is one that no one else has or had: it is above the pass's lowest front, above each number that the pass holds, and above
-- each number of each book that it has read
pub record IsNew (p : Known) (n : ℕ) : Type 0 where
  pub least : 0 < n
  pub small : n < 2 ^ 64
  pub lowest_front : p.lowest_front < n
  pub held : (k : ℕ) → 0 < times k p.held → k < n
  pub read : IsAboveAll n p.read

-- what a pass finds when its turn comes: the log extends what it has seen, and is no shorter than its lowest front; the board comes
-- after each that it has read, and has each of its own entries at its number, nothing at its held numbers, and its rooms at
-- least as often as it has them; entries wait by rising numbers, and none of them comes next
pub record Finds (p : Known) (board : BoardState) : Type 0 where
  pub seen : Extends p.seen board.log
  pub lowest_front : p.lowest_front ≤ length board.log
  pub read : IsAfterAll p.read board
  pub own : HasAll board p.own
  pub held : (k : ℕ) → 0 < times k p.held → (0 < k) × (board_book board k ≡ None)
  pub rooms : (room : RoomFor) → room_times room p.rooms ≤ room_times room board.rooms
  pub waiting : IsTrue (rises_from (length board.log + 1) board.pending)

-- the board in hand has an entry where the one that was found has none only at numbers that the pass holds
abbrev pub StoresHeld : Known → BoardState → BoardState → Type 0
StoresHeld p found hand = (k : ℕ) (e : Entry) → board_book hand k ≡ Some e → board_book found k ≡ None → 0 < times k p.held

-- how a turn may leave the board: it comes after the one that was found, and has more entries at numbers of this pass alone; of
-- no room fewer are outstanding than there were, but for those of the pass; entries wait by rising numbers, and none comes next
pub record MayLeave (p : Known) (found left : BoardState) : Type 0 where
  pub after : After found left
  pub stored : StoresHeld p found left
  pub rooms : (room : RoomFor) → room_times room found.rooms ≤ room_times room left.rooms + room_times room p.rooms
  pub waiting : IsTrue (rises_from (length left.log + 1) left.pending)

-- how often a number must be that of an own entry, where the log had so many entries when the gate was opened
abbrev pub owed_count : ℕ → BoardState → ℕ → ℕ
owed_count opening board k = if nat_lt opening k then count_used (board_book board k) else 0

-- a board that a gate was closed with: nothing waits, and no room is outstanding; it comes after each board that was read, and
-- has each own entry; beyond the entries that the gate was opened with, its entries are the own ones, each once, but for
-- sequences given up
pub record Closes (p : Known) (board : BoardState) : Type 0 where
  pub pending : board.pending ≡ []
  pub rooms : board.rooms ≡ []
  pub read : IsAfterAll p.read board
  pub own : HasAll board p.own
  pub owners : (k : ℕ) → times k (numbers p.own) ≡ owed_count p.opening board k
