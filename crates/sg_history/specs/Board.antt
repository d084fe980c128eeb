-- A board as plain data: a log, entries that wait for their places, the rooms that are outstanding, and what it counts.
use Rattle.std.specs.Prelude.{◌≡◌, ◌≤◌, ◌+◌, ◌-◌, ◌*◌, ℕ, List, [], ◌∷◌, length, Option, Some, None, if◌then◌else◌}
use Rattle.std.specs.Str.{bytes_eq}
use Rattle.sg_history.specs.declared.book.Waiting.{Waiting}
use Rattle.sg_history.specs.declared.entries.Entry.{Entry}
use Rattle.sg_history.specs.declared.room.RoomFor.{RoomFor}
use Rattle.sg_history.specs.History.{Extends}
use Rattle.sg_history.specs.Book.{Book, book_with, Later}

-- what the side map has under a text: a number and bytes
pub record SideValue : Type 0 where
  pub number : ℕ
  pub bytes : List ℕ

-- a text of a side map, with what it has under it
pub record SideEntry : Type 0 where
  pub text : List ℕ
  pub value : SideValue

-- a board: its limit of revisions, if it has one; its log; the entries that wait, by rising numbers; the rooms that are outstanding, of which only counts how often
-- each stands; the bytes stored and asked for; the side map; and how many faults it counted
pub record BoardState : Type 0 where
  pub limit : Option ℕ
  pub log : List Entry
  pub pending : List Waiting
  pub rooms : List RoomFor
  pub bytes : ℕ
  pub side : List SideEntry
  pub faults : ℕ

-- the book of a board
abbrev pub board_book : BoardState → Book
board_book board = book_with board.log board.pending

-- the entries of a board and its outstanding rooms, in number
abbrev pub board_count : BoardState → ℕ
board_count board = length board.log + length board.pending + length board.rooms

-- what a side map has under a text, if it has the text
abbrev pub side_at : List SideEntry → List ℕ → Option SideValue
side_at [] text = None
side_at (first ∷ others) text = if bytes_eq first.text text then Some first.value else side_at others text

-- the second number is at least as great, with the same bytes where it is equal
pub record Follows (earlier later : SideValue) : Type 0 where
  pub number : earlier.number ≤ later.number
  pub bytes : earlier.number ≡ later.number → earlier.bytes ≡ later.bytes

-- each text of the first side map is in the second, with a number at least as great, and the same bytes where it is equal
abbrev pub SideFollows : List SideEntry → List SideEntry → Type 0
SideFollows earlier later =
    (text : List ℕ) (old : SideValue) → side_at earlier text ≡ Some old → (new : SideValue) × (side_at later text ≡ Some new) × Follows old new

-- the second board comes after the first: it has the same limit; its book is later and its log extends the other's; its entries and outstanding rooms
-- are in number at least as many, and its bytes exceed the other's by at most 20,971,520 for each one more; its side map
-- follows the other's; and it counted at least as many faults
pub record After (earlier later : BoardState) : Type 0 where
  pub limit : earlier.limit ≡ later.limit
  pub book : Later (board_book earlier) (board_book later)
  pub log : Extends earlier.log later.log
  pub count : board_count earlier ≤ board_count later
  pub bytes : later.bytes ≤ earlier.bytes + 20971520 * (board_count later - board_count earlier)
  pub side : SideFollows earlier.side later.side
  pub faults : earlier.faults ≤ later.faults

-- the board comes after each of these
abbrev pub IsAfterAll : List BoardState → BoardState → Type 0
IsAfterAll [] board = Unit {0}
IsAfterAll (earlier ∷ others) board = After earlier board × IsAfterAll others board
