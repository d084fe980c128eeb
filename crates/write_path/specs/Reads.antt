-- Boards that are read, one after another.
use Rattle.std.specs.Prelude.{◌≡◌, ◌⊎◌, ◌≤◌, ℕ, List, [], ◌∷◌, ◌++◌, length, Option, Some, None}
use Rattle.sg_history.specs.declared.entries.Entry.{Entry}
use Rattle.sg_history.specs.Board.{BoardState, board_book, IsAfterAll}
use Rattle.sg_history.specs.Book.{book_of, Later}

-- the history's book is later than that of each of these boards
abbrev pub IsLaterThanAll : List BoardState → List Entry → Type 0
IsLaterThanAll [] h = Unit {0}
IsLaterThanAll (b ∷ others) h = Later (board_book b) (book_of h) × IsLaterThanAll others h

-- the board is one of these
abbrev pub IsOneOf : List BoardState → BoardState → Type 0
IsOneOf [] b = ⊥
IsOneOf (first ∷ others) b = (first ≡ b) ⊎ IsOneOf others b

-- each of the added boards, the newest first, comes after all that were read before it
abbrev pub AreAfter : List BoardState → List BoardState → Type 0
AreAfter [] before = Unit {0}
AreAfter (b ∷ added) before = IsAfterAll (added ++ before) b × AreAfter added before

-- no log of these is shorter than the one number, nor longer than the other
abbrev pub AreBetween : ℕ → ℕ → List BoardState → Type 0
AreBetween low high [] = Unit {0}
AreBetween low high (b ∷ others) = (low ≤ length b.log) × (length b.log ≤ high) × AreBetween low high others

-- what reads leave, however many: the boards read are those before with the added ones in front, each of which comes after all
-- that were read before it and has a log no shorter than the lowest front, which rises to at least the length of each log
pub record Reads (before after : List BoardState) (lowest_before lowest_after : ℕ) : Type 0 where
  pub added : List BoardState
  pub read : after ≡ added ++ before
  pub later : AreAfter added before
  pub lengths : AreBetween lowest_before lowest_after added
  pub rises : lowest_before ≤ lowest_after

-- the board is one of those that were read in between
pub record WasRead (before after : List BoardState) (b : BoardState) : Type 0 where
  pub added : List BoardState
  pub read : after ≡ added ++ before
  pub one : IsOneOf added b

-- the board's log has the recorded length, where one is recorded
abbrev pub HasLength : Option ℕ → BoardState → Type 0
HasLength None b = Unit {0}
HasLength (Some n) b = length b.log ≡ n
