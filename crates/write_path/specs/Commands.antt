-- What putting or dropping a user or a role at a ground answers, and what it leaves.
use Rattle.std.specs.Prelude.{◌≡◌, ◌<◌, ℕ, List, ◌∷◌, length, Option, Some}
use Rattle.sg_history.specs.declared.book.Waiting.{Waiting}
use Rattle.sg_history.specs.declared.entries.Entry.{Entry}
use Rattle.sg_history.specs.Board.{BoardState, board_book}
use Rattle.doc_board.specs.declared.outcome.Outcome.{Outcome}
use Rattle.doc_board.specs.declared.outcome.Outcome.TheVariants as outcome
use Rattle.write_path.specs.Proposals.{IsRoomed}
use Rattle.write_path.specs.Reads.{Reads, WasRead, HasLength}

-- the entry is the one that is own since; it stands at its sequence in the book of a board that was read in between, and `at` is the length of the log of one before, which has the recorded length; and one more had room for it
pub record IsCommandStored (before after : List BoardState) (own_before own_after : List Waiting) (recorded : Option ℕ) (e : Entry) (sequence at : ℕ) : Type 0 where
  pub own : own_after ≡ record { number = sequence; entry = e } ∷ own_before
  pub holding : BoardState
  pub was_read : WasRead before after holding
  pub there : board_book holding sequence ≡ Some e
  pub earlier : BoardState
  pub was_earlier : WasRead before after earlier
  pub has_length : HasLength recorded earlier
  pub front : at ≡ length earlier.log
  pub next : at < sequence
  pub room : IsRoomed before after recorded 0 (outcome.Stored sequence at)

-- the entry was refused a room by the sums of a board that was read in between, whose log has the length `at`; nothing is own that was not
pub record IsCommandRefused (before after : List BoardState) (own_before own_after : List Waiting) (recorded : Option ℕ) (at : ℕ) (answer : Outcome) : Type 0 where
  pub own : own_after ≡ own_before
  pub room : IsRoomed before after recorded 0 answer
  pub front : at ≡ length room.board.log

-- the entry is stored or refused a room, or memory was short and nothing is own that was not
abbrev pub IsCommanded : List BoardState → List BoardState → List Waiting → List Waiting → Option ℕ → Entry → Outcome → Type 0
IsCommanded before after own_before own_after recorded e (outcome.Stored sequence at) =
    IsCommandStored before after own_before own_after recorded e sequence at
IsCommanded before after own_before own_after recorded e (outcome.Full503 at places) =
    IsCommandRefused before after own_before own_after recorded at (outcome.Full503 at places)
IsCommanded before after own_before own_after recorded e (outcome.LogFull509 at entries bytes) =
    IsCommandRefused before after own_before own_after recorded at (outcome.LogFull509 at entries bytes)
IsCommanded before after own_before own_after recorded e outcome.Memory507 = own_after ≡ own_before
IsCommanded before after own_before own_after recorded e other = ⊥

-- what a command does to the boards read, to the lowest front and to the own entries, and what it answers
pub record Commands (before after : List BoardState) (lowest_before lowest_after : ℕ) (own_before own_after : List Waiting) (recorded : Option ℕ) (e : Entry) (answer : Outcome) : Type 0 where
  pub reads : Reads before after lowest_before lowest_after
  pub commanded : IsCommanded before after own_before own_after recorded e answer
