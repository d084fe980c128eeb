-- What proposing a revision to a ground answers, and what it leaves.
use Rattle.std.specs.Prelude.{◌≡◌, ◌+◌, ℕ, Bool, List, ◌∷◌, Option, Some, None}
use Rattle.sg_history.specs.declared.book.Waiting.{Waiting}
use Rattle.sg_history.specs.declared.entries.Entry.TheVariants as entry
use Rattle.sg_history.specs.declared.entries.Write.{Write}
use Rattle.sg_history.specs.Board.{BoardState, board_book}
use Rattle.repl_messages.specs.declared.revision.Revision.{Revision}
use Rattle.sync_syntax.specs.declared.tree.Program.{Program}
use Rattle.doc_board.specs.declared.outcome.Outcome.{Outcome}
use Rattle.doc_board.specs.declared.outcome.Outcome.TheVariants as outcome
use Rattle.doc_board.specs.JudgedWrites.{IsJudgedWrite}
use Rattle.doc_board.specs.Outcomes.{IsOutcome, IsBadPart, IsTooLarge, IsWriteOf, IsByLimits, bytes_of}
use Rattle.write_path.specs.Reads.{Reads, WasRead, HasLength}

-- the answer is that of a board that was read in between, whose log has the recorded length
pub record IsAnswered (before after : List BoardState) (recorded : Option ℕ) (program : Program) (strict : Bool) (by : Option (List ℕ)) (r : Revision) (answer : Outcome) : Type 0 where
  pub board : BoardState
  pub was_read : WasRead before after board
  pub has_length : HasLength recorded board
  pub outcome : IsOutcome program strict by r board answer

-- the answer goes with the limits of a board that was read in between, whose log has the recorded length, for so many bytes
pub record IsRoomed (before after : List BoardState) (recorded : Option ℕ) (bytes : ℕ) (answer : Outcome) : Type 0 where
  pub board : BoardState
  pub was_read : WasRead before after board
  pub has_length : HasLength recorded board
  pub limits : IsByLimits bytes board answer

-- the write of the revision, judged by one board that was read in between, is the one entry that is own since; it stands at its sequence in the book of another board that was read in between, and is a judged write there; and one more had room for it
pub record IsStored (before after : List BoardState) (own_before own_after : List Waiting) (recorded : Option ℕ) (program : Program) (strict : Bool) (by : Option (List ℕ)) (r : Revision) (sequence at : ℕ) : Type 0 where
  pub judged : BoardState
  pub was_judged : WasRead before after judged
  pub has_length : HasLength recorded judged
  pub room : IsRoomed before after recorded (bytes_of r) (outcome.Stored sequence at)
  pub outcome : IsOutcome program strict by r judged (outcome.Stored sequence at)
  pub write : Write
  pub is_write : IsWriteOf program by r judged write
  pub own : own_after ≡ record { number = sequence; entry = entry.Write write } ∷ own_before
  pub holding : BoardState
  pub was_read : WasRead before after holding
  pub there : board_book holding sequence ≡ Some (entry.Write write)
  pub judged_write : IsJudgedWrite program (board_book holding) sequence write

-- the revision was judged by a board that was read in between, and refused a room by the sums of one that was read after that; nothing is own that was not
pub record IsRefused (before after : List BoardState) (own_before own_after : List Waiting) (recorded : Option ℕ) (program : Program) (strict : Bool) (by : Option (List ℕ)) (r : Revision) (answer : Outcome) : Type 0 where
  pub own : own_after ≡ own_before
  pub judged : IsAnswered before after recorded program strict by r answer
  pub room : IsRoomed before after recorded (bytes_of r) answer
  pub middle : List BoardState
  pub judged_first : WasRead before middle judged.board
  pub room_after : WasRead middle after room.board

-- what is answered: without a board where the revision itself is refused, else by a board that was read in between; and what is own since: the stored write, at every other answer nothing more
abbrev pub IsProposed : List BoardState → List BoardState → List Waiting → List Waiting → Option ℕ → Program → Bool → Option (List ℕ) → Revision → Outcome → Type 0
IsProposed before after own_before own_after recorded program strict by r (outcome.Bad400 field) = (own_after ≡ own_before) × IsBadPart r field
IsProposed before after own_before own_after recorded program strict by r (outcome.TooLarge413 bytes) = (own_after ≡ own_before) × IsTooLarge r bytes
IsProposed before after own_before own_after recorded program strict by r (outcome.UserGone401 at) =
    (own_after ≡ own_before) × IsAnswered before after recorded program strict by r (outcome.UserGone401 at)
IsProposed before after own_before own_after recorded program strict by r (outcome.Known at) =
    (own_after ≡ own_before) × IsAnswered before after recorded program strict by r (outcome.Known at)
IsProposed before after own_before own_after recorded program strict by r (outcome.BadHistory400 at) =
    (own_after ≡ own_before) × IsAnswered before after recorded program strict by r (outcome.BadHistory400 at)
IsProposed before after own_before own_after recorded program strict by r (outcome.Conflict409 at leaf) =
    (own_after ≡ own_before) × IsAnswered before after recorded program strict by r (outcome.Conflict409 at leaf)
IsProposed before after own_before own_after recorded program strict by r (outcome.Denied403 at rule) =
    (own_after ≡ own_before) × IsAnswered before after recorded program strict by r (outcome.Denied403 at rule)
IsProposed before after own_before own_after recorded program strict by r (outcome.Stored sequence at) =
    IsStored before after own_before own_after recorded program strict by r sequence at
IsProposed before after own_before own_after recorded program strict by r (outcome.Full503 at places) =
    IsRefused before after own_before own_after recorded program strict by r (outcome.Full503 at places)
IsProposed before after own_before own_after recorded program strict by r (outcome.LogFull509 at entries bytes) =
    IsRefused before after own_before own_after recorded program strict by r (outcome.LogFull509 at entries bytes)
IsProposed before after own_before own_after recorded program strict by r outcome.Memory507 = own_after ≡ own_before

-- what proposing does to the boards read, to the lowest front and to the own entries, and what it answers
pub record Stores (before after : List BoardState) (lowest_before lowest_after : ℕ) (own_before own_after : List Waiting) (recorded : Option ℕ) (program : Program) (strict : Bool) (by : Option (List ℕ)) (r : Revision) (answer : Outcome) : Type 0 where
  pub reads : Reads before after lowest_before lowest_after
  pub proposed : IsProposed before after own_before own_after recorded program strict by r answer

-- a recorded length is one more where the revision was stored, else the same; where none is recorded, none is then
abbrev pub recorded_after : Option ℕ → Outcome → Option ℕ
recorded_after None answer = None
recorded_after (Some n) (outcome.Stored sequence at) = Some (n + 1)
recorded_after (Some n) answer = Some n
