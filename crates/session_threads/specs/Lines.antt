-- What the lines of a script come to while others write: each by a board of which the history is later.
use Rattle.std.specs.Prelude.{◌≡◌, ◌<◌, ◌≤◌, ℕ, Bool, List, [], ◌∷◌, length, None, Some}
use Rattle.sg_history.specs.declared.book.Waiting.{Waiting}
use Rattle.sg_history.specs.declared.entries.Entry.{Entry}
use Rattle.sg_history.specs.declared.entries.Entry.TheVariants as entry
use Rattle.sg_history.specs.declared.entries.Write.{Write}
use Rattle.sg_history.specs.Board.{BoardState, board_book}
use Rattle.sg_history.specs.Book.{Later, book_of}
use Rattle.seq_gate.specs.Boards.{HasAll}
use Rattle.principals.specs.declared.admin_line.AdminLine.{AdminLine}
use Rattle.principals.specs.declared.admin_line.AdminLine.TheVariants as line
use Rattle.principals.specs.Script.{entry_of}
use Rattle.repl_messages.specs.declared.revision.Revision.{Revision}
use Rattle.sync_syntax.specs.declared.tree.Program.{Program}
use Rattle.doc_board.specs.declared.outcome.Outcome.{Outcome}
use Rattle.doc_board.specs.declared.outcome.Outcome.TheVariants as outcome
use Rattle.doc_board.specs.Outcomes.{IsByLimits, IsOutcome, IsWriteOf, bytes_of}
use Rattle.write_path.specs.Own.{own_after}
use Rattle.session_threads.specs.declared.played.LineOutcome.{LineOutcome}
use Rattle.session_threads.specs.declared.played.LineOutcome.TheVariants.{Plain}
use Rattle.session_threads.specs.OwnRevisions.{own_revision}

-- an outcome goes with the limits of a board, for so many bytes, of which the history is later
pub record IsLimited (h : List Entry) (bytes : ℕ) (answer : Outcome) : Type 0 where
  pub board : BoardState
  pub later : Later (board_book board) (book_of h)
  pub limits : IsByLimits bytes board answer

-- what a command comes to by a board: its entry stands in the history above the board's front, or that board has no room for it; or
-- memory was short
abbrev pub IsCommandBy : List Entry → Entry → BoardState → Outcome → Type 0
IsCommandBy h e board (outcome.Stored sequence at) = (at ≡ length board.log) × (at < sequence) × (book_of h sequence ≡ Some e) × IsLimited h 0 (outcome.Stored sequence at)
IsCommandBy h e board (outcome.Full503 at places) = (at ≡ length board.log) × IsByLimits 0 board (outcome.Full503 at places)
IsCommandBy h e board (outcome.LogFull509 at entries bytes) = (at ≡ length board.log) × IsByLimits 0 board (outcome.LogFull509 at entries bytes)
IsCommandBy h e board outcome.Memory507 = Unit {0}
IsCommandBy h e board other = ⊥

-- besides the outcome of a revision: where it is stored, its write stands in the history; and a room was made or refused by a board
-- of which the history is later
abbrev pub IsKeptBy : List Entry → Program → Revision → BoardState → Outcome → Type 0
IsKeptBy h program r board (outcome.Stored sequence at) =
    (w : Write) × IsWriteOf program None r board w × (book_of h sequence ≡ Some (entry.Write w)) × IsLimited h (bytes_of r) (outcome.Stored sequence at)
IsKeptBy h program r board (outcome.Full503 at places) = IsLimited h (bytes_of r) (outcome.Full503 at places)
IsKeptBy h program r board (outcome.LogFull509 at entries bytes) = IsLimited h (bytes_of r) (outcome.LogFull509 at entries bytes)
IsKeptBy h program r board other = Unit {0}

-- what a revision comes to by a board, as the administrator's
pub record IsRevisionBy (h : List Entry) (program : Program) (strict : Bool) (r : Revision) (board : BoardState) (answer : Outcome) : Type 0 where
  pub outcome : IsOutcome program strict None r board answer
  pub kept : IsKeptBy h program r board answer

-- what a line comes to by a board
abbrev pub IsLineBy : List Entry → Program → Bool → AdminLine → BoardState → Outcome → Type 0
IsLineBy h program strict (line.Command c) board answer = IsCommandBy h (entry_of c) board answer
IsLineBy h program strict (line.Doc doc parent deleted body) board answer = IsRevisionBy h program strict (own_revision doc parent deleted body) board answer

-- a line has its outcome by a board of which the history is later, which has these entries, and of which the log has at least this length
pub record IsLineAt (h : List Entry) (program : Program) (strict : Bool) (stored : List Waiting) (least : ℕ) (l : AdminLine) (answer : Outcome) (board : BoardState) : Type 0 where
  pub later : Later (board_book board) (book_of h)
  pub has : HasAll board stored
  pub front : least ≤ length board.log
  pub by : IsLineBy h program strict l board answer

-- lines, each with its outcome: the board of each has the entries that the lines before it stored, and a log no shorter than that of the
-- line before
abbrev pub AreLinesAt : List Entry → Program → Bool → List Waiting → ℕ → List AdminLine → List LineOutcome → Type 0
AreLinesAt h program strict stored least [] [] = Unit {0}
AreLinesAt h program strict stored least (l ∷ lines) (Plain answer ∷ outcomes) =
    (board : BoardState) × IsLineAt h program strict stored least l answer board
    × AreLinesAt h program strict (own_after stored h answer) (length board.log) lines outcomes
AreLinesAt h program strict stored least [] (o ∷ outcomes) = ⊥
AreLinesAt h program strict stored least (l ∷ lines) [] = ⊥

-- the sequences of the lines that were stored, in their order
abbrev pub sequence_before : Outcome → List ℕ → List ℕ
sequence_before (outcome.Stored sequence at) others = sequence ∷ others
sequence_before other others = others

abbrev pub stored_sequences : List LineOutcome → List ℕ
stored_sequences [] = []
stored_sequences (Plain answer ∷ outcomes) = sequence_before answer (stored_sequences outcomes)
