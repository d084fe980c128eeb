-- The answers of the history that a session acts on.
use Rattle.std.specs.Prelude.{◌≡◌, ℕ, Bool, ◌||◌, List, [], ◌∷◌, map, Option, Some, None}
use Rattle.sg_history.specs.declared.entries.Entry.{Entry}
use Rattle.sg_history.specs.declared.entries.Entry.TheVariants as entry
use Rattle.sg_history.specs.declared.entries.Write.{Write}
use Rattle.sg_history.specs.History.{past}
use Rattle.sg_history.specs.Board.{BoardState, board_book}
use Rattle.sg_history.specs.Book.{book_of, Later}
use Rattle.rev_tree.specs.Documents.{trees_up_to}
use Rattle.sync_syntax.specs.declared.tree.Program.{Program}
use Rattle.repl_messages.specs.declared.offers.Asked.{Asked}
use Rattle.repl_messages.specs.declared.offers.Offer.{Offer}
use Rattle.repl_messages.specs.declared.revision.Revision.{Revision}
use Rattle.repl_messages.specs.Looks.{IsFed, AreBodies, SeenUpTo}
use Rattle.doc_board.specs.declared.outcome.Outcome.{Outcome}
use Rattle.doc_board.specs.declared.outcome.Outcome.TheVariants as outcome
use Rattle.doc_board.specs.Offers.{offer_answer}
use Rattle.doc_board.specs.Outcomes.{IsOutcome, IsBadPart, IsTooLarge, IsWriteOf, IsByLimits, bytes_of}
use Rattle.session_core.specs.declared.act.Want.{Want}
use Rattle.session_core.specs.declared.act.Want.TheVariants as want
use Rattle.session_core.specs.declared.event.Event.{Event}
use Rattle.session_core.specs.declared.event.Event.TheVariants as event
use Rattle.session_core.specs.Steps.{SessionStep, wanted_after}

-- each offer has its answer, in their order, by the tree of its document as it was seen, no less than up to the front
pub record AreAsked (h : List Entry) (offers : List Offer) (asked : Asked) : Type 0 where
  pub numbers : List ℕ → ℕ
  pub seen : SeenUpTo (past h asked.front) numbers
  pub answers : asked.answers ≡ map (λ (offer : Offer). offer_answer (trees_up_to (book_of h) numbers offer.doc) offer) offers

-- the outcome of a revision is that by a board than which the history is later
pub record IsJudgedIn (h : List Entry) (program : Program) (strict : Bool) (by : Option (List ℕ)) (r : Revision) (answer : Outcome) : Type 0 where
  pub board : BoardState
  pub later : Later (board_book board) (book_of h)
  pub outcome : IsOutcome program strict by r board answer

-- the outcome goes with the limits of a board than which the history is later
pub record IsRoomedIn (h : List Entry) (r : Revision) (answer : Outcome) : Type 0 where
  pub board : BoardState
  pub later : Later (board_book board) (book_of h)
  pub limits : IsByLimits (bytes_of r) board answer

-- the revision is judged by one board, and refused a room by the sums of one
abbrev pub IsRefusedIn : List Entry → Program → Bool → Option (List ℕ) → Revision → Outcome → Type 0
IsRefusedIn h program strict by r answer = IsJudgedIn h program strict by r answer × IsRoomedIn h r answer

-- the outcome of a stored revision is that by a board than which the history is later, and one had room for it; the history has the write of the revision at its sequence
pub record IsStoredIn (h : List Entry) (program : Program) (strict : Bool) (by : Option (List ℕ)) (r : Revision) (sequence at : ℕ) : Type 0 where
  pub judged : IsJudgedIn h program strict by r (outcome.Stored sequence at)
  pub write : Write
  pub is_write : IsWriteOf program by r judged.board write
  pub there : book_of h sequence ≡ Some (entry.Write write)
  pub room : IsRoomedIn h r (outcome.Stored sequence at)

-- the outcome of a revision that was proposed: by the revision itself where that is refused, else by a board; out of memory none
abbrev pub IsProposedIn : List Entry → Program → Bool → Option (List ℕ) → Revision → Outcome → Type 0
IsProposedIn h program strict by r (outcome.Bad400 field) = IsBadPart r field
IsProposedIn h program strict by r (outcome.TooLarge413 bytes) = IsTooLarge r bytes
IsProposedIn h program strict by r (outcome.UserGone401 at) = IsJudgedIn h program strict by r (outcome.UserGone401 at)
IsProposedIn h program strict by r (outcome.Known at) = IsJudgedIn h program strict by r (outcome.Known at)
IsProposedIn h program strict by r (outcome.BadHistory400 at) = IsJudgedIn h program strict by r (outcome.BadHistory400 at)
IsProposedIn h program strict by r (outcome.Conflict409 at leaf) = IsJudgedIn h program strict by r (outcome.Conflict409 at leaf)
IsProposedIn h program strict by r (outcome.Denied403 at rule) = IsJudgedIn h program strict by r (outcome.Denied403 at rule)
IsProposedIn h program strict by r (outcome.Stored sequence at) = IsStoredIn h program strict by r sequence at
IsProposedIn h program strict by r (outcome.Full503 at places) = IsRefusedIn h program strict by r (outcome.Full503 at places)
IsProposedIn h program strict by r (outcome.LogFull509 at entries bytes) = IsRefusedIn h program strict by r (outcome.LogFull509 at entries bytes)
IsProposedIn h program strict by r outcome.Memory507 = Unit {0}

-- the event is the history's answer to what was wanted, for a session of this user whose revisions are judged by this program; of
-- checkpoints the history says nothing
abbrev pub IsRight : List Entry → List ℕ → Program → Bool → Option Want → Event → Type 0
IsRight h user program strict None event = Unit {0}
IsRight h user program strict (Some (want.Feed since options)) (event.Fed answer) = IsFed h user since options answer
IsRight h user program strict (Some (want.Bodies options rows most)) (event.Bodies b) = AreBodies h user options rows most b
IsRight h user program strict (Some (want.Ask offers)) (event.Asked answer) = AreAsked h offers answer
IsRight h user program strict (Some (want.Propose r)) (event.Judged answer) = IsProposedIn h program (strict || r.noconflicts) (Some user) r answer
IsRight h user program strict (Some (want.GetCheckpoint client)) (event.Got kept) = Unit {0}
IsRight h user program strict (Some (want.SetCheckpoint client rev body)) (event.Set answer) = Unit {0}
IsRight h user program strict (Some wanted) event = ⊥

-- the same of all steps, the last of which is the first of the list
abbrev pub AreRight : List Entry → List ℕ → Program → Bool → List SessionStep → Type 0
AreRight h user program strict [] = Unit {0}
AreRight h user program strict (s ∷ earlier) = IsRight h user program strict (wanted_after earlier) s.event × AreRight h user program strict earlier
