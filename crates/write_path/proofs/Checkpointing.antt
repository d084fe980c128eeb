-- what a get and a set of a checkpoint make of the boards read, and of what a pass knows
use Rattle.std.proofs.Common.{◌≡◌, ◌+◌, ◌∙◌, ℕ, List, [], ◌∷◌, ◌++◌, length, refl, sym, ap, subst, arith, Result, Ok, Err, IfOk, Option, Some, None, IsTrue}
use Rattle.std.proofs.lemmas.Option.{none-some}
use Rattle.sg_history.specs.declared.book.Waiting.{Waiting}
use Rattle.sg_history.specs.declared.entries.Entry.{Entry}
use Rattle.sg_history.specs.declared.room.RoomFor.{RoomFor}
use Rattle.sg_history.specs.Board.{BoardState, After, board_book}
use Rattle.sg_history.specs.Book.{Book, book_with}
use Rattle.sg_history.specs.Rooms.{room_times}
use Rattle.sg_history.specs.World.{rises_from}
use Rattle.checkpoint_store.specs.declared.answers.Kept0.{Kept0}
use Rattle.checkpoint_store.specs.declared.answers.SetAnswer.{SetAnswer}
use Rattle.checkpoint_store.specs.Answers.{kept_at}
use Rattle.seq_gate.specs.Counts.{without_rooms}
use Rattle.seq_gate.specs.Passes.{Finds, MayLeave, after_turn, still_held, stored_at as own_at}
use Rattle.seq_gate.specs.declared.known.Known.{Known}
use Rattle.doc_board.specs.Boards.{board_of}
use Rattle.doc_board.specs.State.{State, book_on}
use Rattle.doc_board.specs.declared.outcome.Outcome.{Outcome}
use Rattle.doc_board.specs.declared.outcome.Outcome.TheVariants as outcome
use Rattle.repl_messages.specs.declared.revision.Revision.{Revision}
use Rattle.sync_syntax.specs.declared.tree.Program.{Program}
use Rattle.board_steps.specs.After.{IsBoardAfter, IsBoardCommanded}
use Rattle.write_path.specs.Checkpoints.{HasCheckpoints, IsBoardSet, IsSetTurn, SetsCheckpoint}
use Rattle.write_path.specs.Reads.{WasRead}
use Rattle.write_path.specs.Shared.{Rests}
use Rattle.write_path.proofs.OneRead.{was_read}
use Rattle.write_path.proofs.Proposed.{first_read, second_read}
use Rattle.write_path.proofs.RoomTimes.{all_gone}
use Rattle.write_path.proofs.Turning.{a_turn}

-- ---- a ground with one owner

-- what is kept at a board that was read
pub kept_here : {E : Type 0} (before after : List BoardState) (s : State) (text : List ℕ) (r : Result Kept0 E) → after ≡ board_of s ∷ before → IfOk r (λ kept. kept ≡ kept_at s.checkpoints text)
    → IfOk r (λ kept. (b : BoardState) × WasRead before after b × HasCheckpoints (Some s.checkpoints) b × (kept ≡ kept_at b.side text))
kept_here before after s text (Ok kept) read is = (board_of s, was_read before after (board_of s) read, refl, is)
kept_here before after s text (Err e) read is = tt

-- a set at it
pub set_here : (before after : List BoardState) (s t : State) (text : List ℕ) (rev : ℕ) (body : List ℕ) (answer : SetAnswer) → after ≡ board_of t ∷ board_of s ∷ before → IsBoardSet s t text rev body answer
    → SetsCheckpoint before after (Some s.checkpoints) (Some t.checkpoints) text rev body answer
set_here before after s t text rev body answer read is = record {
  found = board_of s;
  was_found = first_read before after (board_of s) (board_of t) read;
  has_checkpoints = refl;
  left = board_of t;
  was_left = second_read before after (board_of s) (board_of t) read;
  sets = is.sets;
  checkpoints = is.checkpoints;
  recorded_is = refl;
}

-- no proposal changes the checkpoints
pub proposed_still : (s t : State) (program : Program) (by : Option (List ℕ)) (r : Revision) (answer : Outcome) → IsBoardAfter s t program by r answer → t.checkpoints ≡ s.checkpoints
proposed_still s t program by r (outcome.Bad400 field) left = left.checkpoints
proposed_still s t program by r (outcome.TooLarge413 bytes) left = left.checkpoints
proposed_still s t program by r (outcome.UserGone401 at) left = left.checkpoints
proposed_still s t program by r (outcome.Known at) left = left.checkpoints
proposed_still s t program by r (outcome.BadHistory400 at) left = left.checkpoints
proposed_still s t program by r (outcome.Conflict409 at leaf) left = left.checkpoints
proposed_still s t program by r (outcome.Denied403 at rule) left = left.checkpoints
proposed_still s t program by r (outcome.Stored sequence at) left = left.checkpoints
proposed_still s t program by r (outcome.Full503 at places) left = left.checkpoints
proposed_still s t program by r (outcome.LogFull509 at entries bytes) left = left.checkpoints
proposed_still s t program by r outcome.Memory507 left = left.checkpoints

-- no command does
pub commanded_still : (s t : State) (e : Entry) (answer : Outcome) → IsBoardCommanded s t e answer → t.checkpoints ≡ s.checkpoints
commanded_still s t e (outcome.Stored sequence at) left = left.checkpoints
commanded_still s t e (outcome.Full503 at places) left = left.0.checkpoints
commanded_still s t e (outcome.LogFull509 at entries bytes) left = left.0.checkpoints
commanded_still s t e outcome.Memory507 left = left.checkpoints
commanded_still s t e (outcome.Bad400 field) left = absurd left
commanded_still s t e (outcome.TooLarge413 bytes) left = absurd left
commanded_still s t e (outcome.UserGone401 at) left = absurd left
commanded_still s t e (outcome.Known at) left = absurd left
commanded_still s t e (outcome.BadHistory400 at) left = absurd left
commanded_still s t e (outcome.Conflict409 at leaf) left = absurd left
commanded_still s t e (outcome.Denied403 at rule) left = absurd left

-- ---- a turn in which a checkpoint is set

module _ (p : Known) (s t : State) (text : List ℕ) (rev : ℕ) (body : List ℕ) (answer : SetAnswer) (finds : Finds p (board_of s)) (rests : Rests p) (next : After (board_of s) (board_of t))
    (is : IsBoardSet s t text rev body answer) where
  same_book : book_on t ≡ book_on s
  same_book = λ i. book_with (is.log i) (is.pending i)

  pub may_leave_set : MayLeave p (board_of s) (board_of t)
  may_leave_set = record {
    after = next;
    stored = λ k e there none. absurd (none-some e (sym none ∙ sym (ap (λ (b : Book). b k) same_book) ∙ there));
    rooms = λ r. omega (arith, ap (λ (rs : List RoomFor). room_times r rs) is.rooms);
    waiting = subst (λ (ws : List Waiting). IsTrue (rises_from (length t.log + 1) ws)) (sym is.pending)
        (subst (λ (es : List Entry). IsTrue (rises_from (length es + 1) s.pending)) (sym is.log) finds.waiting);
  }

  pub set_turn : IsSetTurn p (after_turn p (board_of s) (board_of t)) text rev body answer
  set_turn = record {
    found = board_of s;
    left = board_of t;
    turn = a_turn p (board_of s) (board_of t) finds next;
    own = ap (λ (held : List ℕ). own_at (board_book (board_of t)) held ++ p.own) rests.held;
    rests = record {
      held = ap (λ (held : List ℕ). still_held (board_book (board_of t)) held) rests.held;
      rooms = ap (λ (rs : List RoomFor). without_rooms s.rooms (t.rooms ++ rs)) rests.rooms
          ∙ ap (λ (rs : List RoomFor). without_rooms s.rooms (rs ++ [])) is.rooms
          ∙ all_gone s.rooms [];
    };
    sets = is.sets;
    checkpoints = is.checkpoints;
  }

-- what it answers
pub set_in_turn : (p q : Known) (text : List ℕ) (rev : ℕ) (body : List ℕ) (answer : SetAnswer) → IsSetTurn p q text rev body answer → SetsCheckpoint p.read q.read None None text rev body answer
set_in_turn p q text rev body answer done = record {
  found = done.found;
  was_found = first_read p.read q.read done.found done.left done.turn.read;
  has_checkpoints = tt;
  left = done.left;
  was_left = second_read p.read q.read done.found done.left done.turn.read;
  sets = done.sets;
  checkpoints = done.checkpoints;
  recorded_is = refl;
}
