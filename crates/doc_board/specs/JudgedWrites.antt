-- Writes of a book that were judged under a program, whatever board judged them.
use Rattle.std.specs.Prelude.{◌≡◌, ◌<◌, ◌-◌, ℕ, List, length, reverse, option_map, Some, None, Ok}
use Rattle.sg_history.specs.declared.entries.Entry.{Entry}
use Rattle.sg_history.specs.declared.entries.Entry.TheVariants as entry
use Rattle.sg_history.specs.declared.entries.Write.{Write}
use Rattle.sg_history.specs.Board.{BoardState, board_book}
use Rattle.sg_history.specs.Book.{Book, Keeps, Later, book_of, write_at}
use Rattle.rev_tree.specs.Documents.{base_in, tree_in}
use Rattle.rev_tree.specs.Tree.{winner_of}
use Rattle.sync_syntax.specs.declared.tree.Program.{Program}
use Rattle.doc_board.specs.Boards.{board_last}
use Rattle.doc_board.specs.Judging.{IsSaidOf}
use Rattle.doc_board.specs.Outcomes.{effects_in}

-- a write at this sequence of a book was judged: at a front below the sequence; it names the winner of the tree that its
-- document's writes up to the sequence make; and the program accepts its document with exactly its channels, grants and roles, on
-- the body of the write below the sequence that has its first ancestor's revision, for its author as at that front
pub record IsJudgedWrite (program : Program) (book : Book) (sequence : ℕ) (w : Write) : Type 0 where
  pub at : w.at < sequence
  pub winner : option_map (λ l. l.rev) (winner_of (tree_in book sequence w.doc)) ≡ Some w.winner
  -- the entries up to the front
  pub log : List Entry
  pub front : length log ≡ w.at
  pub kept : Keeps (book_of log) book
  pub accepted : IsSaidOf program (reverse log) (base_in book (sequence - 1) w.doc w.ancestors) w.by w.doc w.deleted w.body (Ok (effects_in w))

-- a write stands at this sequence of a book that is later than a board's, above the board's front and the last write of its
-- document in the board's book, and no write of the document stands between that one and it
pub record IsNextWrite (judged : BoardState) (book : Book) (sequence : ℕ) (w : Write) : Type 0 where
  pub later : Later (board_book judged) book
  pub there : book sequence ≡ Some (entry.Write w)
  pub front : length judged.log < sequence
  pub above : board_last judged w.doc < sequence
  pub between : (number : ℕ) → board_last judged w.doc < number → number < sequence → write_at book w.doc number ≡ None
