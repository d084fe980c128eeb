-- The entries that a session stores.
use Rattle.std.specs.Prelude.{◌≡◌, ◌<◌, ℕ, List, [], ◌∷◌, Some}
use Rattle.sg_history.specs.declared.book.Waiting.{Waiting}
use Rattle.sg_history.specs.declared.entries.Entry.TheVariants as entry
use Rattle.sg_history.specs.declared.entries.Write.{Write}
use Rattle.sg_history.specs.Board.{BoardState, board_book}
use Rattle.repl_messages.specs.declared.revision.Revision.{Revision}
use Rattle.sync_syntax.specs.declared.tree.Program.{Program}
use Rattle.doc_board.specs.JudgedWrites.{IsJudgedWrite}
use Rattle.doc_board.specs.Outcomes.{IsWriteOf}
use Rattle.write_path.specs.Reads.{WasRead}

-- the entry is the write of a revision that the user proposed, with the effects with which the program accepts that revision by a board that
-- was read in between, and stands above that board's front; and it stands at its number in the book of a board that was read in between,
-- as a judged write
pub record IsJudgedEntry (program : Program) (user : List ℕ) (before after : List BoardState) (w : Waiting) : Type 0 where
  pub revision : Revision
  pub board : BoardState
  pub was_read : WasRead before after board
  pub write : Write
  pub entry_is : w.entry ≡ entry.Write write
  pub is_write : IsWriteOf program (Some user) revision board write
  pub below : write.at < w.number
  pub holding : BoardState
  pub holding_read : WasRead before after holding
  pub there : board_book holding w.number ≡ Some (entry.Write write)
  pub judged_write : IsJudgedWrite program (board_book holding) w.number write

-- the same of each of these entries
abbrev pub AreJudged : Program → List ℕ → List BoardState → List BoardState → List Waiting → Type 0
AreJudged program user before after [] = Unit {0}
AreJudged program user before after (w ∷ others) = IsJudgedEntry program user before after w × AreJudged program user before after others
