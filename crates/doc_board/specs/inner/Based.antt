-- The write of a revision in a board's book: among those that wait, or in the log. Only proofs need this.
use Rattle.std.specs.Prelude.{◌≡◌, ℕ, List, length, Option, Some, None}
use Rattle.sg_names.specs.declared.rev_id.RevId.{RevId}
use Rattle.sg_history.specs.declared.book.Waiting.{Waiting}
use Rattle.sg_history.specs.declared.entries.Entry.{Entry}
use Rattle.sg_history.specs.declared.entries.Write.{Write}
use Rattle.sg_history.specs.Book.{book_of, book_with, write_of_rev_up_to}
use Rattle.sg_history.specs.Current.{write_alone}
use Rattle.sg_history.specs.History.{as_write}
use Rattle.doc_board.specs.State.{top_of}

-- the write that an entry is, where there is an entry and it is one
abbrev pub entry_write : Option Entry → Option Write
entry_write None = None
entry_write (Some e) = as_write e

-- the write of a revision of a document in the book of a log and of entries that wait
abbrev pub written_rev : List Entry → List Waiting → List ℕ → RevId → Option Write
written_rev log waiting doc rev = write_alone (write_of_rev_up_to (book_with log waiting) (top_of log waiting) doc rev)

-- the write that was found among those that wait is that of the revision; where none was found, the revision's is that of the log
abbrev pub IsFound : List Entry → List Waiting → List ℕ → RevId → Option Write → Type 0
IsFound log waiting doc rev None =
    written_rev log waiting doc rev ≡ write_alone (write_of_rev_up_to (book_of log) (length log) doc rev)
IsFound log waiting doc rev (Some w) = written_rev log waiting doc rev ≡ Some w
