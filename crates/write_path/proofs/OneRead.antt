-- What one read of a board leaves.
use Rattle.std.proofs.Common.{◌≡◌, List, [], ◌∷◌, length, refl, inl, arith, ap, ◌∙◌, subst, Result, Ok, Err, IfOk, Option, Some, None}
use Rattle.std.proofs.Math.Path.{fun_ext}
use Rattle.sg_history.specs.declared.book.Waiting.{Waiting}
use Rattle.sg_history.specs.declared.entries.Entry.{Entry}
use Rattle.sg_history.specs.Board.{BoardState, board_book, IsAfterAll}
use Rattle.sg_history.specs.Book.{Book, Later, book_of, book_with, entry_or}
use Rattle.doc_board.specs.Boards.{board_of}
use Rattle.doc_board.specs.State.{State}
use Rattle.write_path.specs.Reads.{Reads, WasRead, IsLaterThanAll}

-- one board more was read, which comes after all before
pub one_read : (before after : List BoardState) (b : BoardState) → after ≡ b ∷ before → IsAfterAll before b → Reads before after (length b.log) (length b.log)
one_read before after b read later =
    record { added = b ∷ []; read = read; later = (later, tt); lengths = (omega arith, omega arith, tt); rises = omega arith }

-- that board was read
pub was_read : (before after : List BoardState) (b : BoardState) → after ≡ b ∷ before → WasRead before after b
was_read before after b read = record { added = b ∷ []; read = read; one = inl refl }

-- an answer of it is one of a board that was read
pub answers_it : {X E : Type 0} (P : BoardState → X → Type 0) (before after : List BoardState) (b : BoardState) (r : Result X E) → after ≡ b ∷ before → IfOk r (P b) → IfOk r (λ x. (k : BoardState) × WasRead before after k × (length k.log ≡ length b.log) × P k x)
answers_it P before after b (Ok x) read answer = (b, was_read before after b read, refl, answer)
answers_it P before after b (Err e) read answer = tt

-- the book of a log beside which nothing waits is that of its history
nothing_else : (o : Option Entry) → entry_or o None ≡ o
nothing_else None = refl
nothing_else (Some e) = refl

pub same_book : (s : State) → s.pending ≡ [] → board_book (board_of s) ≡ book_of s.log
same_book s alone = ap (λ (ws : List Waiting). book_with s.log ws) alone ∙ fun_ext (λ number. nothing_else (book_of s.log number))

pub history_later : (read : List BoardState) (s : State) → s.pending ≡ [] → IsAfterAll read (board_of s) → IsLaterThanAll read s.log
history_later [] s alone all = tt
history_later (b ∷ others) s alone all =
    (subst (λ (book : Book). Later (board_book b) book) (same_book s alone) all.0.book, history_later others s alone all.1)

-- the same of a board with which a gate was closed
same_closed : (board : BoardState) → board.pending ≡ [] → board_book board ≡ book_of board.log
same_closed board alone = ap (λ (ws : List Waiting). book_with board.log ws) alone ∙ fun_ext (λ number. nothing_else (book_of board.log number))

pub closed_later : (read : List BoardState) (board : BoardState) → board.pending ≡ [] → IsAfterAll read board → IsLaterThanAll read board.log
closed_later [] board alone all = tt
closed_later (b ∷ others) board alone all =
    (subst (λ (book : Book). Later (board_book b) book) (same_closed board alone) all.0.book, closed_later others board alone all.1)
