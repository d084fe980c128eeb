-- what storing makes of a board's book
use Rattle.std.proofs.Common.{◌≡◌, ◌∙◌, ℕ, List, ap}
use Rattle.std.proofs.Math.Path.{fun_ext}
use Rattle.sg_history.specs.declared.book.Waiting.{Waiting}
use Rattle.sg_history.specs.declared.entries.Entry.{Entry}
use Rattle.sg_history.specs.Book.{book_with}
use Rattle.sg_history.specs.World.{put_waiting}
use Rattle.pending_front.specs.Storing.{MayStore}
use Rattle.doc_board.specs.Steps.{with_entry}
use Rattle.doc_board.proofs.Steps.{StoredBook}

-- one entry is put, and those that come next are moved
pub one_put : StoredBook → (log new_log : List Entry) (waiting put new : List Waiting) (n : ℕ) (e : Entry) → MayStore log waiting n → put ≡ put_waiting (record { number = n; entry = e }) waiting
    → book_with new_log new ≡ book_with log put → book_with new_log new ≡ with_entry n e (book_with log waiting)
one_put stored log new_log waiting put new n e may is same =
    same ∙ fun_ext (λ other. ap (λ (ws : List Waiting). book_with log ws other) is ∙ stored log waiting n e other may)
