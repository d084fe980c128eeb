-- Where an entry may be stored.
use Rattle.std.specs.Prelude.{◌≡◌, ◌≤◌, ℕ, List, None}
use Rattle.sg_history.specs.declared.book.Waiting.{Waiting}
use Rattle.sg_history.specs.declared.entries.Entry.{Entry}
use Rattle.sg_history.specs.Book.{book_with}

-- an entry may be stored at a number: it is at least 1, and neither a place of the log nor one under which an entry waits
abbrev pub MayStore : List Entry → List Waiting → ℕ → Type 0
MayStore log waiting number = (1 ≤ number) × (book_with log waiting number ≡ None)
