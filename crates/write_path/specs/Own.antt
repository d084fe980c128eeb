-- The entries that a ground has stored, and the log that ends with them.
use Rattle.std.specs.Prelude.{◌≡◌, ℕ, List, ◌∷◌, ◌++◌, map, reverse, Option, Some, None}
use Rattle.sg_history.specs.declared.book.Waiting.{Waiting}
use Rattle.sg_history.specs.declared.entries.Entry.{Entry}
use Rattle.sg_history.specs.Book.{book_of}
use Rattle.doc_board.specs.declared.outcome.Outcome.{Outcome}
use Rattle.doc_board.specs.declared.outcome.Outcome.TheVariants as outcome

-- an entry with its number before others, where there is one
abbrev pub own_before : Option Entry → ℕ → List Waiting → List Waiting
own_before None number own = own
own_before (Some e) number own = record { number = number; entry = e } ∷ own

-- the own entries after an answer: where an entry was stored, with the log's entry at its sequence
abbrev pub own_after : List Waiting → List Entry → Outcome → List Waiting
own_after own log (outcome.Stored sequence at) = own_before (book_of log sequence) sequence own
own_after own log other = own

-- own entries, of which the newest stands first, in the order in which they were stored
abbrev pub own_in_order : List Waiting → List Entry
own_in_order own = reverse (map (λ (w : Waiting). w.entry) own)

-- the log ends with these entries
abbrev pub EndsWith : List Entry → List Waiting → Type 0
EndsWith log own = (opened : List Entry) × (log ≡ opened ++ own_in_order own)
