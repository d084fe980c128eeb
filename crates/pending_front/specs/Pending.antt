-- Entries that wait for their places in a log, with the places that were reserved for more.
use Rattle.std.specs.Prelude.{◌≡◌, ◌≤◌, ℕ, List, length, None}
use Rattle.sg_history.specs.declared.book.Waiting.{Waiting}
use Rattle.sg_history.specs.declared.entries.Entry.{Entry}
use Rattle.sg_history.specs.Book.{waiting_at}

-- entries that wait, by rising numbers, with how many more fit without memory
pub record Reserved : Type 0 where
  pub waiting : List Waiting
  pub spare : ℕ

-- no entry waits under a number that is a place of the log
abbrev pub AreBeyond : List Entry → List Waiting → Type 0
AreBeyond log waiting = (place : ℕ) → 1 ≤ place → place ≤ length log → waiting_at waiting place ≡ None
