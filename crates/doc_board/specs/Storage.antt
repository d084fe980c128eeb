-- What the storage of a board is. Only proofs need this.
use Rattle.std.specs.Prelude.{◌≢◌, ℕ, List, [], ◌∷◌, ◌++◌, Option, Some, None, IfSome, nat_eq}
use Rattle.std.specs.HashMap.{get, spare}
use Rattle.sg_history.specs.Book.{Book, book_with, writes_up_to}
use Rattle.sg_history.specs.Current.{Sequenced}
use Rattle.sg_history.specs.declared.book.Waiting.{Waiting}
use Rattle.sg_history.specs.declared.entries.Entry.{Entry}
use Rattle.sg_history.specs.declared.entries.Entry.TheVariants.{Unused}
use Rattle.sg_history.specs.declared.room.RoomFor.{RoomFor}
use Rattle.sg_history.specs.World.{Released, release, put_waiting}
use Rattle.pending_front.specs.Storing.{MayStore}
use Rattle.doc_board.specs.declared.storage.Storage.{Storage}
use Rattle.doc_board.specs.Kept.{IsBoard, IsStanding}
use Rattle.doc_board.specs.State.{State, top_of}
use Rattle.doc_board.specs.Steps.{with_entry}

-- a storage has so many places beside two for each room that is outstanding
abbrev pub StandsWith : Storage → ℕ → Type 0
StandsWith s more = IsStanding s.log.entries s.pending s.documents (get nat_eq s.bases) (spare s.bases) s.rooms s.stored more

-- a storage is that of a board: besides, no entry waits next to the log's end
abbrev pub IsOfBoard : Storage → Type 0
IsOfBoard s = IsBoard s.log.entries s.pending s.documents (get nat_eq s.bases) (spare s.bases) s.rooms s.stored

-- a storage is that of a board with one room more
abbrev pub HasPlacesOf : Storage → RoomFor → Type 0
HasPlacesOf s room = IsBoard s.log.entries s.pending s.documents (get nat_eq s.bases) (spare s.bases) (s.rooms ++ room ∷ []) s.stored

-- the book of a storage
abbrev pub book_in : Storage → Book
book_in s = book_with s.log.entries.list s.pending.waiting

-- the greatest number at which a storage has an entry
abbrev pub top_in : Storage → ℕ
top_in s = top_of s.log.entries.list s.pending.waiting

-- the writes of a document in a storage, the last one first
abbrev pub writes_in : Storage → List ℕ → List Sequenced
writes_in s doc = writes_up_to (book_in s) (top_in s) doc

-- these once a number is given up, where there is one: it waits there that it is not used
abbrev pub waiting_with_unused : Option ℕ → List Waiting → List Waiting
waiting_with_unused None waiting = waiting
waiting_with_unused (Some spent) waiting = put_waiting (record { number = spent; entry = Unused }) waiting

-- a book with that number given up
abbrev pub book_with_unused : Option ℕ → Book → Book
book_with_unused None book = book
book_with_unused (Some spent) book = with_entry spent Unused book

-- the log of a board and the entries that wait, once a number is given up, where there is one, and an entry is stored at another
abbrev pub kept_at : State → Option ℕ → ℕ → Entry → Released
kept_at s spent number e = release s.log (put_waiting (record { number = number; entry = e }) (waiting_with_unused spent s.pending))

-- a number may be given up where an entry is stored at another one
abbrev pub MayGiveUp : State → Option ℕ → ℕ → Type 0
MayGiveUp s spent number = IfSome spent (λ n. MayStore s.log s.pending n × (n ≢ number))
