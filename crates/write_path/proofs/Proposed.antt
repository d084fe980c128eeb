-- what a proposal at a ground with one owner leaves
use Rattle.std.proofs.Common.{◌≡◌, ◌≤◌, ◌<◌, ◌+◌, ℕ, Bool, None, List, [], ◌∷◌, ◌++◌, length, Option, Some, refl, sym, ap, ◌∙◌, subst, arith, inl, inr}
use Rattle.std.proofs.lemmas.List.{length-append}
use Rattle.sg_history.specs.declared.book.Waiting.{Waiting}
use Rattle.sg_history.specs.declared.entries.Entry.{Entry}
use Rattle.sg_history.specs.declared.entries.Entry.TheVariants as entry
use Rattle.sg_history.specs.Board.{BoardState, After, IsAfterAll}
use Rattle.sg_history.specs.Board.{board_book}
use Rattle.sg_history.specs.Book.{Book, book_of, write_at, written_in}
use Rattle.sg_history.specs.declared.entries.Write.{Write}
use Rattle.repl_messages.specs.declared.revision.Revision.{Revision}
use Rattle.sync_syntax.specs.declared.tree.Program.{Program}
use Rattle.doc_board.specs.declared.outcome.Outcome.{Outcome}
use Rattle.doc_board.specs.declared.outcome.Outcome.TheVariants as outcome
use Rattle.doc_board.specs.Boards.{board_of, board_last}
use Rattle.doc_board.specs.JudgedWrites.{IsJudgedWrite, IsNextWrite}
use Rattle.doc_board.specs.Outcomes.{IsOutcome, IsByLimits, IsWriteOf, bytes_of}
use Rattle.doc_board.specs.State.{State, last_on}
use Rattle.write_path.specs.Proposals.{IsAnswered, IsRoomed, IsProposed, Stores, recorded_after}
use Rattle.board_steps.specs.After.{IsAsBefore, IsBoardAfter}
use Rattle.write_path.specs.Reads.{Reads, WasRead}
use Rattle.write_path.specs.Own.{own_before, own_after}
use Rattle.write_path.proofs.Grown.{Extended, after_entry, at_before, at_end}
use Rattle.board_steps.proofs.SameBoards.{same_board, small_body}
use Rattle.write_path.proofs.OneRead.{same_book}

abbrev pub Again : Type 0
Again = (a b c : BoardState) → After a b → After b c → After a c

abbrev pub Itself : Type 0
Itself = (b : BoardState) → After b b

-- ---- the board after an answer

pub same_after : Itself → (s t : State) → IsAsBefore s t → After (board_of s) (board_of t)
same_after itself s t e = subst (λ (b : BoardState). After (board_of s) b) (sym (same_board s t e)) (itself (board_of s))

pub after_answer : Extended → Itself → (s t : State) (program : Program) (strict : Bool) (by : Option (List ℕ)) (r : Revision) (answer : Outcome) → s.pending ≡ [] → IsOutcome program strict by r (board_of s) answer → IsBoardAfter s t program by r answer → After (board_of s) (board_of t)
after_answer extended itself s t program strict by r (outcome.Bad400 field) alone is left = same_after itself s t left
after_answer extended itself s t program strict by r (outcome.TooLarge413 bytes) alone is left = same_after itself s t left
after_answer extended itself s t program strict by r (outcome.UserGone401 at) alone is left = same_after itself s t left
after_answer extended itself s t program strict by r (outcome.Known at) alone is left = same_after itself s t left
after_answer extended itself s t program strict by r (outcome.BadHistory400 at) alone is left = same_after itself s t left
after_answer extended itself s t program strict by r (outcome.Conflict409 at leaf) alone is left = same_after itself s t left
after_answer extended itself s t program strict by r (outcome.Denied403 at rule) alone is left = same_after itself s t left
after_answer extended itself s t program strict by r (outcome.Stored sequence at) alone is left =
    after_entry extended s t (entry.Write left.write) alone left.pending left.log left.rooms left.checkpoints (subst (λ (body : List ℕ). length body ≤ 20971520) (sym left.is_write.body) (small_body r.body is.0.formed.size))
after_answer extended itself s t program strict by r (outcome.Full503 at places) alone is left = same_after itself s t left
after_answer extended itself s t program strict by r (outcome.LogFull509 at entries bytes) alone is left = same_after itself s t left
after_answer extended itself s t program strict by r outcome.Memory507 alone is left = same_after itself s t left

pub no_rooms : (s t : State) (program : Program) (by : Option (List ℕ)) (r : Revision) (answer : Outcome) → s.rooms ≡ [] → IsBoardAfter s t program by r answer → t.rooms ≡ []
no_rooms s t program by r (outcome.Bad400 field) none left = left.rooms ∙ none
no_rooms s t program by r (outcome.TooLarge413 bytes) none left = left.rooms ∙ none
no_rooms s t program by r (outcome.UserGone401 at) none left = left.rooms ∙ none
no_rooms s t program by r (outcome.Known at) none left = left.rooms ∙ none
no_rooms s t program by r (outcome.BadHistory400 at) none left = left.rooms ∙ none
no_rooms s t program by r (outcome.Conflict409 at leaf) none left = left.rooms ∙ none
no_rooms s t program by r (outcome.Denied403 at rule) none left = left.rooms ∙ none
no_rooms s t program by r (outcome.Stored sequence at) none left = left.rooms ∙ none
no_rooms s t program by r (outcome.Full503 at places) none left = left.rooms ∙ none
no_rooms s t program by r (outcome.LogFull509 at entries bytes) none left = left.rooms ∙ none
no_rooms s t program by r outcome.Memory507 none left = left.rooms ∙ none

pub none_waits : (s t : State) (program : Program) (by : Option (List ℕ)) (r : Revision) (answer : Outcome) → s.pending ≡ [] → IsBoardAfter s t program by r answer → t.pending ≡ []
none_waits s t program by r (outcome.Bad400 field) none left = left.pending ∙ none
none_waits s t program by r (outcome.TooLarge413 bytes) none left = left.pending ∙ none
none_waits s t program by r (outcome.UserGone401 at) none left = left.pending ∙ none
none_waits s t program by r (outcome.Known at) none left = left.pending ∙ none
none_waits s t program by r (outcome.BadHistory400 at) none left = left.pending ∙ none
none_waits s t program by r (outcome.Conflict409 at leaf) none left = left.pending ∙ none
none_waits s t program by r (outcome.Denied403 at rule) none left = left.pending ∙ none
none_waits s t program by r (outcome.Stored sequence at) none left = left.pending ∙ none
none_waits s t program by r (outcome.Full503 at places) none left = left.pending ∙ none
none_waits s t program by r (outcome.LogFull509 at entries bytes) none left = left.pending ∙ none
none_waits s t program by r outcome.Memory507 none left = left.pending ∙ none

pub same_length : (s t : State) → IsAsBefore s t → Some (length t.log) ≡ Some (length s.log)
same_length s t e = ap (λ (es : List Entry). Some (length es)) e.log

pub recorded_then : (s t : State) (program : Program) (by : Option (List ℕ)) (r : Revision) (answer : Outcome) → IsBoardAfter s t program by r answer → Some (length t.log) ≡ recorded_after (Some (length s.log)) answer
recorded_then s t program by r (outcome.Bad400 field) left = same_length s t left
recorded_then s t program by r (outcome.TooLarge413 bytes) left = same_length s t left
recorded_then s t program by r (outcome.UserGone401 at) left = same_length s t left
recorded_then s t program by r (outcome.Known at) left = same_length s t left
recorded_then s t program by r (outcome.BadHistory400 at) left = same_length s t left
recorded_then s t program by r (outcome.Conflict409 at leaf) left = same_length s t left
recorded_then s t program by r (outcome.Denied403 at rule) left = same_length s t left
recorded_then s t program by r (outcome.Stored sequence at) left =
    ap (λ (es : List Entry). Some (length es)) left.log ∙ ap (λ (n : ℕ). Some n) (length-append s.log (entry.Write left.write ∷ []))
recorded_then s t program by r (outcome.Full503 at places) left = same_length s t left
recorded_then s t program by r (outcome.LogFull509 at entries bytes) left = same_length s t left
recorded_then s t program by r outcome.Memory507 left = same_length s t left

-- ---- two reads, of which the second is of a board that comes after the first

pub all_after : Again → (before : List BoardState) (b c : BoardState) → IsAfterAll before b → After b c → IsAfterAll before c
all_after again [] b c all on = tt
all_after again (x ∷ before) b c all on = (again x b c all.0 on, all_after again before b c all.1 on)

pub no_shorter : (b c : BoardState) → After b c → length b.log ≤ length c.log
no_shorter b c on = omega (arith, ap (λ (es : List Entry). length es) on.log.1, length-append b.log on.log.0)

pub two_reads : Again → (before after : List BoardState) (b c : BoardState) → after ≡ c ∷ b ∷ before → IsAfterAll before b → After b c → Reads before after (length b.log) (length c.log)
two_reads again before after b c read all on = record {
  added = c ∷ b ∷ [];
  read = read;
  later = ((on, all_after again before b c all on), (all, tt));
  lengths = (no_shorter b c on, omega arith, (omega arith, no_shorter b c on, tt));
  rises = no_shorter b c on;
}

pub first_read : (before after : List BoardState) (b c : BoardState) → after ≡ c ∷ b ∷ before → WasRead before after b
first_read before after b c read = record { added = c ∷ b ∷ []; read = read; one = inr (inl refl) }

pub second_read : (before after : List BoardState) (b c : BoardState) → after ≡ c ∷ b ∷ before → WasRead before after c
second_read before after b c read = record { added = c ∷ b ∷ []; read = read; one = inl refl }

-- ---- the write that is stored is a judged one

-- what the laws of boards say of it
pub record Judges : Type 0 where
  pub next : (program : Program) (by : Option (List ℕ)) (r : Revision) (judged : BoardState) (book : Book) (sequence : ℕ) (w : Write) → IsWriteOf program by r judged w → IsNextWrite judged book sequence w → IsJudgedWrite program book sequence w
  pub last : (board : BoardState) (doc : List ℕ) (number : ℕ) → board_last board doc < number → write_at (board_book board) doc number ≡ None
  pub same : (s : State) (doc : List ℕ) → board_last (board_of s) doc ≡ last_on s doc
  pub above : (s : State) (doc : List ℕ) → s.pending ≡ [] → last_on s doc < length s.log + 1

next_write : Judges → (s t : State) (w : Write) (sequence : ℕ) → s.pending ≡ [] → t.pending ≡ [] → After (board_of s) (board_of t) → sequence ≡ length s.log + 1 → t.log ≡ s.log ++ entry.Write w ∷ []
    → board_book (board_of t) sequence ≡ Some (entry.Write w) → IsNextWrite (board_of s) (board_book (board_of t)) sequence w
next_write judges s t w sequence alone still on next log there = record {
  later = on.book;
  there = there;
  front = omega (arith, next);
  above = omega (arith, next, judges.same s w.doc, judges.above s w.doc alone);
  between = λ number more less.
      ap (λ (o : Option Entry). written_in o w.doc) (before number (omega (arith, next, less))) ∙ judges.last (board_of s) w.doc number more;
}
  where
    before : (number : ℕ) → number ≤ length s.log → board_book (board_of t) number ≡ board_book (board_of s) number
    before number low =
        ap (λ (book : Book). book number) (same_book t still) ∙ ap (λ (es : List Entry). book_of es number) log
        ∙ at_before s.log (entry.Write w) number low ∙ sym (ap (λ (book : Book). book number) (same_book s alone))

-- ---- what is answered

abbrev answered : (before after : List BoardState) (s t : State) (program : Program) (strict : Bool) (by : Option (List ℕ)) (r : Revision) (answer : Outcome) → after ≡ board_of t ∷ board_of s ∷ before → IsOutcome program strict by r (board_of s) answer → IsAnswered before after (Some (length s.log)) program strict by r answer
answered before after s t program strict by r answer read is =
    record { board = board_of s; was_read = first_read before after (board_of s) (board_of t) read; has_length = refl; outcome = is }

abbrev pub roomed : (before after : List BoardState) (s t : State) (bytes : ℕ) (answer : Outcome) → after ≡ board_of t ∷ board_of s ∷ before → IsByLimits bytes (board_of s) answer → IsRoomed before after (Some (length s.log)) bytes answer
roomed before after s t bytes answer read limits =
    record { board = board_of s; was_read = first_read before after (board_of s) (board_of t) read; has_length = refl; limits = limits }

-- the second board that was read, where it is as the first
second_alike : (before after : List BoardState) (s t : State) → after ≡ board_of t ∷ board_of s ∷ before → IsAsBefore s t → WasRead (board_of s ∷ before) after (board_of s)
second_alike before after s t read left = record { added = board_of t ∷ []; read = read; one = inl (same_board s t left) }

pub at_sequence : (s t : State) (e : Entry) (sequence : ℕ) → t.log ≡ s.log ++ e ∷ [] → sequence ≡ length s.log + 1 → book_of t.log sequence ≡ Some e
at_sequence s t e sequence log next =
    ap (λ (n : ℕ). book_of t.log n) next ∙ ap (λ (es : List Entry). book_of es (length s.log + 1)) log ∙ at_end s.log e

proposed : Judges → Extended → Itself → (before after : List BoardState) (own : List Waiting) (s t : State) (program : Program) (strict : Bool) (by : Option (List ℕ)) (r : Revision) (answer : Outcome) → s.pending ≡ [] → after ≡ board_of t ∷ board_of s ∷ before → IsOutcome program strict by r (board_of s) answer → IsByLimits (bytes_of r) (board_of s) answer → IsBoardAfter s t program by r answer → IsProposed before after own (own_after own t.log answer) (Some (length s.log)) program strict by r answer
proposed judges extended itself before after own s t program strict by r (outcome.Bad400 field) alone read is limits left = (refl, is)
proposed judges extended itself before after own s t program strict by r (outcome.TooLarge413 bytes) alone read is limits left = (refl, is)
proposed judges extended itself before after own s t program strict by r (outcome.UserGone401 at) alone read is limits left =
    (refl, answered before after s t program strict by r (outcome.UserGone401 at) read is)
proposed judges extended itself before after own s t program strict by r (outcome.Known at) alone read is limits left =
    (refl, answered before after s t program strict by r (outcome.Known at) read is)
proposed judges extended itself before after own s t program strict by r (outcome.BadHistory400 at) alone read is limits left =
    (refl, answered before after s t program strict by r (outcome.BadHistory400 at) read is)
proposed judges extended itself before after own s t program strict by r (outcome.Conflict409 at leaf) alone read is limits left =
    (refl, answered before after s t program strict by r (outcome.Conflict409 at leaf) read is)
proposed judges extended itself before after own s t program strict by r (outcome.Denied403 at rule) alone read is limits left =
    (refl, answered before after s t program strict by r (outcome.Denied403 at rule) read is)
proposed judges extended itself before after own s t program strict by r (outcome.Stored sequence at) alone read is limits left =
    let there : book_of t.log sequence ≡ Some (entry.Write left.write) = at_sequence s t (entry.Write left.write) sequence left.log left.next in
    let stands : board_book (board_of t) sequence ≡ Some (entry.Write left.write) = ap (λ (book : Book). book sequence) (same_book t (left.pending ∙ alone)) ∙ there in
    let on : After (board_of s) (board_of t) = after_answer extended itself s t program strict by r (outcome.Stored sequence at) alone is left in
    record {
      judged = board_of s;
      was_judged = first_read before after (board_of s) (board_of t) read;
      has_length = refl;
      outcome = is;
      write = left.write;
      is_write = left.is_write;
      own = ap (λ (o : Option Entry). own_before o sequence own) there;
      holding = board_of t;
      was_read = second_read before after (board_of s) (board_of t) read;
      there = stands;
      judged_write = judges.next program by r (board_of s) (board_book (board_of t)) sequence left.write left.is_write
          (next_write judges s t left.write sequence alone (left.pending ∙ alone) on left.next left.log stands);
      room = roomed before after s t (bytes_of r) (outcome.Stored sequence at) read limits;
    }
proposed judges extended itself before after own s t program strict by r (outcome.Full503 at places) alone read is limits left =
    record { own = refl; judged = answered before after s t program strict by r (outcome.Full503 at places) read is; room = roomed before after s t (bytes_of r) (outcome.Full503 at places) read limits; middle = board_of s ∷ before; judged_first = record { added = board_of s ∷ []; read = refl; one = inl refl }; room_after = second_alike before after s t read left }
proposed judges extended itself before after own s t program strict by r (outcome.LogFull509 at entries bytes) alone read is limits left =
    record { own = refl; judged = answered before after s t program strict by r (outcome.LogFull509 at entries bytes) read is; room = roomed before after s t (bytes_of r) (outcome.LogFull509 at entries bytes) read limits; middle = board_of s ∷ before; judged_first = record { added = board_of s ∷ []; read = refl; one = inl refl }; room_after = second_alike before after s t read left }
proposed judges extended itself before after own s t program strict by r outcome.Memory507 alone read is limits left = refl

pub stores : Judges → Extended → Itself → Again → (before after : List BoardState) (own later_own : List Waiting) (s t : State) (program : Program) (strict : Bool) (by : Option (List ℕ)) (r : Revision) (answer : Outcome) → s.pending ≡ [] → after ≡ board_of t ∷ board_of s ∷ before → later_own ≡ own_after own t.log answer → IsAfterAll before (board_of s) → IsOutcome program strict by r (board_of s) answer → IsByLimits (bytes_of r) (board_of s) answer → IsBoardAfter s t program by r answer → Stores before after (length s.log) (length t.log) own later_own (Some (length s.log)) program strict by r answer
stores judges extended itself again before after own later_own s t program strict by r answer alone read owns all is limits left = record {
  reads = two_reads again before after (board_of s) (board_of t) read all (after_answer extended itself s t program strict by r answer alone is left);
  proposed = subst (λ (o : List Waiting). IsProposed before after own o (Some (length s.log)) program strict by r answer) (sym owns) (proposed judges extended itself before after own s t program strict by r answer alone read is limits left);
}
