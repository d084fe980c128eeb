-- a board with one write more comes after the board before it
use Rattle.std.proofs.Common.{◌≡◌, ◌≤◌, ◌+◌, ◌-◌, ◌*◌, ℕ, zero, suc, List, [], ◌∷◌, ◌++◌, length, Some, refl, sym, ap, ◌∙◌, subst, arith}
use Rattle.std.proofs.lemmas.List.{length-append}
use Rattle.sg_history.specs.declared.book.Waiting.{Waiting}
use Rattle.sg_history.specs.declared.entries.Entry.{Entry}
use Rattle.sg_history.specs.declared.room.RoomFor.{RoomFor}
use Rattle.sg_history.specs.Board.{SideEntry, SideFollows, After, board_book, board_count, side_at}
use Rattle.sg_history.specs.Book.{Book, Later, book_of}
use Rattle.sg_history.specs.History.{Extends, as_write}
use Rattle.doc_board.specs.Boards.{board_of, bytes_stored, bytes_waiting, bytes_asked, body_size}
use Rattle.doc_board.specs.State.{State}
use Rattle.write_path.proofs.OneRead.{same_book}

-- a history that extends another has the later book
abbrev pub Extended : Type 0
Extended = (g h : List Entry) → Extends g h → Later (book_of g) (book_of h)

stored_more : (es : List Entry) (e : Entry) → bytes_stored (es ++ e ∷ []) ≡ bytes_stored es + body_size (as_write e)
stored_more [] e = omega arith
stored_more (x ∷ es) e = omega (arith, stored_more es e)

one_longer : (es : List Entry) (e : Entry) → length (es ++ e ∷ []) ≡ length es + 1
one_longer es e = omega (arith, length-append es (e ∷ []))

bounded : (stored asked more later_stored later_asked count later_count : ℕ) → later_stored ≡ stored + more → later_asked ≡ asked → later_count ≡ count + 1 → more ≤ 20971520 → later_stored + later_asked ≤ stored + asked + 20971520 * (later_count - count)
bounded stored asked more later_stored later_asked count later_count a b c d = omega arith

-- the same side map follows
pub same_side : (earlier later : List SideEntry) → later ≡ earlier → SideFollows earlier later
same_side earlier later same =
    λ text old h. (old, ap (λ (side : List SideEntry). side_at side text) same ∙ h, record { number = omega arith; bytes = λ e. refl })

pub after_entry : Extended → (s t : State) (e : Entry) → s.pending ≡ [] → t.pending ≡ s.pending → t.log ≡ s.log ++ e ∷ [] → t.rooms ≡ s.rooms → t.checkpoints ≡ s.checkpoints → body_size (as_write e) ≤ 20971520 → After (board_of s) (board_of t)
after_entry extended s t e alone pending log rooms checkpoints size =
    let waits : length t.pending ≡ length s.pending = ap (λ (ws : List Waiting). length ws) pending in
    let waiting : bytes_waiting t.pending ≡ bytes_waiting s.pending = ap (λ (ws : List Waiting). bytes_waiting ws) pending in
    let more : length t.log ≡ length s.log + 1 = ap (λ (es : List Entry). length es) log ∙ one_longer s.log e in
    let same : length t.rooms ≡ length s.rooms = ap (λ (rs : List RoomFor). length rs) rooms in
    let count : board_count (board_of t) ≡ board_count (board_of s) + 1 = omega arith in
    let stored : bytes_stored t.log ≡ bytes_stored s.log + body_size (as_write e) = ap (λ (es : List Entry). bytes_stored es) log ∙ stored_more s.log e in
    let asked : bytes_asked t.rooms ≡ bytes_asked s.rooms = ap (λ (rs : List RoomFor). bytes_asked rs) rooms in
    let on : Later (book_of s.log) (book_of t.log) = extended s.log t.log (e ∷ [], log) in
    record {
      limit = refl;
      book = subst (λ (book : Book). Later (board_book (board_of s)) book) (sym (same_book t (pending ∙ alone))) (subst (λ (book : Book). Later book (book_of t.log)) (sym (same_book s alone)) on);
      log = (e ∷ [], log);
      count = omega arith;
      bytes = bounded (bytes_stored s.log + bytes_waiting s.pending) (bytes_asked s.rooms) (body_size (as_write e)) (bytes_stored t.log + bytes_waiting t.pending) (bytes_asked t.rooms) (board_count (board_of s)) (board_count (board_of t)) (omega (arith, stored, waiting)) asked count size;
      side = same_side s.checkpoints t.checkpoints checkpoints;
      faults = omega arith;
    }

-- the new entry stands at the number after those before
suc_of : (n : ℕ) → n + 1 ≡ suc n
suc_of n = omega arith

at_place : (es : List Entry) (e : Entry) → book_of (es ++ e ∷ []) (suc (length es)) ≡ Some e
at_place [] e = refl
at_place (x ∷ es) e = at_place es e

pub at_end : (es : List Entry) (e : Entry) → book_of (es ++ e ∷ []) (length es + 1) ≡ Some e
at_end es e = ap (λ (n : ℕ). book_of (es ++ e ∷ []) n) (suc_of (length es)) ∙ at_place es e

-- before it stands what stood there
pub at_before : (es : List Entry) (e : Entry) (number : ℕ) → number ≤ length es → book_of (es ++ e ∷ []) number ≡ book_of es number
at_before es e zero low = refl
at_before [] e (suc number) low = absurd (omega (arith, low))
at_before (x ∷ es) e (suc zero) low = refl
at_before (x ∷ es) e (suc (suc number)) low = at_before es e (suc number) (omega (arith, low))
