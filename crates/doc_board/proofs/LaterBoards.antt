-- what a board says of a document, later books say up to the same number
use Rattle.std.proofs.Common.{◌≡◌, ◌≤◌, ◌∙◌, ℕ, zero, suc, Bool, true, false, List, length, reverse, refl, ap, sym, subst, arith, Option, Some, None, nat_eq}
use Rattle.std.proofs.lemmas.Bool.{eqb-true, eqb-false}
use Rattle.std.proofs.Math.Seq.{take-length}
use Rattle.std.proofs.lemmas.Option.{none-some, same_Some}
use Rattle.sg_history.specs.declared.entries.Entry.{Entry}
use Rattle.sg_history.specs.declared.entries.Write.{Write}
use Rattle.sg_history.specs.Board.{BoardState, board_book}
use Rattle.sg_history.specs.Book.{Book, Later, IsLastWrite, book_of, waiting_at, entry_or, write_at, written_in, writes_up_to, first_write, last_write_up_to}
use Rattle.sg_history.specs.History.{past}
use Rattle.sg_history.specs.Current.{Sequenced, sequenced_before, last_write}
use Rattle.sg_names.specs.declared.rev_id.RevId.{RevId}
use Rattle.rev_tree.specs.Documents.{sequence_of, tree_in, last_at, base_in, rev_written_in}
use Rattle.rev_tree.specs.Extension.{first_of}
use Rattle.doc_board.specs.Boards.{board_top, board_last, board_tree}
use Rattle.doc_board.specs.Judging.{board_base}
use Rattle.doc_board.specs.State.{highest}
use Rattle.doc_board.proofs.Tops.{none_waits, within}

-- ---- the last write up to a number

-- the first of the writes up to a number stands there, and none up to that number stands above it
record IsFirstWrite (book : Book) (number : ℕ) (doc : List ℕ) (last : Sequenced) : Type 0 where
  positive : 1 ≤ last.seq
  there : write_at book doc last.seq ≡ Some last.write
  above : (n : ℕ) (w : Write) → n ≤ number → write_at book doc n ≡ Some w → n ≤ last.seq

not_last : (n number : ℕ) → n ≤ suc number → (n ≡ suc number → ⊥) → n ≤ number
not_last n number low h = omega arith

above_more : (book : Book) (number : ℕ) (doc : List ℕ) (last : Sequenced) → IsFirstWrite book number doc last → None ≡ write_at book doc (suc number) → (n : ℕ) (w : Write) → n ≤ suc number → write_at book doc n ≡ Some w → n ≤ last.seq
above_more book number doc last older none n w low is = go (nat_eq n (suc number)) refl
  where
    go : (b : Bool) → nat_eq n (suc number) ≡ b → n ≤ last.seq
    go true e = absurd (none-some w (none ∙ ap (λ (k : ℕ). write_at book doc k) (sym (eqb-true n (suc number) e)) ∙ is))
    go false e = older.above n w (not_last n number low (eqb-false n (suc number) e)) is

first_case : (book : Book) (number : ℕ) (doc : List ℕ) (last : Sequenced) (found : Option Write) → found ≡ write_at book doc (suc number) → (first_write (writes_up_to book number doc) ≡ Some last → IsFirstWrite book number doc last) → first_write (sequenced_before found (suc number) (writes_up_to book number doc)) ≡ Some last → IsFirstWrite book (suc number) doc last
first_case book number doc last None is before h =
    let older = before h in record { positive = older.positive; there = older.there; above = above_more book number doc last older is }
first_case book number doc last (Some w) is before h =
    let same = same_Some _ last h in
    subst (λ (l : Sequenced). IsFirstWrite book (suc number) doc l) same
    (record { positive = omega arith; there = sym is; above = λ n v low at. low })

first_is : (book : Book) (number : ℕ) (doc : List ℕ) (last : Sequenced) → first_write (writes_up_to book number doc) ≡ Some last → IsFirstWrite book number doc last
first_is book zero doc last h = absurd (none-some last h)
first_is book (suc number) doc last h =
    first_case book number doc last (write_at book doc (suc number)) refl (λ e. first_is book number doc last e) h

-- ---- no entry stands above the top

none_above_top : (board : BoardState) (number : ℕ) (e : Entry) → board_book board number ≡ Some e → number ≤ board_top board
none_above_top board number e h = go (book_of board.log number) refl h
  where
    go : (o : Option Entry) → book_of board.log number ≡ o → entry_or o (waiting_at board.pending number) ≡ Some e → number ≤ board_top board
    go None is g = let low : number ≤ highest board.pending = none_waits board.pending number e g in omega arith
    go (Some x) is g = let low : number ≤ length board.log = within board.log number x is in omega arith

pub no_write_above : (board : BoardState) (doc : List ℕ) (number : ℕ) (w : Write) → write_at (board_book board) doc number ≡ Some w → number ≤ board_top board
no_write_above board doc number w h = go (board_book board number) refl h
  where
    go : (o : Option Entry) → board_book board number ≡ o → written_in o doc ≡ Some w → number ≤ board_top board
    go None is g = absurd (none-some w g)
    go (Some e) is g = none_above_top board number e is

pub last_is : (board : BoardState) (doc : List ℕ) (last : Sequenced) → first_write (writes_up_to (board_book board) (board_top board) doc) ≡ Some last → IsLastWrite (board_book board) doc last
last_is board doc last h =
    let first = first_is (board_book board) (board_top board) doc last h in
    record {
      number = first.positive;
      there = first.there;
      none_above = λ number w is. first.above number w (no_write_above board doc number w is) is;
    }

-- ---- later books

abbrev pub SameTrees : Type 0
SameTrees = (earlier later : Book) (doc : List ℕ) (last : Sequenced) (number : ℕ) → Later earlier later → IsLastWrite earlier doc last → number ≤ last.seq → tree_in later number doc ≡ tree_in earlier number doc

pub later_tree : SameTrees → (board : BoardState) (later : Book) (doc : List ℕ) → Later (board_book board) later → tree_in later (board_last board doc) doc ≡ board_tree board doc
later_tree same board later doc on = go (first_write (writes_up_to (board_book board) (board_top board) doc)) refl
  where
    same_at : (number : ℕ) → board_last board doc ≡ number → tree_in later number doc ≡ tree_in (board_book board) number doc → tree_in later (board_last board doc) doc ≡ tree_in (board_book board) (board_last board doc) doc
    same_at number is h = subst (λ (n : ℕ). tree_in later n doc ≡ tree_in (board_book board) n doc) (sym is) h

    go : (o : Option Sequenced) → first_write (writes_up_to (board_book board) (board_top board) doc) ≡ o → tree_in later (board_last board doc) doc ≡ tree_in (board_book board) (board_last board doc) doc
    go None is = same_at 0 (ap (λ (o : Option Sequenced). sequence_of o) is) refl
    go (Some last) is = same_at last.seq (ap (λ (o : Option Sequenced). sequence_of o) is) (same (board_book board) later doc last last.seq on (last_is board doc last is) (omega arith))

abbrev pub SameBases : Type 0
SameBases = (earlier later : Book) (doc : List ℕ) (last : Sequenced) (ancestors : List RevId) → Later earlier later → IsLastWrite earlier doc last → base_in later last.seq doc ancestors ≡ base_in earlier last.seq doc ancestors

none_written : (a b : Book) (doc : List ℕ) (o : Option RevId) → rev_written_in a 0 doc o ≡ rev_written_in b 0 doc o
none_written a b doc None = refl
none_written a b doc (Some rev) = refl

pub later_base : SameBases → (board : BoardState) (later : Book) (doc : List ℕ) (ancestors : List RevId) → Later (board_book board) later → base_in later (board_last board doc) doc ancestors ≡ board_base board doc ancestors
later_base same board later doc ancestors on = go (first_write (writes_up_to (board_book board) (board_top board) doc)) refl
  where
    same_at : (number : ℕ) → board_last board doc ≡ number → base_in later number doc ancestors ≡ base_in (board_book board) number doc ancestors → base_in later (board_last board doc) doc ancestors ≡ base_in (board_book board) (board_last board doc) doc ancestors
    same_at number is h = subst (λ (n : ℕ). base_in later n doc ancestors ≡ base_in (board_book board) n doc ancestors) (sym is) h

    go : (o : Option Sequenced) → first_write (writes_up_to (board_book board) (board_top board) doc) ≡ o → base_in later (board_last board doc) doc ancestors ≡ base_in (board_book board) (board_last board doc) doc ancestors
    go None is = same_at 0 (ap (λ (o : Option Sequenced). sequence_of o) is) (none_written later (board_book board) doc (first_of ancestors))
    go (Some last) is = same_at last.seq (ap (λ (o : Option Sequenced). sequence_of o) is) (same (board_book board) later doc last ancestors on (last_is board doc last is))

-- ---- the last write of the log

-- a write that stands up to a number is among those up to it
pub none_of_some : (book : Book) (number : ℕ) (doc : List ℕ) (other : ℕ) (w : Write) → 1 ≤ other → other ≤ number → write_at book doc other ≡ Some w → first_write (writes_up_to book number doc) ≡ None → ⊥
none_of_some book zero doc other w first low at none = omega (arith, first, low)
none_of_some book (suc number) doc other w first low at none = go (λ lower none. none_of_some book number doc other w first lower at none) (write_at book doc (suc number)) refl none
  where
    go : (other ≤ number → first_write (writes_up_to book number doc) ≡ None → ⊥) → (o : Option Write) → write_at book doc (suc number) ≡ o → first_write (sequenced_before o (suc number) (writes_up_to book number doc)) ≡ None → ⊥
    go rest (Some v) is found = none-some _ (sym found)
    go rest None is found =
        let apart : other ≡ suc number → ⊥ = λ e. none-some w (sym is ∙ ap (λ (k : ℕ). write_at book doc k) (sym e) ∙ at) in
        rest (not_last other number low apart) found

-- what stands in the log stands in the board's book
in_board : (board : BoardState) (doc : List ℕ) (number : ℕ) (w : Write) → write_at (book_of board.log) doc number ≡ Some w → write_at (board_book board) doc number ≡ Some w
in_board board doc number w at = go (book_of board.log number) at
  where
    go : (o : Option Entry) → written_in o doc ≡ Some w → written_in (entry_or o (waiting_at board.pending number)) doc ≡ Some w
    go None h = absurd (none-some w h)
    go (Some e) h = h

no_later_write : (board : BoardState) (doc : List ℕ) (number : ℕ) (w : Write) → 1 ≤ number → write_at (board_book board) doc number ≡ Some w → number ≤ board_last board doc
no_later_write board doc number w first at = go (first_write (writes_up_to (board_book board) (board_top board) doc)) refl
  where
    go : (o : Option Sequenced) → first_write (writes_up_to (board_book board) (board_top board) doc) ≡ o → number ≤ sequence_of o
    go None is = absurd (none_of_some (board_book board) (board_top board) doc number w first (no_write_above board doc number w at) at is)
    go (Some last) is = (first_is (board_book board) (board_top board) doc last is).above number w (no_write_above board doc number w at) at

-- what the law of books says
abbrev pub SameLast : Type 0
SameLast = (h : List Entry) (number : ℕ) (doc : List ℕ) → last_write_up_to (book_of h) number doc ≡ last_write (past h number) doc

pub least_of_log : SameLast → (board : BoardState) (doc : List ℕ) → last_at (reverse board.log) doc ≤ board_last board doc
least_of_log same board doc =
    let log : List Entry = board.log in
    let whole : last_write_up_to (book_of log) (length log) doc ≡ last_write (reverse log) doc =
    same log (length log) doc ∙ ap (λ (es : List Entry). last_write (reverse es) doc) (take-length log) in
    let P : Option Sequenced → Type 0 = λ o. sequence_of o ≤ board_last board doc in
    subst P whole (go (last_write_up_to (book_of log) (length log) doc) refl)
  where
    go : (o : Option Sequenced) → last_write_up_to (book_of board.log) (length board.log) doc ≡ o → sequence_of o ≤ board_last board doc
    go None is = omega arith
    go (Some last) is =
        let first = first_is (book_of board.log) (length board.log) doc last is in
        no_later_write board doc last.seq last.write first.positive (in_board board doc last.seq last.write first.there)
