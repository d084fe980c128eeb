-- a write that was judged by a board is one of a later book, and of each later one
use Rattle.std.proofs.Common.{◌≡◌, ◌≤◌, ◌<◌, ◌+◌, ◌-◌, ◌∙◌, ℕ, zero, suc, Bool, true, false, List, [], ◌∷◌, take, map, reverse, refl, ap, sym, subst, arith, Option, Some, None, Ok, option_map, if◌then◌else◌}
use Rattle.std.proofs.lemmas.Option.{none-some}
use Rattle.sg_names.specs.declared.rev_id.RevId.{RevId}
use Rattle.sg_history.specs.declared.entries.Entry.{Entry}
use Rattle.sg_history.specs.declared.entries.Entry.TheVariants as entry
use Rattle.sg_history.specs.declared.entries.Write.{Write}
use Rattle.sg_history.specs.Board.{BoardState, board_book}
use Rattle.sg_history.specs.Book.{Book, Keeps, Later, book_of, entry_or, waiting_at, write_at, written_in, writes_up_to, first_write, first_of_rev}
use Rattle.sg_history.specs.Current.{Sequenced, sequenced_before, write_alone}
use Rattle.rev_tree.specs.Documents.{base_in, recorded, rev_written_in, sequence_of}
use Rattle.rev_tree.specs.Extension.{first_of, kept_ancestors}
use Rattle.rev_tree.specs.Tree.{knows, winner_of}
use Rattle.rev_tree.specs.Writes.{tree_of}
use Rattle.rev_tree.specs.declared.tree.Node.{Node}
use Rattle.repl_messages.specs.declared.revision.Revision.{Revision}
use Rattle.sync_syntax.specs.declared.tree.Program.{Program}
use Rattle.sync_values.specs.Found.{Found}
use Rattle.sync_meaning.specs.declared.effects.Effects.{Effects}
use Rattle.doc_board.specs.Boards.{board_last, board_top, board_tree}
use Rattle.doc_board.specs.JudgedWrites.{IsJudgedWrite, IsNextWrite}
use Rattle.doc_board.specs.Judging.{IsSaidOf, body_or_empty, board_base}
use Rattle.doc_board.specs.Outcomes.{IsWriteOf, effects_in}
use Rattle.doc_board.proofs.LaterBoards.{last_is, no_write_above, none_of_some}
use Rattle.sg_history.proofs.Books.{write_above}
use Rattle.doc_board.proofs.Puts.{no_more, own_write, same_up_to}

-- ---- writes that later books have too

still_write : (earlier later : Book) (doc : List ℕ) (number : ℕ) (v : Write) → Keeps earlier later → write_at earlier doc number ≡ Some v → write_at later doc number ≡ Some v
still_write earlier later doc number v kept is = go (earlier number) refl is
  where
    go : (o : Option Entry) → earlier number ≡ o → written_in o doc ≡ Some v → write_at later doc number ≡ Some v
    go None at h = absurd (none-some v h)
    go (Some e) at h = ap (λ (o : Option Entry). written_in o doc) (kept number e at) ∙ h

-- up to a write of the document that the earlier book has, a later one has no other of it
same_write : (earlier later : Book) (doc : List ℕ) (top : ℕ) (w : Write) → Later earlier later → write_at earlier doc top ≡ Some w
    → (number : ℕ) → number ≤ top → write_at later doc number ≡ write_at earlier doc number
same_write earlier later doc top w on there number low = go (write_at earlier doc number) refl (write_at later doc number) refl
  where
    go : (old : Option Write) → write_at earlier doc number ≡ old → (new : Option Write) → write_at later doc number ≡ new → write_at later doc number ≡ write_at earlier doc number
    go (Some v) is new found = still_write earlier later doc number v on.kept is ∙ sym is
    go None is None found = found ∙ sym is
    go None is (Some v) found = absurd (omega (arith, low, write_above earlier later on doc top number w v there is found))

pub same_writes : (earlier later : Book) (doc : List ℕ) (top : ℕ) (w : Write) → Later earlier later → write_at earlier doc top ≡ Some w
    → (number : ℕ) → number ≤ top → writes_up_to later number doc ≡ writes_up_to earlier number doc
same_writes earlier later doc top w on there number low =
    same_up_to later earlier doc number (λ m least within. same_write earlier later doc top w on there m (omega (arith, low, within)))

-- the write that is looked for by its revision is the same where the writes are
same_base : (a b : Book) (m n : ℕ) (doc : List ℕ) → writes_up_to a m doc ≡ writes_up_to b n doc → (o : Option RevId) → rev_written_in a m doc o ≡ rev_written_in b n doc o
same_base a b m n doc same None = refl
same_base a b m n doc same (Some rev) = ap (λ (ws : List Sequenced). write_alone (first_of_rev ws rev)) same

abbrev tree_by : List Sequenced → List Node
tree_by ws = tree_of (map (λ written. recorded written.write) ws)

-- ---- what is judged in a book is judged in each later one

its_write : (book : Book) (sequence : ℕ) (w : Write) → book sequence ≡ Some (entry.Write w) → write_at book w.doc sequence ≡ Some w
its_write book sequence w there = ap (λ (o : Option Entry). written_in o w.doc) there ∙ own_write w

pub judged_later : (program : Program) (earlier later : Book) (sequence : ℕ) (w : Write) → Later earlier later → earlier sequence ≡ Some (entry.Write w)
    → IsJudgedWrite program earlier sequence w → IsJudgedWrite program later sequence w
judged_later program earlier later sequence w on there j =
    let same = same_writes earlier later w.doc sequence w on (its_write earlier sequence w there) in
    record {
      at = j.at;
      winner = subst (λ (ws : List Sequenced). option_map (λ l. l.rev) (winner_of (tree_by ws)) ≡ Some w.winner) (sym (same sequence (omega arith))) j.winner;
      log = j.log;
      front = j.front;
      kept = λ number e is. on.kept number e (j.kept number e is);
      accepted = subst (λ (base : Option Write). IsSaidOf program (reverse j.log) base w.by w.doc w.deleted w.body (Ok (effects_in w)))
          (sym (same_base later earlier (sequence - 1) (sequence - 1) w.doc (same (sequence - 1) (omega arith)) (first_of w.ancestors))) j.accepted;
    }

-- ---- no write stands above the last one

pub none_above_last : (board : BoardState) (doc : List ℕ) (number : ℕ) → board_last board doc < number → write_at (board_book board) doc number ≡ None
none_above_last board doc number more =
    go (write_at (board_book board) doc number) refl (first_write (writes_up_to (board_book board) (board_top board) doc)) refl
  where
    go : (o : Option Write) → write_at (board_book board) doc number ≡ o → (last : Option Sequenced) → first_write (writes_up_to (board_book board) (board_top board) doc) ≡ last
        → write_at (board_book board) doc number ≡ None
    go None is last first = is
    go (Some w) is None first = absurd (none_of_some (board_book board) (board_top board) doc number w (omega (arith, more)) (no_write_above board doc number w is) is first)
    go (Some w) is (Some last) first =
        absurd (omega (arith, more, ap (λ (o : Option Sequenced). sequence_of o) first, (last_is board doc last first).none_above number w is))

-- ---- a write above the last one of its document

-- a later book has, up to the number of the document's last write in a board's, the board's writes of it
board_writes : (board : BoardState) (book : Book) (doc : List ℕ) → Later (board_book board) book
    → writes_up_to book (board_last board doc) doc ≡ writes_up_to (board_book board) (board_last board doc) doc
board_writes board book doc on = go (first_write (writes_up_to (board_book board) (board_top board) doc)) refl
  where
    go : (last : Option Sequenced) → first_write (writes_up_to (board_book board) (board_top board) doc) ≡ last
        → writes_up_to book (board_last board doc) doc ≡ writes_up_to (board_book board) (board_last board doc) doc
    go None is =
        subst (λ (n : ℕ). writes_up_to book n doc ≡ writes_up_to (board_book board) n doc) (sym (ap (λ (o : Option Sequenced). sequence_of o) is)) refl
    go (Some last) is =
        subst (λ (n : ℕ). writes_up_to book n doc ≡ writes_up_to (board_book board) n doc) (sym (ap (λ (o : Option Sequenced). sequence_of o) is))
        (same_writes (board_book board) book doc last.seq last.write on (last_is board doc last is).there last.seq (omega arith))

-- the first ancestor is among those that are kept
first_taken : (tree : List Node) (ancestors : List RevId) → first_of (take (kept_ancestors tree ancestors) ancestors) ≡ first_of ancestors
first_taken tree [] = refl
first_taken tree (a ∷ more) = go (knows tree a)
  where
    go : (b : Bool) → first_of (take (if b then 1 else kept_ancestors tree more + 1) (a ∷ more)) ≡ Some a
    go true = refl
    go false = ap (λ (n : ℕ). first_of (take n (a ∷ more))) one_more
      where
        one_more : kept_ancestors tree more + 1 ≡ suc (kept_ancestors tree more)
        one_more = omega arith

module _ (program : Program) (es : List Entry) (said : Found Effects) where
  -- the same is said of the same
  said_of : (base base_new : Option Write) (by by_new : Option (List ℕ)) (doc doc_new : List ℕ) (deleted deleted_new : Bool) (body body_new : List ℕ)
      → base_new ≡ base → by_new ≡ by → doc_new ≡ doc → deleted_new ≡ deleted → body_new ≡ body
      → IsSaidOf program es base by doc deleted body said → IsSaidOf program es base_new by_new doc_new deleted_new body_new said
  said_of base base_new by by_new doc doc_new deleted deleted_new body body_new a b c d e is =
      subst (λ (x : Option Write). IsSaidOf program es x by_new doc_new deleted_new body_new said) (sym a)
      (subst (λ (x : Option (List ℕ)). IsSaidOf program es base x doc_new deleted_new body_new said) (sym b)
      (subst (λ (x : List ℕ). IsSaidOf program es base by x deleted_new body_new said) (sym c)
      (subst (λ (x : Bool). IsSaidOf program es base by doc x body_new said) (sym d)
      (subst (λ (x : List ℕ). IsSaidOf program es base by doc deleted x said) (sym e) is))))

log_kept : (board : BoardState) (book : Book) → Later (board_book board) book → Keeps (book_of board.log) book
log_kept board book on number e is = on.kept number e (ap (λ (o : Option Entry). entry_or o (waiting_at board.pending number)) is)

one_less : (n : ℕ) → n ≡ suc n - 1
one_less n = omega arith

pub judged_next : (program : Program) (by : Option (List ℕ)) (r : Revision) (judged : BoardState) (book : Book) (sequence : ℕ) (w : Write)
    → IsWriteOf program by r judged w → IsNextWrite judged book sequence w → IsJudgedWrite program book sequence w
judged_next program by r judged book zero w is next = absurd (omega (arith, next.front))
judged_next program by r judged book (suc before) w is next =
    record {
      at = omega (arith, is.at, next.front);
      winner =
          subst (λ (ws : List Sequenced). option_map (λ l. l.rev) (winner_of (tree_by ws)) ≡ Some w.winner) (sym after_is)
          (subst (λ (doc : List ℕ). option_map (λ l. l.rev) (winner_of (tree_by (record { seq = suc before; write = w } ∷ writes_up_to (board_book judged) (board_last judged doc) doc))) ≡ Some w.winner) (sym is.doc) is.winner);
      log = judged.log;
      front = sym is.at;
      kept = log_kept judged book next.later;
      accepted =
          subst (λ (n : ℕ). IsSaidOf program (reverse judged.log) (base_in book n w.doc w.ancestors) w.by w.doc w.deleted w.body (Ok (effects_in w))) (one_less before)
          (said_of program (reverse judged.log) (Ok (effects_in w)) (board_base judged r.doc r.ancestors) (base_in book before w.doc w.ancestors) by w.by r.doc w.doc r.deleted w.deleted (body_or_empty r.body) w.body
          base_is is.by is.doc is.deleted is.body is.accepted);
    }
  where
    last : ℕ
    last = board_last judged w.doc

    before_is : writes_up_to book before w.doc ≡ writes_up_to (board_book judged) last w.doc
    before_is =
        no_more book w.doc last before (omega (arith, next.above)) (λ k above within. next.between k above (omega (arith, within)))
        ∙ board_writes judged book w.doc next.later

    after_is : writes_up_to book (suc before) w.doc ≡ record { seq = suc before; write = w } ∷ writes_up_to (board_book judged) last w.doc
    after_is = λ i. sequenced_before (its_write book (suc before) w next.there i) (suc before) (before_is i)

    first_is : first_of w.ancestors ≡ first_of r.ancestors
    first_is = ap (λ (revs : List RevId). first_of revs) is.ancestors ∙ first_taken (board_tree judged r.doc) r.ancestors

    base_is : base_in book before w.doc w.ancestors ≡ board_base judged r.doc r.ancestors
    base_is =
        same_base book (board_book judged) before last w.doc before_is (first_of w.ancestors)
        ∙ ap (λ (o : Option RevId). rev_written_in (board_book judged) last w.doc o) first_is
        ∙ ap (λ (doc : List ℕ). base_in (board_book judged) (board_last judged doc) doc r.ancestors) is.doc
