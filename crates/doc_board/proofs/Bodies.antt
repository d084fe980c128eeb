-- the body of each write of a board is a document
use Rattle.std.proofs.Common.{◌≡◌, ℕ, zero, suc, Bool, true, false, List, Option, Some, None, option_map, Result, Ok, Err, Bor, refl, sym, subst, if◌then◌else◌}
use Rattle.std.specs.Prelude.{IfOk, IfSome}
use Rattle.std.specs.Option.{option_copied}
use Rattle.doc_board.specs.declared.snapshot.Snapshot.{Snapshot}
use Rattle.std.specs.Str.{bytes_eq}
use Rattle.sg_names.specs.declared.rev_id.RevId.{RevId}
use Rattle.sg_names.specs.RevId.{same_rev}
use Rattle.sg_history.specs.declared.entries.Entry.{Entry}
use Rattle.sg_history.specs.declared.entries.Write.{Write}
use Rattle.sg_history.specs.History.{as_write, of_document}
use Rattle.sg_history.specs.Book.{Book, written_in, writes_up_to, first_of_rev, write_of_rev_up_to}
use Rattle.sg_history.specs.Current.{Sequenced, sequenced_before, write_alone}
use Rattle.rev_tree.specs.Extension.{first_of}
use Rattle.rev_tree.specs.Documents.{rev_written_in, base_in}
use Rattle.doc_board.specs.Kept.{AreRight, IsRightBy}
use Rattle.doc_board.specs.Recorded.{HasDocument}

-- ---- what is found of a revision

found_body : (book : Book) (k : ℕ) (doc : List ℕ) (rev : RevId) → AreRight book → IfSome (write_of_rev_up_to book k doc rev) (λ s. HasDocument s.write.body)
found_body book zero doc rev right = tt
found_body book (suc k) doc rev right = go (book (suc k)) refl (found_body book k doc rev right)
  where
    Found : Option Entry → Type 0
    Found o = IfSome (first_of_rev (sequenced_before (written_in o doc) (suc k) (writes_up_to book k doc)) rev) (λ s. HasDocument s.write.body)

    of_write : (o : Option Write) → IsRightBy book (suc k) o → IfSome (write_of_rev_up_to book k doc rev) (λ s. HasDocument s.write.body)
        → IfSome (first_of_rev (sequenced_before (of_document o doc) (suc k) (writes_up_to book k doc)) rev) (λ s. HasDocument s.write.body)
    of_write None right before = before
    of_write (Some w) right before = by (bytes_eq w.doc doc)
      where
        by : (b : Bool) → IfSome (first_of_rev (sequenced_before (if b then Some w else None) (suc k) (writes_up_to book k doc)) rev) (λ s. HasDocument s.write.body)
        by false = before
        by true = pick (same_rev w.rev rev)
          where
            pick : (b : Bool) → IfSome (if b then Some (record { seq = suc k; write = w }) else first_of_rev (writes_up_to book k doc) rev) (λ s. HasDocument s.write.body)
            pick true = right.0
            pick false = before

    go : (o : Option Entry) → book (suc k) ≡ o → IfSome (write_of_rev_up_to book k doc rev) (λ s. HasDocument s.write.body) → Found o
    go None is before = before
    go (Some e) is before = of_write (as_write e) (right (suc k) e is).1 before

alone : (o : Option Sequenced) → IfSome o (λ s. HasDocument s.write.body) → IfSome (write_alone o) (λ w. HasDocument w.body)
alone None h = tt
alone (Some s) h = h

written_body : (book : Book) (k : ℕ) (doc : List ℕ) (o : Option RevId) → AreRight book → IfSome (rev_written_in book k doc o) (λ w. HasDocument w.body)
written_body book k doc None right = tt
written_body book k doc (Some rev) right = alone (write_of_rev_up_to book k doc rev) (found_body book k doc rev right)

pub base_body : (book : Book) (k : ℕ) (doc : List ℕ) (ancestors : List RevId) → AreRight book → IfSome (base_in book k doc ancestors) (λ w. HasDocument w.body)
base_body book k doc ancestors right = written_body book k doc (first_of ancestors) right

-- ---- what is handed out

-- the write that was found has a document
pub found_document : {E : Type 0} (r : Result (Option (Bor Write)) E) (o : Option Write) → IfSome o (λ w. HasDocument w.body) → IfOk r (λ found. option_copied found ≡ o) → IfOk r (λ found. IfSome found (λ write. HasDocument write.now.body))
found_document (Ok None) o has is = tt
found_document (Ok (Some b)) o has is = subst (λ (x : Option Write). IfSome x (λ w. HasDocument w.body)) (sym is) has
found_document (Err e) o has is = tt

-- so has the body that a snapshot has of it
pub old_document : {E : Type 0} (r : Result Snapshot E) (b : Option (Bor Write)) → IfSome b (λ write. HasDocument write.now.body) → IfOk r (λ s. s.old ≡ option_map (λ w. w.body) (option_copied b)) → IfOk r (λ s. IfSome s.old (λ body. HasDocument body))
old_document (Ok s) None has is = subst (λ (x : Option (List ℕ)). IfSome x (λ body. HasDocument body)) (sym is) tt
old_document (Ok s) (Some w) has is = subst (λ (x : Option (List ℕ)). IfSome x (λ body. HasDocument body)) (sym is) has
old_document (Err e) b has is = tt
