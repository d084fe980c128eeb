-- trees of documents, in books and among entries
use Rattle.std.proofs.Common.{◌≡◌, ℕ, ◌+◌, length, refl, ap, ◌∙◌, List, [], ◌∷◌, map, Option, Some, None}
use Rattle.sg_names.specs.declared.rev_id.RevId.{RevId}
use Rattle.sg_history.specs.declared.entries.Entry.{Entry}
use Rattle.sg_history.specs.declared.entries.Write.{Write}
use Rattle.sg_history.specs.History.{past, write_to}
use Rattle.sg_history.specs.Current.{Sequenced, sequenced_before, writes_to, write_of_rev, write_alone}
use Rattle.sg_history.specs.Book.{Book, book_of, first_of_rev, writes_up_to, write_of_rev_up_to}
use Rattle.rev_tree.specs.Extension.{first_of}
use Rattle.rev_tree.specs.Documents.{recorded, recorded_before, writes_of, writes_in, rev_written_in, written_by_rev, base_in, base_write}

recorded_next : (o : Option Write) (seq : ℕ) (older : List Sequenced) → map (λ written. recorded written.write) (sequenced_before o seq older) ≡ recorded_before o (map (λ written. recorded written.write) older)
recorded_next None seq older = refl
recorded_next (Some w) seq older = refl

-- the writes of a document among entries, as they are recorded
pub all_recorded : (es : List Entry) (doc : List ℕ) → map (λ written. recorded written.write) (writes_to es doc) ≡ writes_of es doc
all_recorded [] doc = refl
all_recorded (e ∷ older) doc =
    recorded_next (write_to e doc) (length older + 1) (writes_to older doc) ∙ ap (recorded_before (write_to e doc)) (all_recorded older doc)

-- the writes of a document in the book of a history, where that has those of its entries
pub writes_joined : (h : List Entry) (number : ℕ) (doc : List ℕ) → writes_up_to (book_of h) number doc ≡ writes_to (past h number) doc → writes_in (book_of h) number doc ≡ writes_of (past h number) doc
writes_joined h number doc same = ap (λ (l : List Sequenced). map (λ written. recorded written.write) l) same ∙ all_recorded (past h number) doc

-- the write on which a revision is based, where each revision is found
pub base_joined : (h : List Entry) (number : ℕ) (doc : List ℕ) (ancestors : List RevId) → ((rev : RevId) → write_of_rev_up_to (book_of h) number doc rev ≡ write_of_rev (past h number) doc rev) → base_in (book_of h) number doc ancestors ≡ base_write (past h number) doc ancestors
base_joined h number doc ancestors found = go (first_of ancestors)
  where
    go : (o : Option RevId) → rev_written_in (book_of h) number doc o ≡ written_by_rev (past h number) doc o
    go None = refl
    go (Some rev) = ap (λ (o : Option Sequenced). write_alone o) (found rev)

-- the write on which a revision is based, where two books have the same writes
pub base_same : (earlier later : Book) (number : ℕ) (doc : List ℕ) (ancestors : List RevId) → writes_up_to later number doc ≡ writes_up_to earlier number doc → base_in later number doc ancestors ≡ base_in earlier number doc ancestors
base_same earlier later number doc ancestors same = go (first_of ancestors)
  where
    go : (o : Option RevId) → rev_written_in later number doc o ≡ rev_written_in earlier number doc o
    go None = refl
    go (Some rev) = ap (λ (l : List Sequenced). write_alone (first_of_rev l rev)) same
