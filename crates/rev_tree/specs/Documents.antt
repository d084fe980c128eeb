-- What the writes of a document make: its tree of revisions, in a book up to a number and among entries given the newest first.
use Rattle.std.specs.Prelude.{ℕ, Bool, false, List, [], ◌∷◌, map, Option, Some, None}
use Rattle.sg_names.specs.declared.rev_id.RevId.{RevId}
use Rattle.sg_history.specs.declared.entries.Entry.{Entry}
use Rattle.sg_history.specs.declared.entries.Write.{Write}
use Rattle.sg_history.specs.History.{write_to}
use Rattle.sg_history.specs.Current.{Sequenced, last_write, write_of_rev, write_alone}
use Rattle.sg_history.specs.Book.{Book, writes_up_to, last_write_up_to, write_of_rev_up_to}
use Rattle.rev_tree.specs.declared.tree.Node.{Node}
use Rattle.rev_tree.specs.Extension.{Recorded, first_of}
use Rattle.rev_tree.specs.Writes.{tree_of}

-- a write as a tree records it
abbrev pub recorded : Write → Recorded
recorded w = record { rev = w.rev; ancestors = w.ancestors; deleted = w.deleted }

-- the writes of a document in a book at numbers up to this one, the last one first
abbrev pub writes_in : Book → ℕ → List ℕ → List Recorded
writes_in book number doc = map (λ written. recorded written.write) (writes_up_to book number doc)

-- the tree of a document in a book: that of its writes at numbers up to this one
abbrev pub tree_in : Book → ℕ → List ℕ → List Node
tree_in book number doc = tree_of (writes_in book number doc)

-- the sequence of a write, 0 where there is none
abbrev pub sequence_of : Option Sequenced → ℕ
sequence_of None = 0
sequence_of (Some last) = last.seq

-- the number of the last write of a document in a book up to this number, 0 where there is none
abbrev pub last_in : Book → ℕ → List ℕ → ℕ
last_in book number doc = sequence_of (last_write_up_to book number doc)

-- the tree of each document in a book, up to a number of its own
abbrev pub trees_up_to : Book → (List ℕ → ℕ) → List ℕ → List Node
trees_up_to book numbers doc = tree_in book (numbers doc) doc

-- the write in a book, at numbers up to this one, of a revision where there is one
abbrev pub rev_written_in : Book → ℕ → List ℕ → Option RevId → Option Write
rev_written_in book number doc None = None
rev_written_in book number doc (Some rev) = write_alone (write_of_rev_up_to book number doc rev)

-- the write of the first of these ancestors in a book up to this number, which is what a revision on them is based on; none where
-- that one was never written
abbrev pub base_in : Book → ℕ → List ℕ → List RevId → Option Write
base_in book number doc ancestors = rev_written_in book number doc (first_of ancestors)

-- a write as a tree records it before older ones, where there is one
abbrev pub recorded_before : Option Write → List Recorded → List Recorded
recorded_before None older = older
recorded_before (Some w) older = recorded w ∷ older

-- the writes of a document among entries, the last one first
abbrev pub writes_of : List Entry → List ℕ → List Recorded
writes_of [] doc = []
writes_of (e ∷ older) doc = recorded_before (write_to e doc) (writes_of older doc)

-- the tree that the writes of a document among entries make
abbrev pub tree_at : List Entry → List ℕ → List Node
tree_at es doc = tree_of (writes_of es doc)

-- the sequence of the last write of a document among entries, 0 where there is none
abbrev pub last_at : List Entry → List ℕ → ℕ
last_at es doc = sequence_of (last_write es doc)

-- the write of a revision where there is one, among these entries
abbrev pub written_by_rev : List Entry → List ℕ → Option RevId → Option Write
written_by_rev es doc None = None
written_by_rev es doc (Some rev) = write_alone (write_of_rev es doc rev)

-- the write of the first of these ancestors among entries; none where that one was never written
abbrev pub base_write : List Entry → List ℕ → List RevId → Option Write
base_write es doc ancestors = written_by_rev es doc (first_of ancestors)

-- the tree of a document that was written; none of one that never was
abbrev pub tree_when : List Recorded → Option (List Node)
tree_when [] = None
tree_when (w ∷ ws) = Some (tree_of (w ∷ ws))

-- whether there is a write and it is a deletion
abbrev pub deletes : Option Write → Bool
deletes None = false
deletes (Some w) = w.deleted
