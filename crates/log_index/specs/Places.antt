-- Where documents and revisions stand in a history, given its entries, the newest
-- first.
use Rattle.std.specs.Prelude.{ℕ, nat_eq, ◌+◌, zero, suc, List, [], ◌∷◌, length, Option, Some, None, option_map, if◌then◌else◌}
use Rattle.sg_names.specs.declared.rev_id.RevId.{RevId}
use Rattle.sg_history.specs.declared.entries.Entry.{Entry}
use Rattle.sg_history.specs.declared.entries.Write.{Write}
use Rattle.sg_history.specs.History.{as_write, write_to}
use Rattle.sg_history.specs.Current.{Sequenced, last_write, write_of_rev, winning_of}
use Rattle.log_index.specs.Marks.{write_of}
use Rattle.log_index.specs.declared.documents.Document.{Document}

-- the earlier sequence where there is one, else that of the write, if there is one
abbrev pub earlier_or : Option Write → ℕ → ℕ → ℕ
earlier_or None seq earlier = earlier
earlier_or (Some w) seq zero = seq
earlier_or (Some w) seq (suc earlier) = suc earlier

-- the sequence of a document's first write, 0 where it was never written
abbrev pub first_seq : List Entry → List ℕ → ℕ
first_seq [] doc = 0
first_seq (e ∷ older) doc = earlier_or (write_to e doc) (length older + 1) (first_seq older doc)

-- the sequence of a write, where there is one
abbrev pub seq_alone : Option Sequenced → Option ℕ
seq_alone written = option_map (λ w. w.seq) written

-- the sequence of the write of a document that has this revision
abbrev pub revision_seq : List Entry → List ℕ → RevId → Option ℕ
revision_seq es doc rev = seq_alone (write_of_rev es doc rev)

-- where a document stands whose last write is given, if it has one
abbrev pub document_by : List Entry → List ℕ → Option Sequenced → Option Document
document_by es doc None = None
document_by es doc (Some last) =
    Some (record {
      first = first_seq es doc;
      last = last.seq;
      winning = (winning_of es doc last).seq;
    })

-- where a document stands: its first write, its last one and the write of its winner; none where it
-- was never written
abbrev pub document_at : List Entry → List ℕ → Option Document
document_at es doc = document_by es doc (last_write es doc)

-- the first write of a document, this sequence where it stands nowhere
abbrev pub first_or : Option Document → ℕ → ℕ
first_or None seq = seq
first_or (Some document) seq = document.first

-- where the document of a write stands; none where there is no write, or its document was never written
abbrev pub document_before : List Entry → Option Write → Option Document
document_before older None = None
document_before older (Some w) = document_at older w.doc

-- where the document that the entry of a sequence writes stood before it
abbrev pub before_at : List Entry → ℕ → Option Document
before_at [] seq = None
before_at (e ∷ older) seq =
    if nat_eq seq (length older + 1) then document_before older (as_write e) else before_at older seq

-- where the document that the entry of a sequence writes stood right behind it; none where it is no write
abbrev pub after_at : List Entry → ℕ → Option Document
after_at [] seq = None
after_at (e ∷ older) seq =
    if nat_eq seq (length older + 1) then document_before (e ∷ older) (as_write e) else after_at older seq

-- the write of the document of this write that an entry is, where there is a write and it is one
abbrev pub written_again : Entry → Option Write → Option Write
written_again e None = None
written_again e (Some w) = write_to e w.doc

-- the earlier sequence where there is one, else that of the write, if there is one
abbrev pub next_or : Option ℕ → Option Write → ℕ → Option ℕ
next_or (Some next) again seq = Some next
next_or None None seq = None
next_or None (Some w) seq = Some seq

-- the sequence of the next write of the document that the entry of a sequence writes; none where there is no later one, and
-- where the entry is no write
abbrev pub next_at : List Entry → ℕ → Option ℕ
next_at [] seq = None
next_at (e ∷ older) seq = next_or (next_at older seq) (written_again e (write_of older seq)) (length older + 1)
