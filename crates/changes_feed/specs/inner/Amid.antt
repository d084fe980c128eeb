-- What a pass over a log knows amid an entry. Only proofs and the pass's own functions need it.
use Rattle.std.specs.Prelude.{◌≡◌, ◌<◌, ◌≤◌, ◌-◌, ◌||◌, ℕ, Bool, true, false, List, map, nat_lt, Option, Some, None, if◌then◌else◌}
use Rattle.std.specs.Str.{bytes_eq}
use Rattle.sg_history.specs.declared.entries.Entry.{Entry}
use Rattle.sg_history.specs.declared.entries.Mark.{Mark}
use Rattle.sg_history.specs.Current.{Current, current}
use Rattle.sg_history.specs.History.{among, past}
use Rattle.log_index.specs.declared.documents.Document.{Document}
use Rattle.log_index.specs.Marks.{mark_place}
use Rattle.log_index.specs.Places.{document_at}
use Rattle.feed_rows.specs.declared.shown.Viewer.{Viewer}
use Rattle.feed_rows.specs.Known.{Known, known_from, known_in}
use Rattle.feed_rows.specs.KnownDocuments.{names_in}
use Rattle.changes_feed.specs.declared.segment.Segment.{Segment}
use Rattle.changes_feed.specs.inner.Segment.{ArePlaced, renewed_last}

-- the entry at a place renews a document, which stood so before it and stands so after it
pub record Renews (entries : List Entry) (at : ℕ) (doc : List ℕ) (before : Option Document) (after : Document) : Type 0 where
  pub stands : Some after ≡ document_at (past entries at) doc
  pub stood : before ≡ document_at (past entries (at - 1)) doc
  pub renewed : renewed_last (past entries at) doc ≡ true

-- what is to be known of a document amid the entry at a place: what holds after it where it was taken of this one, and else what held
-- before it
abbrev pub known_amid : (List ℕ → Bool) → ℕ → List Entry → ℕ → Viewer → List ℕ → Known
known_amid done start entries at viewer name =
    if done name then known_from start (past entries at) viewer.user.now viewer.filter.now name
    else known_from start (past entries (at - 1)) viewer.user.now viewer.filter.now name

-- what is known amid the entry at a place, which was taken of some documents
pub record PartAt (viewer : Viewer) (start : ℕ) (entries : List Entry) (at : ℕ) (done : List ℕ → Bool) (segment : Segment) : Type 0 where
  pub known : map known_in segment.documents.items ≡ map (known_amid done start entries at viewer) (names_in segment.documents.items)
  pub placed : ArePlaced (past entries at) (names_in segment.documents.items) segment.places
  pub all : (doc : List ℕ) (j : ℕ) → start ≤ j → j < at → renewed_last (past entries j) doc ≡ true → among (names_in segment.documents.items) doc ≡ true
  pub taken : (doc : List ℕ) → done doc ≡ true → among (names_in segment.documents.items) doc ≡ true

-- the entry renews a document of which it was not taken yet
pub record Renewing (viewer : Viewer) (start : ℕ) (entries : List Entry) (at : ℕ) (before : Option Document) (after : Document) (segment : Segment) (doc : List ℕ) (done : List ℕ → Bool) : Type 0 where
  pub renews : Renews entries at doc before after
  pub free : done doc ≡ false
  pub part : PartAt viewer start entries at done segment

-- one document more
abbrev pub with_one : List ℕ → (List ℕ → Bool) → List ℕ → Bool
with_one doc done name = done name || bytes_eq name doc

-- the place of the first mark of a document's winner, given what the document was
abbrev pub winner_place : List Mark → List ℕ → Option Current → Option ℕ
winner_place marks doc None = None
winner_place marks doc (Some c) = mark_place marks doc c.rev

-- whether there is a place, and it is before a number
abbrev pub is_before : Option ℕ → ℕ → Bool
is_before None number = false
is_before (Some place) number = nat_lt place number

-- whether one of the first marks, so many, renews a document
abbrev pub taken : List Entry → List Mark → ℕ → List ℕ → Bool
taken older marks number doc = is_before (winner_place marks doc (current older doc)) number

-- a sequence is that of the last write of a document
pub record HasLast (es : List Entry) (seq : ℕ) : Type 0 where
  pub doc : List ℕ
  pub d : Document
  pub stands : document_at es doc ≡ Some d
  pub last : d.last ≡ seq

-- the names of one list are among those of another
abbrev pub HasMore : List (List ℕ) → List (List ℕ) → Type 0
HasMore old new = (name : List ℕ) → among old name ≡ true → among new name ≡ true
