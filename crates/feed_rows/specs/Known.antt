-- What a pass over the log knows of each document.
use Rattle.std.specs.Prelude.{◌≡◌, ℕ, Bool, false, ◌||◌, nat_le, List, [], ◌∷◌, ◌++◌, length, is_some, slice_get, slice_index_or, MatchOption, Option, Some, None, if◌then◌else◌}
use Rattle.std.specs.List.{list_any}
use Rattle.std.specs.Str.{bytes_eq}
use Rattle.sg_history.specs.declared.entries.Entry.{Entry}
use Rattle.sg_history.specs.declared.row.Row.{Row}
use Rattle.sg_history.specs.History.{among, documents}
use Rattle.sg_history.specs.Current.{Current, current, mark_by}
use Rattle.sg_history.specs.Feed.{row_of, row_with, writes}
use Rattle.sg_history.specs.View.{Shown}
use Rattle.feed_rows.specs.declared.document.Change.{Change}
use Rattle.feed_rows.specs.declared.document.Document.{Document}
use Rattle.feed_rows.specs.Latest.{changed_in, current_in, since_in}

-- what is known of a document: what it is, from which place on, and the row that it had there
pub record Known : Type 0 where
  pub name : List ℕ
  pub current : Option Current
  pub since : ℕ
  pub row : Option Row

-- whether an entry has a mark of the winner of a document that is this
abbrev pub marks_winner : Entry → List ℕ → Option Current → Bool
marks_winner e doc None = false
marks_winner e doc (Some c) = is_some (mark_by e doc c.rev)

-- whether an entry renews a document: it writes it, or marks its winner
abbrev pub renews : Entry → List Entry → List ℕ → Bool
renews e older doc = writes e doc || marks_winner e doc (current older doc)

-- the entries up to the last one that renewed a document, none where it was never written
abbrev pub since_renewed : List Entry → List ℕ → List Entry
since_renewed [] doc = []
since_renewed (e ∷ older) doc = if renews e older doc then e ∷ older else since_renewed older doc

-- the row that a document had where it was last renewed
abbrev pub row_before : List Entry → List ℕ → Option (List (List ℕ)) → List ℕ → Option Row
row_before es user filter doc = row_of (since_renewed es doc) user filter doc

-- a row that is of a place or of one behind it
abbrev pub from_on : ℕ → Option Row → Option Row
from_on from None = None
from_on from (Some row) = if nat_le from row.key.by then Some row else None

-- what is to be known of a document after these entries, the newest first, of its rows those from a place on
abbrev pub known_from : ℕ → List Entry → List ℕ → Option (List (List ℕ)) → List ℕ → Known
known_from from es user filter name =
    record {
      name = name;
      current = current es name;
      since = length (since_renewed es name);
      row = from_on from (row_before es user filter name);
    }

-- the same of all its rows
abbrev pub known_at : List Entry → List ℕ → Option (List (List ℕ)) → List ℕ → Known
known_at es user filter name = known_from 1 es user filter name

-- a document that was never written
abbrev pub blank : List ℕ → Known
blank name = record { name = name; current = None; since = 0; row = None }

-- names with one more, unless it is there
abbrev pub add_name : List ℕ → List (List ℕ) → List (List ℕ)
add_name name names = if among names name then names else names ++ name ∷ []

-- each name once
abbrev pub distinct_of : List (List ℕ) → List (List ℕ)
distinct_of [] = []
distinct_of (name ∷ names) = add_name name (distinct_of names)

-- the documents that were written, each once
abbrev pub written_names : List Entry → List (List ℕ)
written_names es = distinct_of (documents es)

-- this is the place of a name among names, or none where the name is not there
abbrev pub PlacedBy : List (List ℕ) → List ℕ → Option ℕ → Type 0
PlacedBy names name place =
    MatchOption place (among names name ≡ false) (λ k. slice_get names k ≡ Some name)

-- documents with one more that was never written, unless it is there
abbrev pub add_blank : List ℕ → List Known → List Known
add_blank name known =
    if list_any (λ (k : Known). bytes_eq k.name name) known then known
    else known ++ blank name ∷ []

-- what is known of the document in this place
abbrev pub there : ℕ → List Known → Known
there place known = slice_index_or known place (blank [])

-- what is shown of a document that is shown, or not
abbrev pub view_when : Bool → Current → Option Shown
view_when is_shown c =
    if is_shown then Some (record { seq = c.seq; rev = c.rev; deleted = c.deleted }) else None

-- the row of a document, as its last change gives it
abbrev pub row_in : List ℕ → Option Change → Option Row
row_in name None = None
row_in name (Some change) =
    row_with change.by change.wrote (view_when change.is_shown (changed_in change)) name
    (Some (changed_in change))

-- what the code knows of a document
abbrev pub known_in : Document → Known
known_in document =
    record {
      name = document.name.now;
      current = current_in document.latest;
      since = since_in document.latest;
      row = row_in document.name.now document.change;
    }
