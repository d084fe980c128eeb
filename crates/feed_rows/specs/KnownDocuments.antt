-- When what is known of documents is enough for a feed.
use Rattle.std.specs.Prelude.{◌≡◌, ℕ, IsTrue, true, List, map, Some}
use Rattle.sg_names.specs.declared.key.Key.{Key}
use Rattle.sg_history.specs.declared.entries.Entry.{Entry}
use Rattle.sg_history.specs.declared.row.Row.{Row}
use Rattle.sg_history.specs.declared.row.Options.{Options}
use Rattle.sg_history.specs.History.{among}
use Rattle.sg_history.specs.Feed.{keeps, row_of}
use Rattle.feed_rows.specs.declared.document.Document.{Document}
use Rattle.feed_rows.specs.declared.shown.Viewer.{Viewer}
use Rattle.feed_rows.specs.Known.{known_from, known_in}
use Rattle.feed_rows.specs.PassAt.{IsViewer}

-- the names of documents
abbrev pub names_in : List Document → List (List ℕ)
names_in documents = map (λ d. d.name.now) documents

-- each of these documents is known as it is after these entries, with its last change where that is from a place on
pub record AreKnown (viewer : Viewer) (from : ℕ) (es : List Entry) (documents : List Document) : Type 0 where
  pub is_viewer : IsViewer viewer es
  pub known : map known_in documents ≡ map (known_from from es viewer.user.now viewer.filter.now) (names_in documents)

-- each document of which a row is asked for is one of these
abbrev pub HaveAll : List Entry → List ℕ → Key → Options → List Document → Type 0
HaveAll es user since options documents =
    (doc : List ℕ) (row : Row) → row_of es user options.filter doc ≡ Some row → IsTrue (keeps options since row)
    → among (names_in documents) doc ≡ true
