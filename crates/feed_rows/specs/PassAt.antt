-- What a pass knows after some entries.
use Rattle.std.specs.Prelude.{◌≡◌, ℕ, ◌+◌, Bool, true, false, List, [], ◌∷◌, length, map, is_some, Option, Some, None, if◌then◌else◌}
use Rattle.sg_names.specs.declared.rev_id.RevId.{RevId}
use Rattle.sg_history.specs.declared.entries.Entry.{Entry}
use Rattle.sg_history.specs.declared.entries.Mark.{Mark}
use Rattle.sg_history.specs.Current.{Current, current, mark_by, mark_of}
use Rattle.sg_history.specs.History.{as_write}
use Rattle.sg_history.specs.Principals.{has_channel}
use Rattle.feed_rows.specs.declared.document.Change.{Change}
use Rattle.feed_rows.specs.declared.document.Latest.{Latest}
use Rattle.feed_rows.specs.declared.pass.Pass.{Pass}
use Rattle.feed_rows.specs.declared.shown.Viewer.{Viewer}
use Rattle.feed_rows.specs.inner.Index.{IsIndex}
use Rattle.feed_rows.specs.Known.{Known, from_on, known_at, known_in, renews, row_before, row_in, since_renewed, written_names}
use Rattle.feed_rows.specs.Latest.{current_in, since_in, winner_in}
use Rattle.grant_history.specs.Periods.{periods_have}
use Rattle.feed_rows.specs.Lasting.{AreToSearch}

-- a test says which channels the user has at the last place of these entries, the newest first
abbrev pub IsNow : (List ℕ → ℕ → Bool) → List ℕ → List Entry → Type 0
IsNow has user es = (c : List ℕ) → has c (length es) ≡ has_channel es user c

-- it says that at each place
abbrev pub Dated : (List ℕ → ℕ → Bool) → List ℕ → List Entry → Type 0
Dated has user [] = IsNow has user []
Dated has user (e ∷ older) = IsNow has user (e ∷ older) × Dated has user older

-- the periods are those of the user's channels at the places of these entries
pub record IsViewer (viewer : Viewer) (es : List Entry) : Type 0 where
  pub to_search : AreToSearch viewer.periods.now
  pub dated : Dated (periods_have viewer.periods.now) viewer.user.now es

-- this is what a document is after these entries, and its last change up to where it was last renewed, where that is from a place on
pub record IsKnown (viewer : Viewer) (from : ℕ) (es : List Entry) (doc : List ℕ) (latest : Option Latest) (change : Option Change) : Type 0 where
  pub is_viewer : IsViewer viewer es
  pub state : current_in latest ≡ current es doc
  pub since : since_in latest ≡ length (since_renewed es doc)
  pub row : row_in doc change ≡ from_on from (row_before es viewer.user.now viewer.filter.now doc)

-- this is what a document is from the newest of these entries on, which renews it
pub record IsRenewed (viewer : Viewer) (e : Entry) (es : List Entry) (doc : List ℕ) (latest : Latest) : Type 0 where
  pub is_viewer : IsViewer viewer (e ∷ es)
  pub renewed : renews e es doc ≡ true
  pub since : latest.since ≡ length es + 1
  pub state : Some (winner_in latest) ≡ current (e ∷ es) doc

-- the pass knows what holds at the end of these entries, the newest first
pub record PassAt (es : List Entry) (viewer : Viewer) (pass : Pass) : Type 0 where
  pub documents : map known_in pass.documents.items
      ≡ map (known_at es viewer.user.now viewer.filter.now) (written_names es)
  pub places : IsIndex (written_names es) pass.places

-- the entry is no write, and has these marks
pub record HasMarks (e : Entry) (marks : List Mark) : Type 0 where
  pub unwritten : as_write e ≡ None
  pub has : (doc : List ℕ) (rev : RevId) → mark_by e doc rev ≡ mark_of marks doc rev

-- whether one of these marks is of the winner of a document that is this
abbrev pub mark_winner : List Mark → List ℕ → Option Current → Bool
mark_winner marks doc None = false
mark_winner marks doc (Some c) = is_some (mark_of marks doc c.rev)

-- what is to be known of a document amid the marks of an entry: where one of the first marks, which are these, is of its winner,
-- what holds after the entry, and else what held before it
abbrev pub known_amid : List Mark → Entry → List Entry → List ℕ → Option (List (List ℕ)) → List ℕ → Known
known_amid marks e es user filter name =
    if mark_winner marks name (current es name) then known_at (e ∷ es) user filter name
    else known_at es user filter name

-- the pass knows what holds amid the marks of an entry, the first of which are these
pub record AmidAt (marks : List Mark) (e : Entry) (es : List Entry) (viewer : Viewer) (pass : Pass) : Type 0 where
  pub documents : map known_in pass.documents.items
      ≡ map (known_amid marks e es viewer.user.now viewer.filter.now) (written_names es)
  pub places : IsIndex (written_names es) pass.places
