-- What is found of a document's last change, going back from its last write.
use Rattle.std.specs.Prelude.{◌≡◌, ◌<◌, ◌≤◌, ℕ, List, length, reverse, Option, Some, None}
use Rattle.sg_history.specs.declared.entries.Entry.{Entry}
use Rattle.sg_history.specs.declared.row.Row.{Row}
use Rattle.sg_history.specs.History.{past}
use Rattle.sg_history.specs.declared.entries.Write.{Write}
use Rattle.sg_history.specs.Current.{effects_of}
use Rattle.sg_history.specs.Feed.{row_of}
use Rattle.log_index.specs.declared.documents.Document.{Document}
use Rattle.log_index.specs.declared.index.LogIndex.{LogIndex}
use Rattle.log_index.specs.Index.{Indexes}
use Rattle.log_index.specs.Marks.{marked_after}
use Rattle.log_index.specs.Places.{document_at}
use Rattle.log_views.specs.declared.effects.EffectsOf.{EffectsOf}
use Rattle.log_views.specs.States.{effects_in, since_by}
use Rattle.feed_rows.specs.declared.last_change.Found.{Found}
use Rattle.feed_rows.specs.declared.last_change.Found.TheVariants as found
use Rattle.feed_rows.specs.declared.shown.Viewer.{Viewer}
use Rattle.feed_rows.specs.PassAt.{IsViewer}

-- the place of a change by its row, 0 where there is none
abbrev pub place_by : Option Row → ℕ
place_by None = 0
place_by (Some row) = row.key.by

-- the place of the last change of what is shown of a document
abbrev pub place_in : List Entry → Viewer → List ℕ → ℕ
place_in es viewer doc = place_by (row_of es viewer.user.now viewer.filter.now doc)

-- where the document stood after the first entries, so many
pub record Stood (entries : List Entry) (index : LogIndex) (viewer : Viewer) (doc : List ℕ) (to : ℕ) (stood : Option Document) : Type 0 where
  pub within : to ≤ length entries
  pub document : stood ≡ document_at (past entries to) doc
  pub is_viewer : IsViewer viewer (reverse entries)
  pub indexes : Indexes index (reverse entries)

-- the effects are those that the revision of this write of a sequence has after these entries, and since then
pub record IsWinning (es : List Entry) (seq : ℕ) (w : Write) (has : EffectsOf) : Type 0 where
  pub effects : effects_in has ≡ effects_of es (record { seq = seq; write = w })
  pub since : has.since ≡ since_by (marked_after es (record { seq = seq; write = w })) seq

-- the last change up to a place is found, or is that up to an earlier one, after which the document stood so
abbrev pub IsFound : List Entry → Viewer → List ℕ → ℕ → Found → Type 0
IsFound entries viewer doc to (found.At k) = place_in (past entries to) viewer doc ≡ k
IsFound entries viewer doc to (found.Before stood m) =
    (m < to) × (stood ≡ document_at (past entries m) doc)
    × (place_in (past entries to) viewer doc ≡ place_in (past entries m) viewer doc)
