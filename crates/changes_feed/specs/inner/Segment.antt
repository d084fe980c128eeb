-- What a pass over the entries from a place on knows of the documents that they renew.
use Rattle.std.specs.Prelude.{◌≡◌, ◌<◌, ◌≤◌, ℕ, Bool, true, false, List, [], ◌∷◌, map, Some, slice_get}
use Rattle.std.specs.BTreeMap.{BTreeMap, get}
use Rattle.std.specs.Ordering.{nat_cmp}
use Rattle.sg_history.specs.declared.entries.Entry.{Entry}
use Rattle.sg_history.specs.History.{among, past}
use Rattle.log_index.specs.Places.{first_seq}
use Rattle.feed_rows.specs.declared.shown.Viewer.{Viewer}
use Rattle.feed_rows.specs.Known.{known_from, known_in, renews}
use Rattle.feed_rows.specs.KnownDocuments.{names_in}
use Rattle.changes_feed.specs.declared.segment.Segment.{Segment}

-- whether the newest of these entries renews a document
abbrev pub renewed_last : List Entry → List ℕ → Bool
renewed_last [] doc = false
renewed_last (e ∷ older) doc = renews e older doc

-- the place of each of these documents, which were written, under the sequence of its first write
pub record ArePlaced (es : List Entry) (names : List (List ℕ)) (places : BTreeMap ℕ ℕ) : Type 0 where
  pub there : (p : ℕ) (name : List ℕ) → slice_get names p ≡ Some name → (0 < first_seq es name) × (get nat_cmp places (first_seq es name) ≡ Some p)
  pub only : (seq p : ℕ) → get nat_cmp places seq ≡ Some p → (name : List ℕ) × (slice_get names p ≡ Some name) × (first_seq es name ≡ seq)

-- what a pass over the entries from `start` on knows after those up to `k`
pub record SegmentAt (viewer : Viewer) (start : ℕ) (entries : List Entry) (k : ℕ) (segment : Segment) : Type 0 where
  pub known : map known_in segment.documents.items ≡ map (known_from start (past entries k) viewer.user.now viewer.filter.now) (names_in segment.documents.items)
  pub placed : ArePlaced (past entries k) (names_in segment.documents.items) segment.places
  pub all : (doc : List ℕ) (j : ℕ) → start ≤ j → j ≤ k → renewed_last (past entries j) doc ≡ true → among (names_in segment.documents.items) doc ≡ true
