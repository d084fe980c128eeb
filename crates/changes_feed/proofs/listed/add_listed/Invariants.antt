use Rattle.std.proofs.Common.{◌≡◌, ◌≤◌, ◌+◌, ◌*◌, true, ℕ, List, Some, length, take}
use Rattle.sg_history.specs.History.{among, past}
use Rattle.log_index.specs.declared.documents.Document.{Document}
use Rattle.log_index.specs.Places.{document_at}
use Rattle.channel_cache.specs.Stands.{has}
use Rattle.feed_rows.specs.KnownDocuments.{names_in}
use Rattle.changes_feed.specs.inner.Segment.{SegmentAt}
use Rattle.changes_feed.proofs.listed.add_listed.Given as goal

-- the documents of the first sequences are there
abbrev pub invariant-loop-seq : goal.invariant-loop-seq
invariant-loop-seq l = record {
  within : l.seq-index ≤ length l.sequences;
  known : SegmentAt l.viewer l.start l.initial.log.entries l.front l.segment;
  has : (doc : List ℕ) (d : Document) → document_at (past l.initial.log.entries l.front) doc ≡ Some d → has (take l.seq-index l.sequences) d.last ≡ true → among (names_in l.segment.documents.items) doc ≡ true;
  log : l.log.entries ≡ l.initial.log.entries;
  reads : l.log.reads ≤ l.initial.log.reads + 2 * l.seq-index;
}
