use Rattle.std.proofs.Common.{◌≡◌, ◌≤◌, ◌+◌, ◌++◌, drop}
use Rattle.channel_cache.specs.inner.DocumentsRead.{documents_read}
use Rattle.channel_cache.proofs.caches.documents_at.Given as goal

-- those so far, and those of the rest
abbrev pub invariant-loop-seq : goal.invariant-loop-seq
invariant-loop-seq l = record {
  documents : l.documents.items ++ documents_read l.initial.log.entries (drop l.seq-index l.sequences) ≡ documents_read l.initial.log.entries l.sequences;
  log : l.log.entries ≡ l.initial.log.entries;
  reads : l.log.reads ≤ l.initial.log.reads + l.seq-index;
}
