-- The documents that entries write. Only proofs and the caches' own functions need it.
use Rattle.std.specs.Prelude.{◌-◌, ℕ, List, [], ◌∷◌, ◌++◌, Option, Some, None, slice_get}
use Rattle.sg_history.specs.declared.entries.Entry.{Entry}
use Rattle.sg_history.specs.declared.entries.Write.{Write}
use Rattle.sg_history.specs.History.{as_write}
use Rattle.channel_cache.specs.declared.found.DocSeq.{DocSeq}

abbrev pub document_by : Option Write → ℕ → List DocSeq
document_by None seq = []
document_by (Some w) seq = record { doc = w.doc; seq = seq } ∷ []

-- the document that an entry writes, where there is one and it is a write, with this sequence
abbrev pub document_read : Option Entry → ℕ → List DocSeq
document_read None seq = []
document_read (Some e) seq = document_by (as_write e) seq

-- the documents that the entries of these sequences write
abbrev pub documents_read : List Entry → List ℕ → List DocSeq
documents_read entries [] = []
documents_read entries (seq ∷ others) = document_read (slice_get entries (seq - 1)) seq ++ documents_read entries others
