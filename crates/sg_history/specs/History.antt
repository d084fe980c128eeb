-- A history is a list of entries; the entry at place k, counted from 1, has sequence k.
-- What a history says at a place is said of the entries up to that place, the newest first, so that a
-- longer history leaves it as it was.
use Rattle.std.specs.Prelude.{◌≡◌, ℕ, Bool, List, [], ◌∷◌, ◌++◌, take, reverse, is_some, Option, Some, None, if◌then◌else◌}
use Rattle.std.specs.List.{list_any}
use Rattle.std.specs.Str.{bytes_eq}
use Rattle.sg_history.specs.declared.entries.Entry.{Entry}
use Rattle.sg_history.specs.declared.entries.Entry.TheVariants as entry
use Rattle.sg_history.specs.declared.entries.Log.{Log}
use Rattle.sg_history.specs.declared.entries.Mark.{Mark}
use Rattle.sg_history.specs.declared.entries.Write.{Write}

-- a history: its limit of revisions, if it has one, and its entries, in order
pub record History : Type 0 where
  pub limit : Option ℕ
  pub entries : List Entry

-- the entries that a log keeps, in order
abbrev pub entries_of : Log → List Entry
entries_of log = log.entries.list

-- the history that a log keeps
abbrev pub history : Log → History
history log = record { limit = log.limit; entries = entries_of log }

-- the entries up to place k, the newest first
abbrev pub past : List Entry → ℕ → List Entry
past entries k = reverse (take k entries)

-- the later entries extend the earlier ones: they begin with them
abbrev pub Extends : List Entry → List Entry → Type 0
Extends earlier later = (rest : List Entry) × (later ≡ earlier ++ rest)

-- whether a text is among these
abbrev pub among : List (List ℕ) → List ℕ → Bool
among texts text = list_any (λ t. bytes_eq t text) texts

-- the write that an entry is, if it is one
abbrev pub as_write : Entry → Option Write
as_write (entry.Write w) = Some w
as_write (entry.PutUser name channels roles) = None
as_write (entry.PutRole name channels) = None
as_write (entry.DropUser name) = None
as_write (entry.DropRole name) = None
as_write (entry.Sync text marks) = None
as_write entry.Unused = None

-- a sync function in place of the one before it: its text, and what it makes of each revision that is a leaf
pub record SyncEntry : Type 0 where
  pub text : List ℕ
  pub marks : List Mark

-- the replacement of the sync function that an entry is, if it is one
abbrev pub as_sync : Entry → Option SyncEntry
as_sync (entry.Write w) = None
as_sync (entry.PutUser name channels roles) = None
as_sync (entry.PutRole name channels) = None
as_sync (entry.DropUser name) = None
as_sync (entry.DropRole name) = None
as_sync (entry.Sync text marks) = Some (record { text = text; marks = marks })
as_sync entry.Unused = None

-- whether an entry is a write
abbrev pub is_write : Entry → Bool
is_write e = is_some (as_write e)

-- whether an entry replaces the sync function
abbrev pub is_sync : Entry → Bool
is_sync e = is_some (as_sync e)

-- the write, where there is one and it is of this document
abbrev pub of_document : Option Write → List ℕ → Option Write
of_document None doc = None
of_document (Some w) doc = if bytes_eq w.doc doc then Some w else None

-- the write of this document that an entry is, if it is one
abbrev pub write_to : Entry → List ℕ → Option Write
write_to e doc = of_document (as_write e) doc

-- the document of a write, where there is one
abbrev pub document_of : Option Write → List (List ℕ)
document_of None = []
document_of (Some w) = w.doc ∷ []

-- the document that an entry writes, if it is a write
abbrev pub written_by : Entry → List (List ℕ)
written_by e = document_of (as_write e)

-- the documents that were written, as often as they were
abbrev pub documents : List Entry → List (List ℕ)
documents [] = []
documents (e ∷ older) = written_by e ++ documents older
