-- The changes feed of a user, given the entries up to a front, the newest first.
use Rattle.std.specs.Prelude.{ℕ, ◌+◌, Bool, true, false, ◌&&◌, ◌||◌, not, nat_eq, nat_le, List, [], ◌∷◌, filter, length, is_some, Option, Some, None, if◌then◌else◌}
use Rattle.std.specs.List.{filter_map}
use Rattle.std.specs.Ordering.{is_lt}
use Rattle.std.specs.declared.cmp.Ordering.{Ordering}
use Rattle.std.specs.declared.cmp.Ordering.TheVariants.{Less, Equal, Greater}
use Rattle.sg_names.specs.declared.key.Key.{Key}
use Rattle.sg_names.specs.Key.{key_cmp}
use Rattle.sg_history.specs.declared.entries.Entry.{Entry}
use Rattle.sg_history.specs.declared.row.Row.{Row}
use Rattle.sg_history.specs.declared.row.Options.{Options}
use Rattle.sg_history.specs.History.{write_to, documents}
use Rattle.sg_history.specs.Current.{Current, current}
use Rattle.sg_history.specs.View.{Shown, view, same_view}

-- the entries up to the last place at which what is shown of the document changed; none where it never did
abbrev pub changed : List Entry → List ℕ → Option (List (List ℕ)) → List ℕ → List Entry
changed [] user channels doc = []
changed (e ∷ older) user channels doc =
    if same_view (view (e ∷ older) user channels doc) (view older user channels doc)
    then changed older user channels doc
    else e ∷ older

-- whether an entry is a write of the document
abbrev pub writes : Entry → List ℕ → Bool
writes e doc = is_some (write_to e doc)

-- the bits of a row: 0 or, deleted, 1 where the document is shown; 4 or, deleted, 5 where it left by a write of its own; 2 where it left otherwise
abbrev pub bits_of : Option Shown → Bool → Bool → ℕ
bits_of (Some shown) wrote deleted = if deleted then 1 else 0
bits_of None true deleted = if deleted then 5 else 4
bits_of None false deleted = 2

-- a row by the change's sequence, where the document has a current state
abbrev pub row_with : ℕ → Bool → Option Shown → List ℕ → Option Current → Option Row
row_with by wrote shown doc None = None
row_with by wrote shown doc (Some c) =
    Some (record { key = record { by = by; seq = c.seq }; doc = doc; rev = c.rev; bits = bits_of shown wrote c.deleted })

-- the row of a document that changed by the newest of these entries
abbrev pub row_at : List Entry → List ℕ → Option (List (List ℕ)) → List ℕ → Option Row
row_at [] user channels doc = None
row_at (e ∷ older) user channels doc =
    row_with (length older + 1) (writes e doc) (view (e ∷ older) user channels doc) doc (current (e ∷ older) doc)

-- the row of a document, at its last change; none where it never changed
abbrev pub row_of : List Entry → List ℕ → Option (List (List ℕ)) → List ℕ → Option Row
row_of es user channels doc = row_at (changed es user channels doc) user channels doc

-- whether a row says that its document is no longer shown
abbrev pub is_gone : ℕ → Bool
is_gone bits = nat_le 2 bits

-- whether a row's winner is said to be deleted
abbrev pub is_deleted : ℕ → Bool
is_deleted bits = nat_eq bits 1 || nat_eq bits 5

-- the key from which a device begins
abbrev pub is_start : Key → Bool
is_start key = nat_eq key.by 0 && nat_eq key.seq 0

-- the rows after a since key: from the start without those that are gone, and under active only without those deleted; revocations where they are asked for
abbrev pub keeps : Options → Key → Row → Bool
keeps options since row =
    is_lt (key_cmp since row.key)
    && (not (is_start since) || (not (is_gone row.bits) && not (options.active_only && is_deleted row.bits)))
    && (options.revocations || not (nat_eq row.bits 2))

-- a row before the others, in place of none where one of its key is there, or after the first
abbrev pub place_row : Ordering → Row → Row → List Row → List Row → List Row
place_row Less row first others after = row ∷ first ∷ others
place_row Equal row first others after = first ∷ others
place_row Greater row first others after = first ∷ after

-- a row put into rows of rising keys, once
abbrev pub insert_row : Row → List Row → List Row
insert_row row [] = row ∷ []
insert_row row (first ∷ others) = place_row (key_cmp row.key first.key) row first others (insert_row row others)

-- rows in rising order of their keys, each once
abbrev pub in_key_order : List Row → List Row
in_key_order [] = []
in_key_order (row ∷ rows) = insert_row row (in_key_order rows)

-- the rows of documents, in no order
abbrev pub rows_of : List Entry → List ℕ → Option (List (List ℕ)) → List (List ℕ) → List Row
rows_of es user channels docs = filter_map (λ doc. row_of es user channels doc) docs

-- the feed: the rows of all documents that were written, as far as they are asked for, in rising order of their keys
abbrev pub feed : List Entry → List ℕ → Key → Options → List Row
feed es user since options =
    in_key_order (filter (λ row. keeps options since row) (rows_of es user options.filter (documents es)))
