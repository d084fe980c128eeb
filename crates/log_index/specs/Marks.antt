-- Where the effects of written revisions stand in a history, given its entries, the newest first.
use Rattle.std.specs.Prelude.{ℕ, nat_eq, nat_le, ◌+◌, suc, Bool, false, ◌&&◌, List, [], ◌∷◌, length, Option, Some, None, option_map, slice_get, if◌then◌else◌}
use Rattle.sg_names.specs.declared.rev_id.RevId.{RevId}
use Rattle.sg_history.specs.declared.entries.Entry.{Entry}
use Rattle.sg_history.specs.declared.entries.Mark.{Mark}
use Rattle.sg_history.specs.declared.entries.Write.{Write}
use Rattle.sg_history.specs.History.{SyncEntry, as_sync, as_write}
use Rattle.sg_history.specs.Current.{Effects, Sequenced, effects_or, marks_rev, recorded_effects}
use Rattle.log_index.specs.declared.marks.Marked.{Marked}

-- the place of the first of these marks that is of a revision of a document, counted from 0, if one is
abbrev pub mark_place : List Mark → List ℕ → RevId → Option ℕ
mark_place [] doc rev = None
mark_place (mark ∷ marks) doc rev = if marks_rev mark doc rev then Some 0 else option_map suc (mark_place marks doc rev)

-- the same of the marks that a replaced sync function has, where there is one
abbrev pub place_in : Option SyncEntry → List ℕ → RevId → Option ℕ
place_in None doc rev = None
place_in (Some sync) doc rev = mark_place sync.marks doc rev

-- the same of the marks that an entry has, if it replaces the sync function
abbrev pub place_by : Entry → List ℕ → RevId → Option ℕ
place_by e doc rev = place_in (as_sync e) doc rev

-- this place among the marks of the replacement of a sequence, where there is one, else the other
abbrev pub marked_or : Option ℕ → ℕ → Option Marked → Option Marked
marked_or None seq other = other
marked_or (Some mark) seq other = Some (record { sync = seq; mark = mark })

-- the last mark of a revision after its write, if there is one
abbrev pub marked_after : List Entry → Sequenced → Option Marked
marked_after [] written = None
marked_after (e ∷ older) written =
    if nat_le (length older + 1) written.seq then None
    else marked_or (place_by e written.write.doc written.write.rev) (length older + 1) (marked_after older written)

-- the mark at a place of the marks of a replaced sync function, where it is there
abbrev pub mark_in_place : Option SyncEntry → ℕ → Option Mark
mark_in_place None place = None
mark_in_place (Some sync) place = slice_get sync.marks place

-- whether this is the mark of this number, counted from 0, of the replacement of this sequence
abbrev pub is_mark : Option Marked → ℕ → ℕ → Bool
is_mark None sync number = false
is_mark (Some m) sync number = nat_eq m.sync sync && nat_eq m.mark number

-- the mark that stands there, if one does
abbrev pub mark_at : List Entry → Marked → Option Mark
mark_at [] marked = None
mark_at (e ∷ older) marked =
    if nat_eq marked.sync (length older + 1) then mark_in_place (as_sync e) marked.mark else mark_at older marked

-- the effects of the mark that stands there, those of the write where there is none
abbrev pub effects_by : List Entry → Option Marked → Write → Effects
effects_by es None w = recorded_effects w
effects_by es (Some marked) w = effects_or (mark_at es marked) (recorded_effects w)

-- the entries up to a place
abbrev pub entries_up_to : List Entry → ℕ → List Entry
entries_up_to [] place = []
entries_up_to (e ∷ older) place = if nat_le (length older + 1) place then e ∷ older else entries_up_to older place

-- the write of a sequence, if its entry is one
abbrev pub write_of : List Entry → ℕ → Option Write
write_of [] seq = None
write_of (e ∷ older) seq = if nat_eq seq (length older + 1) then as_write e else write_of older seq

-- the last mark of the revision of a write of this sequence, where there is a write and a mark after it
abbrev pub mark_of_write : List Entry → ℕ → Option Write → Option Marked
mark_of_write es seq None = None
mark_of_write es seq (Some w) = marked_after es (record { seq = seq; write = w })

-- the last mark up to a place of the revision that the entry of a sequence writes; none where the effects are those of the write,
-- and where the entry is no write
abbrev pub marked_up_to : List Entry → ℕ → ℕ → Option Marked
marked_up_to es seq place = mark_of_write (entries_up_to es place) seq (write_of es seq)
