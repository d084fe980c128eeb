-- the rules of a write and of the marks of a replaced sync function, each named by the number of its field
use Rattle.std.specs.Prelude.{ℕ, ◌+◌, Bool, true, ◌&&◌, ◌||◌, not, nat_lt, List, [], ◌∷◌, length, Option, Some, None, if◌then◌else◌}
use Rattle.std.specs.Ordering.{is_lt}
use Rattle.sg_names.specs.RevId.{same_rev}
use Rattle.sg_history.specs.declared.entries.Entry.{Entry}
use Rattle.sg_history.specs.declared.entries.Mark.{Mark}
use Rattle.sg_history.specs.declared.entries.Write.{Write}
use Rattle.sg_history.specs.declared.fault.BadLine.{BadLine}
use Rattle.sg_history.specs.declared.fault.Why.{Why}
use Rattle.sg_history.specs.declared.fault.Why.TheVariants.{Rule}
use Rattle.sg_history.specs.History.{SyncEntry, as_sync, as_write}
use Rattle.sg_history.specs.Journal.{has_rev, falls_from, mark_cmp}

-- the first rule that a write breaks after older entries: its revision is new (3), its generations fall (4), it was judged before it was written (8), its winner was written (9)
abbrev pub broken_rule : List Entry → Write → Option ℕ
broken_rule older w =
    if has_rev older w.doc w.rev then Some 3
    else if not (falls_from w.rev.generation w.ancestors) then Some 4
    else if not (nat_lt w.at (length older + 1)) then Some 8
    else if not (same_rev w.winner w.rev || has_rev older w.doc w.winner) then Some 9
    else None

-- a broken rule as the reason of a refusal, where one is
abbrev pub as_fault : Option ℕ → Option Why
as_fault None = None
as_fault (Some rule) = Some (Rule rule)

-- whether a mark is above the one before it, if there is one
abbrev pub is_above_last : Option Mark → Mark → Bool
is_above_last None mark = true
is_above_last (Some before) mark = is_lt (mark_cmp before mark)

-- the field of the first of these marks that is not above the one before it, or whose revision was not written, where the first mark
-- is at this field
abbrev pub broken_mark : List Entry → ℕ → Option Mark → List Mark → Option ℕ
broken_mark older field before [] = None
broken_mark older field before (mark ∷ marks) =
    if is_above_last before mark && has_rev older mark.doc mark.rev then broken_mark older (field + 5) (Some mark) marks
    else Some field

-- the first rule that a replacement of the sync function breaks after older entries
abbrev pub sync_fault : List Entry → SyncEntry → Option ℕ
sync_fault older sync = broken_mark older 3 None sync.marks

-- the first rule that a write or a replacement of the sync function breaks after older entries, where there is one
abbrev pub fault_by : List Entry → Option Write → Option SyncEntry → Option Why
fault_by older (Some w) sync = as_fault (broken_rule older w)
fault_by older None (Some sync) = as_fault (sync_fault older sync)
fault_by older None None = None

-- what is wrong with an entry after older ones: the first rule that it breaks, if it has rules
abbrev pub rule_fault : List Entry → Entry → Option Why
rule_fault older e = fault_by older (as_write e) (as_sync e)

-- a line at this place that breaks a rule, or else what is said of the later ones
abbrev pub broken_or : ℕ → Option Why → Option BadLine → Option BadLine
broken_or place None later = later
broken_or place (Some why) later = Some (record { place = place; why = why })

-- the first line that breaks a rule, of the lines of these entries from this place on, after older entries
abbrev pub first_broken : ℕ → List Entry → List Entry → Option BadLine
first_broken place older [] = None
first_broken place older (e ∷ es) = broken_or place (rule_fault older e) (first_broken (place + 1) (e ∷ older) es)
