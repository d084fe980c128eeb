-- What a document is at a place of a history, given the entries up to it, the newest first.
use Rattle.std.specs.Prelude.{ℕ, ◌+◌, Bool, ◌&&◌, nat_le, List, [], ◌∷◌, length, Option, Some, None, if◌then◌else◌}
use Rattle.std.specs.Str.{bytes_eq}
use Rattle.sg_names.specs.declared.rev_id.RevId.{RevId}
use Rattle.sg_names.specs.declared.grants.Grant.{Grant}
use Rattle.sg_names.specs.declared.role_grants.RoleGrant.{RoleGrant}
use Rattle.sg_names.specs.RevId.{same_rev}
use Rattle.sg_history.specs.declared.entries.Entry.{Entry}
use Rattle.sg_history.specs.declared.entries.Mark.{Mark}
use Rattle.sg_history.specs.declared.entries.Write.{Write}
use Rattle.sg_history.specs.History.{SyncEntry, as_sync, write_to}

-- a write, with its sequence
pub record Sequenced : Type 0 where
  pub seq : ℕ
  pub write : Write

-- a write with its sequence before older ones, where there is one
abbrev pub sequenced_before : Option Write → ℕ → List Sequenced → List Sequenced
sequenced_before None seq older = older
sequenced_before (Some w) seq older = record { seq = seq; write = w } ∷ older

-- the writes of a document, each with its sequence, the last one first
abbrev pub writes_to : List Entry → List ℕ → List Sequenced
writes_to [] doc = []
writes_to (e ∷ older) doc = sequenced_before (write_to e doc) (length older + 1) (writes_to older doc)

-- the first choice where there is one, else the other
abbrev pub sequenced_or : Option Write → ℕ → Option Sequenced → Option Sequenced
sequenced_or None seq other = other
sequenced_or (Some w) seq other = Some (record { seq = seq; write = w })

-- the last write of a document
abbrev pub last_write : List Entry → List ℕ → Option Sequenced
last_write [] doc = None
last_write (e ∷ older) doc = sequenced_or (write_to e doc) (length older + 1) (last_write older doc)

-- a write where it has this revision, else the other
abbrev pub with_rev_or : Option Write → ℕ → RevId → Option Sequenced → Option Sequenced
with_rev_or None seq rev other = other
with_rev_or (Some w) seq rev other = if same_rev w.rev rev then Some (record { seq = seq; write = w }) else other

-- the write of a document that has this revision
abbrev pub write_of_rev : List Entry → List ℕ → RevId → Option Sequenced
write_of_rev [] doc rev = None
write_of_rev (e ∷ older) doc rev = with_rev_or (write_to e doc) (length older + 1) rev (write_of_rev older doc rev)

-- a write without its sequence
abbrev pub write_alone : Option Sequenced → Option Write
write_alone None = None
write_alone (Some written) = Some written.write

-- a write where it has this revision, else the other, both without their sequences
abbrev pub rev_or : Option Write → RevId → Option Write → Option Write
rev_or None rev other = other
rev_or (Some w) rev other = if same_rev w.rev rev then Some w else other

-- what the sync function made of a revision: the channels that it is in, the channels that it grants, and the roles that it gives
pub record Effects : Type 0 where
  pub channels : List (List ℕ)
  pub grants : List Grant
  pub roles : List RoleGrant

-- what a write recorded of its revision's effects
abbrev pub recorded_effects : Write → Effects
recorded_effects w = record { channels = w.channels; grants = w.grants; roles = w.roles }

-- what a mark says of its revision's effects
abbrev pub marked_effects : Mark → Effects
marked_effects mark = record { channels = mark.channels; grants = mark.grants; roles = mark.roles }

-- whether a mark is of this revision of this document
abbrev pub marks_rev : Mark → List ℕ → RevId → Bool
marks_rev mark doc rev = bytes_eq mark.doc doc && same_rev mark.rev rev

-- the first of these marks that is of a revision of a document, if one is
abbrev pub mark_of : List Mark → List ℕ → RevId → Option Mark
mark_of [] doc rev = None
mark_of (mark ∷ marks) doc rev = if marks_rev mark doc rev then Some mark else mark_of marks doc rev

-- the mark of a revision that a replaced sync function has, where there is one
abbrev pub mark_in : Option SyncEntry → List ℕ → RevId → Option Mark
mark_in None doc rev = None
mark_in (Some sync) doc rev = mark_of sync.marks doc rev

-- the mark of a revision that an entry has, if it replaces the sync function and has one
abbrev pub mark_by : Entry → List ℕ → RevId → Option Mark
mark_by e doc rev = mark_in (as_sync e) doc rev

-- the effects of a mark where there is one, else the others
abbrev pub effects_or : Option Mark → Effects → Effects
effects_or None others = others
effects_or (Some mark) others = marked_effects mark

-- the effects of a revision after these entries: those of the last mark of it after its write, or else those that its write
-- recorded
abbrev pub effects_of : List Entry → Sequenced → Effects
effects_of [] written = recorded_effects written.write
effects_of (e ∷ older) written =
    if nat_le (length older + 1) written.seq then recorded_effects written.write
    else effects_or (mark_by e written.write.doc written.write.rev) (effects_of older written)

-- a document as it is: the sequence of its last write, with the winner's revision, deleted mark and effects
pub record Current : Type 0 where
  pub seq : ℕ
  pub rev : RevId
  pub deleted : Bool
  pub effects : Effects

-- a write where there is one, else the other
abbrev pub write_or : Option Sequenced → Sequenced → Sequenced
write_or None other = other
write_or (Some written) other = written

-- the write of the winner that a document's last write names; in a log that names one which was never written, that last write
abbrev pub winning_of : List Entry → List ℕ → Sequenced → Sequenced
winning_of es doc last = write_or (write_of_rev es doc last.write.winner) last

-- the sequence of the last write, with the revision and deleted mark of the winner's write, and these effects
abbrev pub current_of : ℕ → Write → Effects → Current
current_of seq w effects = record { seq = seq; rev = w.rev; deleted = w.deleted; effects = effects }

-- the current state by the last write's sequence and the winning write
abbrev pub current_by : List Entry → ℕ → Sequenced → Current
current_by es seq winning = current_of seq winning.write (effects_of es winning)

-- the current state where there is a last write
abbrev pub current_after : List Entry → List ℕ → Option Sequenced → Option Current
current_after es doc None = None
current_after es doc (Some last) = Some (current_by es last.seq (winning_of es doc last))

-- the current state of a document: none where nothing was written; else its last write's sequence with the
-- winner that this write names and the winner's effects
abbrev pub current : List Entry → List ℕ → Option Current
current es doc = current_after es doc (last_write es doc)

-- a current state with the effects of a mark, where there is one
abbrev pub marked_state : Option Mark → Current → Current
marked_state None c = c
marked_state (Some mark) c = record { seq = c.seq; rev = c.rev; deleted = c.deleted; effects = marked_effects mark }

-- a current state, where there is one, with the effects that an entry's mark of its revision gives
abbrev pub marked_by : Entry → List ℕ → Option Current → Option Current
marked_by e doc None = None
marked_by e doc (Some c) = Some (marked_state (mark_by e doc c.rev) c)
