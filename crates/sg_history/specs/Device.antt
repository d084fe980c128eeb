-- A device's copy, what a user is shown, and the run of a device that takes feeds.
use Rattle.std.specs.Prelude.{◌≤◌, ℕ, Bool, ◌&&◌, nat_le, List, [], ◌∷◌, length, take, Option, Some, None, if◌then◌else◌}
use Rattle.std.specs.Str.{bytes_eq}
use Rattle.sg_names.specs.declared.key.Key.{Key}
use Rattle.sg_names.specs.declared.rev_id.RevId.{RevId}
use Rattle.sg_history.specs.declared.entries.Entry.{Entry}
use Rattle.sg_history.specs.declared.row.Row.{Row}
use Rattle.sg_history.specs.declared.row.Options.{Options}
use Rattle.sg_history.specs.History.{past, Extends}
use Rattle.sg_history.specs.View.{Shown, view}
use Rattle.sg_history.specs.Feed.{feed, is_gone, is_deleted}

-- a document as a device has it
pub record Held : Type 0 where
  pub rev : RevId
  pub deleted : Bool

-- what a row makes of its document: nothing where it is gone
abbrev pub held_after : Row → Option Held
held_after row = if is_gone row.bits then None else Some (record { rev = row.rev; deleted = is_deleted row.bits })

-- a copy, a map from documents, after one row
abbrev pub apply : (List ℕ → Option Held) → Row → List ℕ → Option Held
apply copy row doc = if bytes_eq row.doc doc then held_after row else copy doc

-- a copy after these rows, in order
abbrev pub apply_all : (List ℕ → Option Held) → List Row → List ℕ → Option Held
apply_all copy [] = copy
apply_all copy (row ∷ rows) = apply_all (apply copy row) rows

-- a document as a device that took what is shown has it
abbrev pub held_of : Option Shown → Option Held
held_of None = None
held_of (Some shown) = Some (record { rev = shown.rev; deleted = shown.deleted })

-- what is shown to the user under the filter: each document that is, with its winner and deleted mark
abbrev pub shown_to : List Entry → List ℕ → Option (List (List ℕ)) → List ℕ → Option Held
shown_to es user channels doc = held_of (view es user channels doc)

-- a plain number as a key
abbrev pub plain : ℕ → Key
plain n = record { by = n; seq = n }

-- what a device takes at once: the first rows of its feed, at a front of a history
pub record DeviceTurn : Type 0 where
  pub history : List Entry
  pub front : ℕ
  pub taken : ℕ

-- what a device keeps: its copy, and the key after which it goes on
pub record DeviceState : Type 0 where
  pub copy : List ℕ → Option Held
  pub since : Key

-- a device begins with nothing
abbrev pub start : DeviceState
start = record { copy = λ doc. None; since = plain 0 }

-- the feed of a turn
abbrev pub rows_at : List ℕ → Options → DeviceTurn → Key → List Row
rows_at user options turn since = feed (past turn.history turn.front) user since options

-- the key of the last of these rows, or the old one where there is none
abbrev pub last_key : Key → List Row → Key
last_key since [] = since
last_key since (row ∷ rows) = last_key row.key rows

-- the key after which a device goes on: the front's where it took the whole feed, else the key of the last row that it took
abbrev pub since_after : DeviceTurn → Key → List Row → Key
since_after turn since rows =
    if nat_le (length rows) turn.taken then plain turn.front else last_key since (take turn.taken rows)

-- what a device keeps after it took rows of this feed
abbrev pub after_rows : DeviceTurn → DeviceState → List Row → DeviceState
after_rows turn before rows =
    record { copy = apply_all before.copy (take turn.taken rows); since = since_after turn before.since rows }

-- what a device keeps after a turn
abbrev pub device_after_turn : List ℕ → Options → DeviceTurn → DeviceState → DeviceState
device_after_turn user options turn before = after_rows turn before (rows_at user options turn before.since)

-- what a device keeps after these turns, of which the last stands first
abbrev pub state_after : List ℕ → Options → List DeviceTurn → DeviceState
state_after user options [] = start
state_after user options (turn ∷ earlier) = device_after_turn user options turn (state_after user options earlier)

-- a turn's history extends that of the turn before, and its front is no smaller
abbrev pub GoesOn : DeviceTurn → List DeviceTurn → Type 0
GoesOn turn [] = Unit {0}
GoesOn turn (before ∷ earlier) =
    Extends before.history turn.history × (before.front ≤ turn.front)

-- turns of a device, of which the last stands first: each front is a place of its history, and each turn continues the one before
abbrev pub IsRun : List DeviceTurn → Type 0
IsRun [] = Unit {0}
IsRun (turn ∷ earlier) = (turn.front ≤ length turn.history) × GoesOn turn earlier × IsRun earlier

-- the last turn takes the whole of its feed
abbrev pub TakesAll : List ℕ → Options → DeviceTurn → List DeviceTurn → Type 0
TakesAll user options last earlier =
    length (rows_at user options last (state_after user options earlier).since) ≤ last.taken

-- what counts of a document that is held: under active only nothing where it is deleted
abbrev pub live : Options → Option Held → Option Held
live options None = None
live options (Some held) = if options.active_only && held.deleted then None else Some held
