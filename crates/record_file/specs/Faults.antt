-- What is wrong with a line of a recorded session.
use Rattle.std.specs.Prelude.{◌≡◌, ℕ, List, [], ◌∷◌, codes, Option, Some, None, if◌then◌else◌}
use Rattle.std.specs.Str.{bytes_eq}
use Rattle.sg_names.specs.Grammar.{lacks}
use Rattle.sg_names.specs.Hex.{is_hex}
use Rattle.sg_history.specs.declared.fault.Why.{Why}
use Rattle.sg_history.specs.declared.fault.Why.TheVariants as reason
use Rattle.sg_history.specs.declared.fault.LineFault.{LineFault}
use Rattle.sg_history.specs.declared.fault.LineFault.TheVariants as line
use Rattle.sg_history.specs.Faults as journal
use Rattle.sg_history.specs.Faults.{Grammar, IsText}
use Rattle.sg_history.specs.FieldFaults.{IsFieldsFault}
use Rattle.repl_messages.specs.declared.request.Version.{Version}
use Rattle.record_file.specs.Record.{version_text}

-- the grammars of the second line's fields: those of a journal's, and a version
pub data RecordField : Type 0 where
  field : Grammar → RecordField
  version : RecordField

-- a text in a grammar
abbrev pub IsRecordField : RecordField → List ℕ → Type 0
IsRecordField (field grammar) text = IsText grammar text
IsRecordField version text = (v : Version) × (text ≡ version_text v)

-- the fields that follow the kind of the second line; none where this is no kind
abbrev pub record_parts : List ℕ → Option (List RecordField)
record_parts kind = if bytes_eq kind (codes "user") then Some (field journal.name ∷ version ∷ []) else None

-- what is wrong with the fields of the second line: its kind, their number, or the first one outside its grammar
abbrev pub IsOwnerFault : List (List ℕ) → Why → Type 0
IsOwnerFault fields why = IsFieldsFault IsRecordField record_parts fields why

-- a frame's line is at least one byte in lower-case hexadecimal
abbrev pub frame_fault : List ℕ → Option Why
frame_fault line = if is_hex line then None else Some (reason.Field 1)

-- what is wrong with a later line: it is one field, `idle` or a frame
abbrev pub item_fault : List ℕ → Option Why
item_fault line = if lacks 9 line then (if bytes_eq line (codes "idle") then None else frame_fault line) else Some reason.Fields

-- a refusal other than that memory ran out names this
abbrev pub NamesReason : Option Why → LineFault → Type 0
NamesReason fault (line.Bad why) = fault ≡ Some why
NamesReason fault line.Memory = Unit {0}
