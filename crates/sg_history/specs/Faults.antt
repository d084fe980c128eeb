-- What is wrong with a line: its kind, the number of its fields, or the first field outside its grammar.
use Rattle.std.specs.Prelude.{◌≡◌, ℕ, zero, suc, ◌+◌, ◌-◌, ◌/◌, ◌<◌, ◌^◌, Bool, List, [], ◌∷◌, length, codes, decimal, Option, Some, None, IsTrue, IsUtf8, if◌then◌else◌}
use Rattle.std.specs.Str.{bytes_eq}
use Rattle.sg_names.specs.declared.rev_id.RevId.{RevId}
use Rattle.sg_names.specs.declared.grants.Grant.{Grant}
use Rattle.sg_names.specs.declared.role_grants.RoleGrant.{RoleGrant}
use Rattle.sg_names.specs.Grammar.{is_doc_id, is_name}
use Rattle.sg_names.specs.RevId.{rev_text, is_rev}
use Rattle.sg_names.specs.Revs.{revs_text, is_revs}
use Rattle.sg_names.specs.Channels.{channels_text, is_channels}
use Rattle.sg_names.specs.Names.{names_text, is_names}
use Rattle.sg_names.specs.Grants.{grants_text, is_grants}
use Rattle.sg_names.specs.RoleGrants.{role_grants_text, is_role_grants}
use Rattle.sg_names.specs.Hex.{hex_text, is_hex}
use Rattle.sg_history.specs.declared.fault.Why.{Why}
use Rattle.sg_history.specs.declared.fault.Why.TheVariants as reason
use Rattle.sg_history.specs.declared.fault.LineFault.{LineFault}
use Rattle.sg_history.specs.declared.fault.LineFault.TheVariants as line
use Rattle.sg_history.specs.FieldFaults.{FitAll, IsFirstUnfit, IsFieldsFault}
use Rattle.sg_history.specs.Journal.{deleted_text, by_text, is_by}
use Rattle.sg_history.specs.SyncText.{is_sync_text}

-- the grammars of fields
pub data Grammar : Type 0 where
  document : Grammar
  revision : Grammar
  revisions : Grammar
  deleted : Grammar
  body : Grammar
  writer : Grammar
  number : Grammar
  name : Grammar
  names : Grammar
  channels : Grammar
  grants : Grammar
  role_grants : Grammar
  sync_text : Grammar

-- a text in a grammar: it is UTF-8 where it is no number, and some value's text
abbrev pub IsText : Grammar → List ℕ → Type 0
IsText document text = IsUtf8 text × IsTrue (is_doc_id text)
IsText revision text = IsUtf8 text × (v : RevId) × IsTrue (is_rev v) × (text ≡ rev_text v)
IsText revisions text = IsUtf8 text × (v : List RevId) × IsTrue (is_revs v) × (text ≡ revs_text v)
IsText deleted text = (v : Bool) × (text ≡ deleted_text v)
IsText body text = IsTrue (is_hex text)
IsText writer text = IsUtf8 text × (v : Option (List ℕ)) × IsTrue (is_by v) × (text ≡ by_text v)
IsText number text = (v : ℕ) × (v < 2 ^ 64) × (text ≡ decimal v)
IsText name text = IsUtf8 text × IsTrue (is_name text)
IsText names text = IsUtf8 text × (v : List (List ℕ)) × IsTrue (is_names v) × (text ≡ names_text v)
IsText channels text = IsUtf8 text × (v : List (List ℕ)) × IsTrue (is_channels v) × (text ≡ channels_text v)
IsText grants text = IsUtf8 text × (v : List Grant) × IsTrue (is_grants v) × (text ≡ grants_text v)
IsText role_grants text = IsUtf8 text × (v : List RoleGrant) × IsTrue (is_role_grants v) × (text ≡ role_grants_text v)
IsText sync_text text = (v : List ℕ) × IsTrue (is_sync_text v) × IsUtf8 v × (text ≡ hex_text v)

-- the fields of a write's line after its kind
abbrev pub write_grammars : List Grammar
write_grammars =
    document ∷ revision ∷ revisions ∷ deleted ∷ body ∷ writer ∷ number ∷ revision ∷ channels ∷ grants ∷ role_grants ∷ []

-- the fields of the line of a put of a user after its kind
abbrev pub user_grammars : List Grammar
user_grammars = name ∷ channels ∷ names ∷ []

-- the fields of the line of a put of a role after its kind
abbrev pub role_grammars : List Grammar
role_grammars = name ∷ channels ∷ []

-- the fields of the line of a drop of a user or a role after its kind
abbrev pub drop_grammars : List Grammar
drop_grammars = name ∷ []

-- the fields of a mark
abbrev pub mark_grammars : List Grammar
mark_grammars = document ∷ revision ∷ channels ∷ grants ∷ role_grants ∷ []

-- the fields of so many marks
abbrev pub marks_grammars : ℕ → List Grammar
marks_grammars zero = []
marks_grammars (suc count) = document ∷ revision ∷ channels ∷ grants ∷ role_grants ∷ marks_grammars count

-- the fields of the line of a replacement of the sync function after its kind, with so many marks
abbrev pub sync_grammars : ℕ → List Grammar
sync_grammars count = sync_text ∷ marks_grammars count

-- the fields that follow a kind of line, of a line of so many fields, where that is the number for the kind; none where this is no
-- kind. Marks have five fields each, behind two.
abbrev pub grammars_of : ℕ → List ℕ → Option (List Grammar)
grammars_of count kind =
    if bytes_eq kind (codes "W") then Some write_grammars
    else if bytes_eq kind (codes "U") then Some user_grammars
    else if bytes_eq kind (codes "R") then Some role_grammars
    else if bytes_eq kind (codes "DU") then Some drop_grammars
    else if bytes_eq kind (codes "DR") then Some drop_grammars
    else if bytes_eq kind (codes "S") then Some (sync_grammars ((count - 2) / 5))
    else if bytes_eq kind (codes "X") then Some []
    else None

-- each text is in the grammar at its place, and there are as many
abbrev pub AreTexts : List Grammar → List (List ℕ) → Type 0
AreTexts grammars texts = FitAll IsText grammars texts

-- this many texts are in their grammars, and the next one is not in its own
abbrev pub IsFirstBad : List Grammar → List (List ℕ) → ℕ → Type 0
IsFirstBad grammars texts n = IsFirstUnfit IsText grammars texts n

-- what is wrong with the fields of a journal's line
abbrev pub IsFault : List (List ℕ) → Why → Type 0
IsFault fields why = IsFieldsFault IsText (grammars_of (length fields)) fields why

-- a refusal other than that memory ran out has such a reason
abbrev pub HasReason : (Why → Type 0) → LineFault → Type 0
HasReason P (line.Bad why) = P why
HasReason P line.Memory = Unit {0}

-- a refusal other than that memory ran out names this field, whose text is outside its grammar
abbrev pub IsBadField : ℕ → Grammar → List ℕ → LineFault → Type 0
IsBadField n grammar text (line.Bad why) = (why ≡ reason.Field n) × ¬ (IsText grammar text)
IsBadField n grammar text line.Memory = Unit {0}

-- a refusal other than that memory ran out names the first of these texts that is outside its grammar, where the first text is the field of this number
abbrev pub IsBadTextAmong : ℕ → List Grammar → List (List ℕ) → LineFault → Type 0
IsBadTextAmong n grammars texts e = HasReason (λ why. (i : ℕ) × (why ≡ reason.Field (n + i)) × IsFirstBad grammars texts i) e
