-- The first bad line of a text that is no script.
use Rattle.std.specs.Prelude.{◌≡◌, ℕ, true, List, [], ◌∷◌, codes, Option, Some, None, IsTrue, IsUtf8, if◌then◌else◌}
use Rattle.std.specs.Str.{bytes_eq}
use Rattle.sg_names.specs.declared.rev_id.RevId.{RevId}
use Rattle.sg_history.specs.declared.fault.BadLine.{BadLine}
use Rattle.sg_history.specs.declared.fault.Why.{Why}
use Rattle.sg_history.specs.Faults as journal
use Rattle.sg_history.specs.Faults.{Grammar, IsText}
use Rattle.sg_history.specs.FieldFaults.{IsFieldsFault}
use Rattle.sg_history.specs.Files.{LineGrammar, IsBadFile}
use Rattle.sg_history.specs.Pieces.{pieces}
use Rattle.principals.specs.declared.admin_line.AdminLine.{AdminLine}
use Rattle.principals.specs.Script.{IsScriptLine, may_be_parent, script_line, script_parent, title}

-- the grammars of fields: those of a journal's, and a revision's parent
pub data ScriptField : Type 0 where
  field : Grammar → ScriptField
  parent : ScriptField

-- a text in a grammar
abbrev pub IsScriptField : ScriptField → List ℕ → Type 0
IsScriptField (field grammar) text = IsText grammar text
IsScriptField parent text = IsUtf8 text × (v : Option RevId) × IsTrue (may_be_parent v) × (text ≡ script_parent v)

-- the fields that follow a kind of line; none where this is no kind
abbrev pub script_parts : List ℕ → Option (List ScriptField)
script_parts kind =
    if bytes_eq kind (codes "user") then Some (field journal.name ∷ field journal.channels ∷ field journal.names ∷ [])
    else if bytes_eq kind (codes "role") then Some (field journal.name ∷ field journal.channels ∷ [])
    else if bytes_eq kind (codes "dropuser") then Some (field journal.name ∷ [])
    else if bytes_eq kind (codes "droprole") then Some (field journal.name ∷ [])
    else if bytes_eq kind (codes "doc") then Some (field journal.document ∷ parent ∷ field journal.deleted ∷ field journal.body ∷ [])
    else None

-- what is wrong with the fields of a line: its kind, their number, or the first one outside its grammar
abbrev pub IsScriptFault : List (List ℕ) → Why → Type 0
IsScriptFault fields why = IsFieldsFault IsScriptField script_parts fields why

-- the lines of a script
abbrev pub script_lines : LineGrammar AdminLine
script_lines = record {
  IsTitle = λ line. line ≡ title;
  Says = λ older text l. IsScriptLine l × (text ≡ script_line l);
  Fails = λ older text why. IsScriptFault (pieces 9 text) why;
  may_end = λ older. true;
}

-- the text is no script, and this is its first bad line
abbrev pub IsBadScript : List ℕ → BadLine → Type 0
IsBadScript bytes bad = IsBadFile script_lines bytes bad
