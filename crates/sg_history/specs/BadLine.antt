-- The first bad line of a text that is no journal.
use Rattle.std.specs.Prelude.{◌≡◌, ◌⊎◌, ℕ, true, List, Option, Some, IsTrue}
use Rattle.sg_history.specs.declared.entries.Entry.{Entry}
use Rattle.sg_history.specs.declared.fault.BadLine.{BadLine}
use Rattle.sg_history.specs.declared.fault.LineFault.{LineFault}
use Rattle.sg_history.specs.declared.fault.LineFault.TheVariants as line
use Rattle.sg_history.specs.declared.fault.ReadLog.{ReadLog}
use Rattle.sg_history.specs.declared.fault.ReadLog.TheVariants as file
use Rattle.sg_history.specs.declared.fault.Why.{Why}
use Rattle.sg_history.specs.Faults.{IsFault}
use Rattle.sg_history.specs.Files.{LineGrammar, IsBadFile}
use Rattle.sg_history.specs.Journal.{IsNext, is_limit, line_of, title_of}
use Rattle.sg_history.specs.Line.{IsLine}
use Rattle.sg_history.specs.Pieces.{pieces}
use Rattle.sg_history.specs.Rules.{rule_fault}

-- the line is that of an entry that breaks a rule after older ones, and this is the first
abbrev pub BreaksRule : List Entry → List ℕ → Why → Type 0
BreaksRule older text why = (e : Entry) × IsLine text e × (rule_fault older e ≡ Some why)

-- what is wrong with a line after older entries: its kind, the number of its fields or the first bad field; else the first rule that it breaks
abbrev pub IsLineFault : List Entry → List ℕ → Why → Type 0
IsLineFault older text why = IsFault (pieces 9 text) why ⊎ BreaksRule older text why

-- the first line of a journal, without its line feed
abbrev pub IsTitle : List ℕ → Type 0
IsTitle line = (limit : Option ℕ) × IsTrue (is_limit limit) × (line ≡ title_of limit)

-- the lines of a journal: each is that of an entry that may be the next after those before it
abbrev pub journal_lines : LineGrammar Entry
journal_lines = record {
  IsTitle = IsTitle;
  Says = λ older text e. IsNext older e × (text ≡ line_of e);
  Fails = IsLineFault;
  may_end = λ older. true;
}

-- the text is no journal, and this is its first bad line
abbrev pub IsBadJournal : List ℕ → BadLine → Type 0
IsBadJournal bytes bad = IsBadFile journal_lines bytes bad

-- a refusal of a file other than that memory ran out names such a line
abbrev pub NamesLine : (BadLine → Type 0) → ReadLog → Type 0
NamesLine P (file.Bad bad) = P bad
NamesLine P file.Memory = Unit {0}

-- a refusal of the line at this place, as one of a file
abbrev pub refusal_at : ℕ → LineFault → ReadLog
refusal_at place (line.Bad why) = file.Bad (record { place = place; why = why })
refusal_at place line.Memory = file.Memory
