-- The lines of a recorded session behind the first, and the first bad line of a text that is none.
use Rattle.std.specs.Prelude.{◌≡◌, ℕ, Bool, true, false, List, [], ◌∷◌, map, IsTrue, IsUtf8, Option, Some, None}
use Rattle.sg_names.specs.Grammar.{is_name}
use Rattle.sg_history.specs.declared.fault.BadLine.{BadLine}
use Rattle.sg_history.specs.declared.fault.Why.{Why}
use Rattle.sg_history.specs.Files.{LineGrammar, IsBadFile}
use Rattle.sg_history.specs.Pieces.{pieces}
use Rattle.record_file.specs.declared.line.Line.{Line}
use Rattle.record_file.specs.declared.line.Line.TheVariants as kinds
use Rattle.record_file.specs.declared.record.Recorded.{Recorded}
use Rattle.record_file.specs.Record.{record_header, is_item, item_text, owner_text}
use Rattle.record_file.specs.Faults.{IsOwnerFault, item_fault}

-- the lines of a session, of which nothing may be read yet
abbrev pub lines_in : Option Recorded → List Line
lines_in None = []
lines_in (Some r) = kinds.Owner r.user r.version ∷ map (λ i. kinds.Item i) r.items

-- what a line says behind these: the first one whose session it is, each further one what a call of `recv` gave
abbrev pub SaysLine : List Line → List ℕ → Line → Type 0
SaysLine [] text (kinds.Owner user version) = (text ≡ owner_text user version) × IsTrue (is_name user) × IsUtf8 user
SaysLine [] text (kinds.Item i) = ⊥
SaysLine (l ∷ older) text (kinds.Owner user version) = ⊥
SaysLine (l ∷ older) text (kinds.Item i) = (text ≡ item_text i) × IsTrue (is_item i)

-- what is wrong with a line behind these
abbrev pub Fails : List Line → List ℕ → Why → Type 0
Fails [] text why = IsOwnerFault (pieces 9 text) why
Fails (l ∷ older) text why = item_fault text ≡ Some why

-- whose session it is was said
abbrev pub has_owner : List Line → Bool
has_owner [] = false
has_owner (l ∷ older) = true

-- the lines of a recorded session
abbrev pub record_lines : LineGrammar Line
record_lines = record { IsTitle = λ line. line ≡ record_header; Says = SaysLine; Fails = Fails; may_end = has_owner }

-- the text is no recorded session, and this is its first bad line
abbrev pub IsBadRecord : List ℕ → BadLine → Type 0
IsBadRecord bytes bad = IsBadFile record_lines bytes bad
