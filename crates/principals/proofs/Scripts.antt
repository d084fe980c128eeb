-- the lines of a script, and its first bad line
use Rattle.std.proofs.Common.{◌≡◌, true, ℕ, List, ◌∷◌, ◌++◌, refl, sym, ap, ◌∙◌}
use Rattle.sg_names.specs.Grammar.{lacks}
use Rattle.sg_history.specs.declared.fault.BadLine.{BadLine}
use Rattle.sg_history.specs.declared.fault.ReadLog.{ReadLog}
use Rattle.sg_history.specs.declared.fault.ReadLog.TheVariants as file
use Rattle.sg_history.specs.BadLine.{NamesLine}
use Rattle.sg_history.specs.Files.{IsFileOf, IsLawful}
use Rattle.sg_history.specs.Pieces.{pieces}
use Rattle.sg_history.specs.Refusal.{RefusesLog}
use Rattle.sg_history.proofs.FaultLemmas.{fault_one}
use Rattle.sg_history.proofs.FileLaws.{file_apart, file_one_bad, file_same}
use Rattle.sg_history.proofs.FileTexts.{file_are, file_said, file_text}
use Rattle.principals.specs.declared.admin_line.AdminLine.{AdminLine}
use Rattle.principals.specs.Script.{AreLines, IsScriptLine, SpellsScript, script_line, script_text_lines, title}
use Rattle.principals.specs.Faults.{IsBadScript, IsScriptField, script_parts, script_lines}
use Rattle.principals.proofs.Texts.{line_same, line_whole}
use Rattle.principals.proofs.FaultLemmas.{line_fine}

lawful : IsLawful script_lines
lawful = record {
  one = λ older text a b x y. line_same a b x.0 y.0 (sym x.1 ∙ y.1);
  one_fault = λ older text a b x y. fault_one IsScriptField script_parts (pieces 9 text) a b x y;
  apart = λ older text l why says fault. line_fine text l why says.0 says.1 fault;
}

lines_cons : (l : AdminLine) (ls : List AdminLine) → script_text_lines (l ∷ ls) ≡ script_line l ++ 10 ∷ script_text_lines ls
lines_cons l ls = refl

abbrev Are : List AdminLine → List AdminLine → Type 0
Are older ls = AreLines ls

next_of : (older : List AdminLine) (l : AdminLine) (ls : List AdminLine) → Are older (l ∷ ls)
    → (lacks 10 (script_line l) ≡ true) × (IsScriptLine l × (script_line l ≡ script_line l)) × Are (l ∷ older) ls
next_of older l ls are = (line_whole l are.0, (are.0, refl), are.1)

titled : (bytes : List ℕ) (ls : List AdminLine) → (first : List ℕ) × (first ≡ title) × (bytes ≡ first ++ 10 ∷ script_text_lines ls) → bytes ≡ title ++ 10 ∷ script_text_lines ls
titled bytes ls is = is.2 ∙ ap (λ (first : List ℕ). first ++ 10 ∷ script_text_lines ls) is.1

-- a script is the file of its lines
pub spelled_file : (bytes : List ℕ) (ls : List AdminLine) → IsFileOf script_lines bytes ls → SpellsScript bytes ls
spelled_file bytes ls is = (
  file_are script_lines script_line script_text_lines refl lines_cons Are (λ older. tt) (λ older text l more says later. (says.0, later)) (pieces 10 bytes) ls is,
  titled bytes ls (file_text script_lines script_line script_text_lines refl lines_cons (λ older text l says. says.1) bytes ls is),
)

pub file_spelled : (bytes : List ℕ) (ls : List AdminLine) → SpellsScript bytes ls → IsFileOf script_lines bytes ls
file_spelled bytes ls is = file_said script_lines script_line script_text_lines refl lines_cons Are next_of bytes title ls is.1 refl refl is.0 refl

-- a text is the script of one list of lines
pub script_same : (bytes : List ℕ) (xs ys : List AdminLine) → SpellsScript bytes xs → SpellsScript bytes ys → xs ≡ ys
script_same bytes xs ys h g = file_same script_lines lawful bytes xs ys (file_spelled bytes xs h) (file_spelled bytes ys g)

-- a text with a bad line is the script of none
pub script_apart : (bytes : List ℕ) (bad : BadLine) (ls : List AdminLine) → IsBadScript bytes bad → ¬ (SpellsScript bytes ls)
script_apart bytes bad ls is h = file_apart script_lines lawful bytes bad ls is (file_spelled bytes ls h)

-- a text has one first bad line
pub bad_one : (bytes : List ℕ) (a b : BadLine) → IsBadScript bytes a → IsBadScript bytes b → a ≡ b
bad_one bytes a b x y = file_one_bad script_lines lawful bytes a b x y

-- a refusal that names a bad line refuses a text that is no script
pub none_spelled : (e : ReadLog) (bytes : List ℕ) → NamesLine (IsBadScript bytes) e → RefusesLog e ((ls : List AdminLine) → ¬ (SpellsScript bytes ls))
none_spelled (file.Bad bad) bytes named = λ ls. script_apart bytes bad ls named
none_spelled file.Memory bytes named = tt
