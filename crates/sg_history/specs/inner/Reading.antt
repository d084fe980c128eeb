-- reading a file line by line. Only proofs need this.
use Rattle.std.specs.Prelude.{ℕ, Bool, true, false, List, [], reverse, MatchResult, Result, Ok, Err}
use Rattle.sg_history.specs.declared.entries.Entry.{Entry}
use Rattle.sg_history.specs.declared.fault.LineFault.{LineFault}
use Rattle.sg_history.specs.declared.fault.LineFault.TheVariants as line
use Rattle.sg_history.specs.declared.fault.Why.{Why}
use Rattle.sg_history.specs.BadLine.{IsTitle}
use Rattle.sg_history.specs.Faults.{HasReason, IsFault}
use Rattle.sg_history.specs.Files.{LineGrammar, AreSaid, Begins, Stops}
use Rattle.sg_history.specs.Line.{IsLine}
use Rattle.sg_history.specs.Pieces.{pieces}

-- the first lines say these items, and the one behind them has this fault
abbrev pub StopsBehind : {X : Type 0} → LineGrammar X → List (List ℕ) → List X → Why → Type 0
StopsBehind g lines items why = (left : List (List ℕ)) × Begins g [] lines items left × Stops g (reverse items) left why

-- the lines say these items up to their end, or to a line that is refused
abbrev pub EndsAs : {X T : Type 0} → LineGrammar X → List (List ℕ) → List X → Result T LineFault → Type 0
EndsAs g lines items end = MatchResult end (λ _. AreSaid g lines items) (HasReason (StopsBehind g lines items))

-- memory ran out
abbrev pub ran_out : {T : Type 0} → Result T LineFault → Bool
ran_out (Ok x) = false
ran_out (Err (line.Bad why)) = false
ran_out (Err line.Memory) = true

-- wherever these items were said before this text, those are said before what is left of it
abbrev pub Reaches : {X : Type 0} → LineGrammar X → List X → List ℕ → List X → List ℕ → Type 0
Reaches g before text after left =
    (lines : List (List ℕ)) → Begins g [] lines before (pieces 10 text) → Begins g [] lines after (pieces 10 left)

-- wherever these items were said before this text, those are said before a line with this fault
abbrev pub FailsIn : {X : Type 0} → LineGrammar X → List X → List ℕ → List X → Why → Type 0
FailsIn g before text after why =
    (lines : List (List ℕ)) → Begins g [] lines before (pieces 10 text) → StopsBehind g lines after why

-- the lines of a journal as they are read, whatever rules they break
abbrev pub journal_texts : LineGrammar Entry
journal_texts = record {
  IsTitle = IsTitle;
  Says = λ older text e. IsLine text e;
  Fails = λ older text why. IsFault (pieces 9 text) why;
  may_end = λ older. true;
}
