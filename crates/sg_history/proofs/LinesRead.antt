-- what a line is read as
use Rattle.std.proofs.Common.{List, ℕ}
use Rattle.std.specs.Prelude.{Result, Ok, Err, IfOk, IfErr}
use Rattle.sg_history.specs.declared.entries.Entry.{Entry}
use Rattle.sg_history.specs.declared.fault.LineFault.{LineFault}
use Rattle.sg_history.specs.declared.fault.LineFault.TheVariants as line
use Rattle.sg_history.specs.Faults.{HasReason, IsFault}
use Rattle.sg_history.specs.Line.{AreRead, IsLine, NoLine}
use Rattle.sg_history.specs.Pieces.{pieces}
use Rattle.sg_history.proofs.FaultLemmas.{no_entry}
use Rattle.sg_history.proofs.LineTexts.{line_is, no_line}
use Rattle.std.proofs.Common.{refl}

pub read_as : (r : Result Entry LineFault) (text : List ℕ) → IfOk r (λ e. AreRead (pieces 9 text) e) → IfOk r (λ e. IsLine text e)
read_as (Ok e) text read = (read.0, line_is text e read.1)
read_as (Err e) text read = tt

pub read_none : (r : Result Entry LineFault) (text : List ℕ) → IfErr r (HasReason (IsFault (pieces 9 text))) → IfErr r (HasReason (λ why. NoLine text))
read_none (Ok e) text fault = tt
read_none (Err (line.Bad why)) text fault = no_line text (pieces 9 text) refl (no_entry (pieces 9 text) why fault)
read_none (Err line.Memory) text fault = tt
