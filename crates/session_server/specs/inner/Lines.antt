-- The lines that snapshots stand for.
use Rattle.std.specs.Prelude.{◌≡◌, List, [], ◌∷◌, Option, Some}
use Rattle.sg_outside.specs.Wire.{LinkRecord, no_line}
use Rattle.session_server.specs.declared.server.Lines.{Lines, fold-Lines}
use Rattle.session_server.specs.declared.server.Lines.TheOpen.{Lines-F}

module _ {L : Type 0} where
  -- the last line, before the others
  abbrev pub lines_step : Lines-F L (List L) → List L
  lines_step Lines-F.Nothing = []
  lines_step (Lines-F.Then before line) = line.value ∷ before.value

  -- the lines, the newest first
  abbrev pub lines_in : Lines L → List L
  lines_in = fold-Lines L (List L) lines_step

  -- each of the lines had recorded nothing
  abbrev pub AreFresh : (L → Option LinkRecord) → List L → Type 0
  AreFresh recorded [] = Unit {0}
  AreFresh recorded (line ∷ lines) = (recorded line ≡ Some no_line) × AreFresh recorded lines
