use Rattle.std.proofs.Common.{[], length}
use Rattle.sg_history.specs.Files.{Begins}
use Rattle.sg_history.specs.Pieces.{pieces}
use Rattle.sg_history.proofs.line_reader.take_lines.Given as goal

abbrev pub invariant-parts : goal.invariant-parts
invariant-parts g l = Begins g.L.ReadsLines.grammar [] (pieces 10 l.fn.lines) (g.L.ReadsLines.items l.into) (pieces 10 l.rest)

abbrev pub decreases-parts : goal.decreases-parts
decreases-parts g l = length l.rest
