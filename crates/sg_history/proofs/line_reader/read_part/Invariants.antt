use Rattle.std.proofs.Common.{◌≤◌, ◌-◌, drop, length}
use Rattle.sg_history.specs.inner.Reading.{Reaches}
use Rattle.sg_history.proofs.line_reader.read_part.Given as goal

abbrev pub invariant-lines : goal.invariant-lines
invariant-lines g l = record {
  within : l.passed ≤ length l.text;
  read : Reaches g.L.ReadsLines.grammar (g.L.ReadsLines.items l.initial.into) l.text (g.L.ReadsLines.items l.into) (drop l.passed l.text);
}

abbrev pub decreases-lines : goal.decreases-lines
decreases-lines g l = length l.text - l.passed
