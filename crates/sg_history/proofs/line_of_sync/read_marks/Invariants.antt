use Rattle.std.proofs.Common.{◌≡◌, ◌++◌, length}
use Rattle.sg_history.specs.Journal.{AreMarks, marks_fields}
use Rattle.sg_history.proofs.line_of_sync.read_marks.Given as goal

abbrev pub invariant-loop-i : goal.invariant-loop-i
invariant-loop-i l = record {
  are : AreMarks l.marks;
  count : length l.marks ≡ l.i;
  read : l.fn.fields ≡ marks_fields l.marks ++ l.fields;
}
