use Rattle.std.proofs.Common.{◌≡◌, ◌++◌, take}
use Rattle.sg_history.specs.Journal.{marks_fields}
use Rattle.sg_history.specs.Line.{behind_tabs}
use Rattle.sg_history.proofs.journal_text.put_marks.Given as goal

abbrev pub invariant-loop-mark : goal.invariant-loop-mark
invariant-loop-mark l = l.out ≡ l.initial.out ++ behind_tabs (marks_fields (take l.mark-index l.marks))
