use Rattle.std.proofs.Common.{◌≡◌, ◌++◌, take}
use Rattle.sg_history.specs.Journal.{lines_of}
use Rattle.sg_history.proofs.journal_text.put_lines.Given as goal

abbrev pub invariant-loop-entry : goal.invariant-loop-entry
invariant-loop-entry l = l.out ≡ l.initial.out ++ lines_of (take l.entry-index l.entries)
