use Rattle.std.proofs.Common.{reverse, take}
use Rattle.feed_rows.specs.PassAt.{AmidAt}
use Rattle.feed_rows.proofs.pass.take_marks.Given as goal

-- the pass knows what holds amid the marks so far
abbrev pub invariant-loop-mark : goal.invariant-loop-mark
invariant-loop-mark l = AmidAt (take l.mark-index l.marks) l.entry (reverse l.older) l.viewer l.pass
