use Rattle.std.proofs.Common.{◌∙◌, arith, reverse, sym}
use Rattle.std.specs.Option.{option_copied}
use Rattle.sg_history.proofs.RuleLemmas.{mark_here, mark_next, mark_none}
use Rattle.sg_history.proofs.rules.broken_mark.Goals as goal

pub returns-then-not-is_right : goal.returns-then-not-is_right
returns-then-not-is_right c =
    sym (mark_here (reverse c.args.older.now) c.args.marks.now c.loop-i.i (option_copied c.loop-i.before) c.index-marks-i.result (omega arith) c.index-marks-i.is
    (sym c.is_right.ensures ∙ c.if-not-is_right.true))
    ∙ c.loop-i.invariant

pub loop-i-preserved : goal.loop-i-preserved
loop-i-preserved c =
    sym (mark_next (reverse c.args.older.now) c.args.marks.now c.loop-i.i (option_copied c.loop-i.before) c.index-marks-i.result (omega arith) c.index-marks-i.is
    (sym c.is_right.ensures ∙ c.if-not-is_right.false))
    ∙ c.loop-i.invariant

pub returns : goal.returns
returns c =
    sym (mark_none (reverse c.args.older.now) c.args.marks.now c.loop-i.i (option_copied c.loop-i.before) (omega arith)) ∙ c.loop-i.invariant
