use Rattle.std.proofs.Common.{◌+◌, arith, take}
use Rattle.sg_history.proofs.Appended.{kept_again, mark_put, on_err, taken}
use Rattle.sg_history.proofs.journal_text.put_marks.Goals as goal

pub returns-in_err-put_mark-clause-err : goal.returns-in_err-put_mark-clause-err
returns-in_err-put_mark-clause-err c =
    on_err c.from_residual.result c.args.out.now c.put_mark.new.out
    (kept_again c.args.out.now c.loop-mark.out c.put_mark.new.out _ c.loop-mark.invariant c.in_err-put_mark.ensures.err)

pub loop-mark-preserved : goal.loop-mark-preserved
loop-mark-preserved c =
    let marks = c.args.marks.now in
    let i = c.loop-mark.mark-index in
    let mark = c.mark-item.result in
    mark_put c.args.out.now c.loop-mark.out c.put_mark.new.out (take i marks) (take (i + 1) marks) mark c.loop-mark.invariant c.in_ok-put_mark.ensures.ok
    (taken marks i mark (omega arith) c.mark-item.is)
