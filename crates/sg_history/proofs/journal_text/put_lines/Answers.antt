use Rattle.sg_history.proofs.Appended.{kept_again, on_err}
use Rattle.sg_history.proofs.journal_text.put_lines.Goals as goal

pub returns-in_err-put_line-clause-err : goal.returns-in_err-put_line-clause-err
returns-in_err-put_line-clause-err c =
    on_err c.from_residual.result c.args.out.now c.put_line.new.out
    (kept_again c.args.out.now c.loop-entry.out c.put_line.new.out _ c.loop-entry.invariant c.in_err-put_line.ensures.err)
