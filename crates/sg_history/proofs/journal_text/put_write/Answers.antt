use Rattle.sg_history.proofs.Appended.{both_kept, kept_again, on_err}
use Rattle.sg_history.proofs.journal_text.put_write.Goals as goal

pub returns-in_err-put_body-clause-err : goal.returns-in_err-put_body-clause-err
returns-in_err-put_body-clause-err c =
    on_err c.from_residual-in_err-put_body.result c.args.out.now c.put_body.new.out
    (kept_again c.args.out.now c.put_revision.new.out c.put_body.new.out _ c.in_ok-put_revision.ensures.ok c.in_err-put_body.ensures.err)

pub returns-in_err-put_judged-clause-err : goal.returns-in_err-put_judged-clause-err
returns-in_err-put_judged-clause-err c =
    on_err c.from_residual-in_err-put_judged.result c.args.out.now c.put_judged.new.out
    (kept_again c.args.out.now c.put_revision.new.out c.put_judged.new.out _ c.in_ok-put_revision.ensures.ok
    (kept_again c.put_revision.new.out c.put_body.new.out c.put_judged.new.out _ c.in_ok-put_body.ensures.ok c.in_err-put_judged.ensures.err))

pub returns-clause-err : goal.returns-clause-err
returns-clause-err c =
    both_kept c.put_effects.result c.args.out.now c.put_revision.new.out c.put_effects.new.out _ c.in_ok-put_revision.ensures.ok
    (both_kept c.put_effects.result c.put_revision.new.out c.put_body.new.out c.put_effects.new.out _ c.in_ok-put_body.ensures.ok
    (both_kept c.put_effects.result c.put_body.new.out c.put_judged.new.out c.put_effects.new.out _ c.in_ok-put_judged.ensures.ok c.put_effects.ensures.err))
