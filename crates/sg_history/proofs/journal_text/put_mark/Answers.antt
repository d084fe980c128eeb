use Rattle.sg_history.proofs.Appended.{both_kept, mark_whole}
use Rattle.sg_history.proofs.journal_text.put_mark.Goals as goal

pub returns-clause-ok : goal.returns-clause-ok
returns-clause-ok c =
    mark_whole c.put_effects.result c.args.out.now c.put_marked.new.out c.put_effects.new.out c.args.mark.now c.in_ok-put_marked.ensures.ok c.put_effects.ensures.ok

pub returns-clause-err : goal.returns-clause-err
returns-clause-err c = both_kept c.put_effects.result c.args.out.now c.put_marked.new.out c.put_effects.new.out _ c.in_ok-put_marked.ensures.ok c.put_effects.ensures.err
