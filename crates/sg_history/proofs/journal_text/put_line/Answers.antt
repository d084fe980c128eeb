use Rattle.sg_history.proofs.Appended.{err_behind}
use Rattle.sg_history.proofs.journal_text.put_line.Goals as goal

pub returns-clause-err : goal.returns-clause-err
returns-clause-err c = err_behind c.push.result c.args.out.now c.put_entry.new.out c.push.new.self _ c.in_ok-put_entry.ensures.ok c.push.ensures.err
