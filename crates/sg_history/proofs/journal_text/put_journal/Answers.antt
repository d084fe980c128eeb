use Rattle.std.proofs.Common.{subst, List, OnOk, ◌≡◌, ◌++◌}
use Rattle.sg_history.specs.declared.entries.Entry.{Entry}
use Rattle.sg_history.specs.Journal.{header_of, lines_of}
use Rattle.sg_history.proofs.Appended.{both_put, both_kept}
use Rattle.sg_history.proofs.journal_text.put_journal.Goals as goal

pub returns-clause-ok : goal.returns-clause-ok
returns-clause-ok c =
    both_put c.put_lines.result c.args.out.now c.put_header.new.out c.put_lines.new.out (header_of c.args.log.now.limit) (lines_of c.args.log.now.entries.list) c.in_ok-put_header.ensures.ok
    (subst (λ (es : List Entry). OnOk c.put_lines.result (c.put_lines.new.out ≡ c.put_header.new.out ++ lines_of es)) c.as_slice.ensures c.put_lines.ensures.ok)

pub returns-clause-err : goal.returns-clause-err
returns-clause-err c =
    both_kept c.put_lines.result c.args.out.now c.put_header.new.out c.put_lines.new.out (header_of c.args.log.now.limit) c.in_ok-put_header.ensures.ok c.put_lines.ensures.err
