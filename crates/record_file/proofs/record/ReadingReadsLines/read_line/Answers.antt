use Rattle.record_file.proofs.Records.{first_line, more_lines}
use Rattle.record_file.proofs.record.ReadingReadsLines.read_line.Goals as goal

pub returns-in-Some-clause-ok : goal.returns-in-Some-clause-ok
returns-in-Some-clause-ok c =
    more_lines c.args.self.now.session c.in-Some.session c.args.line.now c.in_ok-read_item.field-0 c.push.new.self c.in-Some.is c.in_ok-read_item.ensures.ok
    c.in_ok-push.ensures.ok

pub returns-clause-ok : goal.returns-clause-ok
returns-clause-ok c =
    first_line c.args.self.now.session c.args.line.now c.in_ok-user.field-0.user c.in_ok-user.field-0.version c.new.result c.in_default.is c.in_ok-user.ensures.ok
    c.in_ok-user.ensures.name c.new.ensures
