use Rattle.sg_history.proofs.Titles.{head_other, header_is}
use Rattle.sg_history.proofs.header.read_header.Goals as goal

pub returns-in-Some-read_title-clause-limit : goal.returns-in-Some-read_title-clause-limit
returns-in-Some-read_title-clause-limit c = c.in-Some-read_title.ensures.some.0

pub returns-in-Some-read_title-clause-ok : goal.returns-in-Some-read_title-clause-ok
returns-in-Some-read_title-clause-ok c =
    header_is c.args.bytes.now c.in-Some.line.now c.in-Some.lines.now c.in-Some-read_title.limit c.in-Some.ensures.some.0 c.in-Some-read_title.ensures.some.1

pub returns-in-None-clause-bad : goal.returns-in-None-clause-bad
returns-in-None-clause-bad c = head_other c.args.bytes.now c.in-Some.line.now c.in-Some.lines.now c.in-Some.ensures.pieces c.in-None.ensures.none
