use Rattle.sg_history.specs.Pieces.{pieces}
use Rattle.sg_history.proofs.BadLines.{named_lines, no_journal, none_spelled, spelled_log}
use Rattle.sg_history.proofs.journal.take_journal.Goals as goal

pub returns-in-Ok-clause-ok : goal.returns-in-Ok-clause-ok
returns-in-Ok-clause-ok c =
    let lines = c.in-Ok.lines in
    let is = c.in-Ok.ensures in
    spelled_log c.log_of.result c.args.bytes lines c.in-Ok.limit is.limit is.ok (c.log_of.ensures.ok (pieces 10 lines) c.take_lines-end.ensures)
    c.log_of.ensures.limit

pub returns-in-Ok-clause-bad : goal.returns-in-Ok-clause-bad
returns-in-Ok-clause-bad c =
    let lines = c.in-Ok.lines in
    let is = c.in-Ok.ensures in
    none_spelled c.log_of.result c.args.bytes
    (named_lines c.log_of.result c.args.bytes lines c.in-Ok.limit is.limit is.ok
    (c.log_of.ensures.line (pieces 10 lines) c.take_lines-end.ensures))

pub returns-in-Ok-clause-line : goal.returns-in-Ok-clause-line
returns-in-Ok-clause-line c =
    let lines = c.in-Ok.lines in
    let is = c.in-Ok.ensures in
    named_lines c.log_of.result c.args.bytes lines c.in-Ok.limit is.limit is.ok
    (c.log_of.ensures.line (pieces 10 lines) c.take_lines-end.ensures)

pub returns-in-Err-clause-bad : goal.returns-in-Err-clause-bad
returns-in-Err-clause-bad c =
    rw c.bad.ensures (no_journal c.args.bytes (record { place = 1; why = c.in-Err.why }) c.in-Err.ensures.bad)

pub returns-in-Err-clause-line : goal.returns-in-Err-clause-line
returns-in-Err-clause-line c = rw c.bad.ensures c.in-Err.ensures.bad
