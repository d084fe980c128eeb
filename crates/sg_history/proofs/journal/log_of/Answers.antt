use Rattle.std.proofs.Common.{◌≡◌, [], false, Some, None}
use Rattle.sg_history.specs.inner.Reading.{ran_out}
use Rattle.sg_history.specs.Rules.{first_broken}
use Rattle.sg_history.proofs.BadLines.{found_line, stopped_line, said_lines}
use Rattle.sg_history.proofs.journal.log_of.Goals as goal

pub returns-in-Some-clause-line : goal.returns-in-Some-clause-line
returns-in-Some-clause-line c =
    let es = c.args.entries.list in
    let found : first_broken 2 [] es ≡ Some c.in-Some.line = cc (c.as_slice.ensures, c.in_ok-line.ensures, c.in-Some.is) in
    let run : ran_out c.args.end ≡ false = cc (c.is_out.ensures, c.if-is_out.false) in
    λ lines ends. found_line lines es c.args.end c.in-Some.line ends run found

pub returns-in-Err-clause-line : goal.returns-in-Err-clause-line
returns-in-Err-clause-line c =
    let es = c.args.entries.list in
    let none : first_broken 2 [] es ≡ None = cc (c.as_slice.ensures, c.in_ok-line.ensures, c.in_default.is) in
    λ lines ends. rw c.refuse.ensures (stopped_line lines es c.args.end c.next_place-next.result c.in-Err.fault c.in-Err.is ends none c.next_place-next.ensures)

pub returns-in-Ok-clause-ok : goal.returns-in-Ok-clause-ok
returns-in-Ok-clause-ok c =
    let es = c.args.entries.list in
    let none : first_broken 2 [] es ≡ None = cc (c.as_slice.ensures, c.in_ok-line.ensures, c.in_default.is) in
    λ lines ends. said_lines lines es c.args.end _ c.in-Ok.is ends none
