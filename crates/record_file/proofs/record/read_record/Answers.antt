use Rattle.std.proofs.Common.{subst}
use Rattle.std.proofs.lemmas.Result.{err_from_is_err_and}
use Rattle.sg_history.specs.Files.{IsFileOf}
use Rattle.record_file.specs.Lines.{lines_in, record_lines}
use Rattle.record_file.proofs.Records.{none_spelled, spelled_file}
use Rattle.record_file.proofs.record.read_record.Goals as goal

pub returns-in_err-read_file-clause-bad : goal.returns-in_err-read_file-clause-bad
returns-in_err-read_file-clause-bad c =
    let exit = err_from_is_err_and c.from_residual.result c.from_residual.ensures.1 in
    rw (exit.1, exit.2) (none_spelled c.in_err-read_file.field-0.0 c.args.bytes.now c.in_err-read_file.ensures.line)

pub returns-in-Some-clause-ok : goal.returns-in-Some-clause-ok
returns-in-Some-clause-ok c =
    rw c.in-Some.session-is
    (spelled_file c.args.bytes.now c.in-Some.session
    (subst (λ o. IsFileOf record_lines c.args.bytes.now (lines_in o)) c.in-Some.is c.in_ok-read_file.ensures.ok))
