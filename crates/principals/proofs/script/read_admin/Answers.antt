use Rattle.std.proofs.lemmas.Result.{err_from_is_err_and}
use Rattle.principals.proofs.Scripts.{none_spelled, spelled_file}
use Rattle.principals.proofs.script.read_admin.Goals as goal

pub returns-clause-ok : goal.returns-clause-ok
returns-clause-ok c = spelled_file c.args.bytes.now c.read_file.new.into.lines c.in_ok-read_file.ensures.ok

pub returns-in_err-read_file-clause-bad : goal.returns-in_err-read_file-clause-bad
returns-in_err-read_file-clause-bad c =
    let exit = err_from_is_err_and c.from_residual.result c.from_residual.ensures.1 in
    rw (exit.1, exit.2) (none_spelled c.in_err-read_file.field-0.0 c.args.bytes.now c.in_err-read_file.ensures.line)
