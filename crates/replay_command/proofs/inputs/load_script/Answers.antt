use Rattle.std.proofs.Common.{◌≡◌}
use Rattle.std.proofs.lemmas.Result.{err_from_is_err_and}
use Rattle.replay_command.proofs.Reading.{is_script, script_not_loaded, refused_script}
use Rattle.replay_command.specs.Inputs.{IsBadFileAt, IsGoodFile}
use Rattle.replay_command.proofs.Loading.{accepted, not_loaded, refused}
use Rattle.replay_command.proofs.Refusing.{script_refuses}
use Rattle.replay_command.proofs.inputs.load_script.Goals as goal

pub returns-in_err-bytes-clause-recorded : goal.returns-in_err-bytes-clause-recorded
returns-in_err-bytes-clause-recorded g c = λ bytes file.
    let exit = err_from_is_err_and c.from_residual.result c.from_residual.ensures.1 in
    rw (exit.1, exit.2) (script_not_loaded bytes c.in_err-bytes.field-0.0 (c.in_err-bytes.ensures.recorded bytes file))

pub returns-in-Ok-clause-recorded : goal.returns-in-Ok-clause-recorded
returns-in-Ok-clause-recorded g c = λ bytes file.
    let loaded = c.in_ok-bytes.ensures.recorded bytes file in
    let same : c.as_slice.result.now ≡ bytes = cc in
    is_script bytes c.as_slice.result.now c.in-Ok.lines same loaded.0 c.in-Ok.ensures.ok

pub returns-clause-recorded : goal.returns-clause-recorded
returns-clause-recorded g c = λ bytes file.
    let loaded = c.in_ok-bytes.ensures.recorded bytes file in
    let same : c.as_slice.result.now ≡ bytes = cc in
    refused_script bytes c.as_slice.result.now c.in-Err.fault c.refused.result same loaded.0 c.refused.ensures c.in-Err.ensures.line c.in-Err.ensures.bad

pub returns-in_err-bytes-clause-loads : goal.returns-in_err-bytes-clause-loads
returns-in_err-bytes-clause-loads g c =
    let exit = err_from_is_err_and c.from_residual.result c.from_residual.ensures.1 in
    let loads = c.in_err-bytes.ensures.loads in
    rw (exit.1, exit.2) (_, loads.1, not_loaded (g.F.Files.recorded c.args.files.now) IsGoodFile IsBadFileAt _ 2 c.args.path.now loads.0 c.in_err-bytes.field-0.0 loads.2 loads.3)

pub returns-in-Ok-clause-loads : goal.returns-in-Ok-clause-loads
returns-in-Ok-clause-loads g c =
    let loads = c.in_ok-bytes.ensures.loads in (
      _,
      loads.1,
      accepted (g.F.Files.recorded c.args.files.now) IsGoodFile IsBadFileAt 2 c.args.path.now loads.0 c.in_ok-bytes.bytes loads.2 loads.3 (λ bytes file. (c.in-Ok.lines, returns-in-Ok-clause-recorded g c bytes file)),
    )

pub returns-clause-loads : goal.returns-clause-loads
returns-clause-loads g c =
    let loads = c.in_ok-bytes.ensures.loads in
    (_, loads.1, refused (g.F.Files.recorded c.args.files.now) IsGoodFile IsBadFileAt 2 c.args.path.now loads.0 c.in_ok-bytes.bytes _ loads.2 loads.3 (script_refuses (g.F.Files.recorded c.args.files.now) c.args.path.now c.in-Err.fault _ c.refused.ensures (λ bytes file. returns-clause-recorded g c bytes file)))
