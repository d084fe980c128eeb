use Rattle.std.proofs.Common.{◌⊎◌, [], ◌∷◌, inl, inr}
use Rattle.command_line.specs.Loads.{AreAcceptedLoads, IsStopped}
use Rattle.replay_command.specs.Inputs.{IsBadFileAt, IsGoodFile}
use Rattle.replay_command.proofs.Loading.{only}
use Rattle.gateway_app.specs.Serves.{EndsServing}
use Rattle.gateway_app.proofs.Serving.{counted_door, counted_read, served_file, unread}
use Rattle.gateway_app.proofs.serve_command.run_serve.Goals as goal

pub returns-in-Ok-clause-ends : goal.returns-in-Ok-clause-ends
returns-in-Ok-clause-ends g c = λ bytes has.
    served_file g.D.Line.Line.traced c.in-Ok.config bytes _ _ _ (c.in-Ok.ensures.recorded bytes has) c.serve_config-status.ensures.status c.serve_config-status.ensures.served

pub returns-in-Err-clause-ends : goal.returns-in-Err-clause-ends
returns-in-Err-clause-ends g c = λ bytes has. unread g.D.Line.Line.traced bytes _ c.in-Err.status (c.in-Err.ensures.recorded bytes has)

pub returns-in-Ok-clause-loads : goal.returns-in-Ok-clause-loads
returns-in-Ok-clause-loads g c =
    let recorded = g.F.Files.recorded c.args.files.now in
    let paths = c.args.path.now ∷ [] in
    only (λ d. AreAcceptedLoads recorded IsGoodFile IsBadFileAt 1 paths d) (λ d. (AreAcceptedLoads recorded IsGoodFile IsBadFileAt 1 paths d × EndsServing c.serve_config-status.result) ⊎ IsStopped recorded IsGoodFile IsBadFileAt 1 paths d c.serve_config-status.result) _ _
    (λ d are. inl (are, c.serve_config-status.ensures.status)) c.in-Ok.ensures.loads

pub returns-in-Err-clause-loads : goal.returns-in-Err-clause-loads
returns-in-Err-clause-loads g c =
    let recorded = g.F.Files.recorded c.args.files.now in
    let paths = c.args.path.now ∷ [] in
    only (λ d. IsStopped recorded IsGoodFile IsBadFileAt 1 paths d c.in-Err.status) (λ d. (AreAcceptedLoads recorded IsGoodFile IsBadFileAt 1 paths d × EndsServing c.in-Err.status) ⊎ IsStopped recorded IsGoodFile IsBadFileAt 1 paths d c.in-Err.status) _ _
    (λ d stopped. inr stopped) c.in-Err.ensures.loads

pub returns-in-Ok-clause-counted : goal.returns-in-Ok-clause-counted
returns-in-Ok-clause-counted g c = counted_door c.serve_config-status.result _ _ _ _ _ _ c.serve_config-status.ensures.counted

pub returns-in-Err-clause-counted : goal.returns-in-Err-clause-counted
returns-in-Err-clause-counted g c = counted_read c.in-Err.status _ _ _ c.in-Err.ensures.loaded
