use Rattle.replay.specs.Replay.{IsReplay}
use Rattle.replay_command.specs.Loading.{inputs_of}
use Rattle.std.proofs.Common.{inl, inr}
use Rattle.command_line.specs.Loads.{AreAcceptedLoads, EndsLoads, IsStopped}
use Rattle.command_line.specs.ReplayRequest.{replay_of}
use Rattle.replay_command.specs.Inputs.{IsBadFileAt, IsGoodFile, paths_of}
use Rattle.replay_command.proofs.Endings.{not_read, printed_status, replayed}
use Rattle.replay_command.proofs.Loading.{only}
use Rattle.replay_command.proofs.command.run_replay.Goals as goal

pub returns-in-Ok-clause-ends : goal.returns-in-Ok-clause-ends
returns-in-Ok-clause-ends g c = λ contents have.
    replayed IsReplay c.print_replay.result contents (inputs_of c.in-Ok.inputs) _ _ _ _ (c.in-Ok.ensures.recorded contents have) c.print_replay.ensures

pub returns-in-Err-clause-ends : goal.returns-in-Err-clause-ends
returns-in-Err-clause-ends g c = λ contents have.
    not_read IsReplay c.in-Err.status contents _ _ (c.in-Err.ensures.recorded contents have)

pub returns-in-Ok-clause-loads : goal.returns-in-Ok-clause-loads
returns-in-Ok-clause-loads g c =
    let recorded = g.F.Files.recorded c.args.files.now in
    let paths = paths_of (replay_of c.args.request.now) in
    only (λ d. AreAcceptedLoads recorded IsGoodFile IsBadFileAt 1 paths d) (λ d. EndsLoads recorded IsGoodFile IsBadFileAt 1 paths d c.print_replay.result) _ _
    (λ d are. inl (are, printed_status IsReplay c.print_replay.result (inputs_of c.in-Ok.inputs) _ _ _ _ c.print_replay.ensures)) c.in-Ok.ensures.loads

pub returns-in-Err-clause-loads : goal.returns-in-Err-clause-loads
returns-in-Err-clause-loads g c =
    let recorded = g.F.Files.recorded c.args.files.now in
    let paths = paths_of (replay_of c.args.request.now) in
    only (λ d. IsStopped recorded IsGoodFile IsBadFileAt 1 paths d c.in-Err.status) (λ d. EndsLoads recorded IsGoodFile IsBadFileAt 1 paths d c.in-Err.status) _ _
    (λ d stopped. inr stopped) c.in-Err.ensures.loads
