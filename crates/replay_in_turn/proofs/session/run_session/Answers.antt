use Rattle.std.specs.Arc.{arc_value}
use Rattle.std.proofs.lemmas.Result.{IfOk-weaker}
use Rattle.write_path.specs.Solo.{Solo}
use Rattle.replay_in_turn.specs.Sessions.{moment_of}
use Rattle.replay_in_turn.specs.inner.Shape.{IsServedTo, IsSessionRun}
use Rattle.replay_in_turn.proofs.Served.{session_is}
use Rattle.replay_in_turn.proofs.session.run_session.Goals as goal

pub returns-in-Ok : goal.returns-in-Ok
returns-in-Ok c =
    IfOk-weaker c.serve.result
    (λ (g : Solo). IsServedTo _ (moment_of c.args.ground) (moment_of g) _ _ c.serve.new.out)
    (λ (g : Solo). IsSessionRun (arc_value c.args.program.now) c.args.strict c.args.number c.args.recorded (moment_of c.args.ground) (moment_of g) c.args.out.now c.serve.new.out)
    (λ g is. session_is c.sessions.ensures.own c.sessions.ensures.reads c.sessions.ensures.recorded (arc_value c.args.program.now) c.args.strict c.args.number c.args.recorded _ _ _ _ _ _ _ c.in-Ok.ensures.setup c.in-Ok.ensures.wire is c.in_default.ensures)
    c.serve.ensures
