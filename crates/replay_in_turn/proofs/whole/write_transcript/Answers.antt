use Rattle.std.proofs.Common.{subst}
use Rattle.std.specs.Arc.{arc_value}
use Rattle.std.proofs.lemmas.Result.{on_ok_weaker}
use Rattle.sync_syntax.specs.declared.tree.Program.{Program}
use Rattle.replay_in_turn.specs.inner.Shape.{AreServed, IsReplayBy, IsScripted}
use Rattle.replay_in_turn.proofs.whole.write_transcript.Goals as goal

pub returns-in-Ok : goal.returns-in-Ok
returns-in-Ok c =
    let program : Program = arc_value c.args.program.now in
    let By : Program → Type 0 = λ p. IsScripted p c.args.strict c.args.roles.now c.args.users.now c.args.lines c.in-Ok.ground c.args.out.now c.scripted.new.out in
    let whole : AreServed program c.args.strict c.args.sessions.items c.in-Ok.ground c.scripted.new.out c.serve_all.new.out → IsReplayBy program c.args.strict c.args.roles.now c.args.users.now c.args.lines c.args.sessions.items c.args.out.now c.serve_all.new.out = λ served.
    record { ground = c.in-Ok.ground; between = c.scripted.new.out; script = subst By c.deref.ensures c.in-Ok.ensures; served = served } in
    on_ok_weaker c.serve_all.result whole c.serve_all.ensures
