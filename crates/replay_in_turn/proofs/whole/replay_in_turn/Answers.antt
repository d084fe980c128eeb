use Rattle.std.proofs.Common.{List, ℕ, subst}
use Rattle.std.specs.Prelude.{not}
use Rattle.std.specs.Arc.{arc_value}
use Rattle.replay_in_turn.specs.inner.Shape.{IsReplayBy}
use Rattle.replay_in_turn.proofs.FinalLog.{is_replay}
use Rattle.replay_in_turn.proofs.whole.replay_in_turn.Goals as goal

pub returns-in-Ok-written : goal.returns-in-Ok-written
returns-in-Ok-written c =
    let By : List ℕ → Type 0 = λ before. IsReplayBy (arc_value c.args.config.now.program) (not c.args.config.now.conflicts) c.args.config.now.roles c.args.config.now.users c.args.lines c.args.sessions.items before c.write_transcript-written.new.out in
    is_replay c.args.config.now c.args.lines c.args.sessions.items c.write_transcript-written.new.out (subst By c.in-Ok.ensures c.in-Ok-written.ensures)
