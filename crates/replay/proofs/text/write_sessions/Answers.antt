use Rattle.std.proofs.Common.{arith}
use Rattle.replay.proofs.Printing.{run_more}
use Rattle.replay.proofs.text.write_sessions.Goals as goal

pub loop-i-preserved : goal.loop-i-preserved
loop-i-preserved c =
    run_more (λ s. s.ended) (λ s. s.wire.sent.items) c.args.users.now c.args.sessions.now c.loop-i.i c.index-users-i.result c.index-sessions-i.result c.args.out.now c.loop-i.out c.write_session.new.out c.requires.as_many (omega (arith, c.loop-i-test.true)) c.index-users-i.is c.index-sessions-i.is c.loop-i.invariant c.in_ok-write_session.ensures
