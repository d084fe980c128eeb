use Rattle.std.proofs.Common.{◌≤◌, ◌*◌}
use Rattle.session_core.specs.Conduct.{feed_front}
use Rattle.session_core.specs.State.{most_puts}
use Rattle.session_run.specs.inner.Held.{IsAtRest, Runs}
use Rattle.session_run.specs.Spent.{Draws}
use Rattle.session_run.proofs.serve.serve_session.Given as goal

abbrev pub invariant-loop-received : goal.invariant-loop-received
invariant-loop-received g l = record {
  runs : Runs l.fn.setup (record { read = g.G.Ground.read l.initial.ground; lowest = g.G.Ground.lowest_front l.initial.ground; recorded = g.G.Ground.recorded l.initial.ground; checkpoints = g.G.Ground.checkpoints l.initial.ground; own = g.G.Ground.own l.initial.ground })
      (record { read = g.G.Ground.read l.ground; lowest = g.G.Ground.lowest_front l.ground; recorded = g.G.Ground.recorded l.ground; checkpoints = g.G.Ground.checkpoints l.ground; own = g.G.Ground.own l.ground })
      (g.W.Wire.recorded l.initial.wire) l.session (g.W.Wire.recorded l.wire) l.received;
  rest : IsAtRest l.session;
  front : feed_front l.session.core.feed ≤ g.G.Ground.lowest_front l.ground;
  room : l.session.core.requests ≤ l.received * (3 * most_puts);
  count : l.session.frames ≤ l.received;
  draws : Draws (g.G.Ground.origin l.initial.ground) (g.G.Ground.origin l.ground) (g.G.Ground.left l.initial.ground) (g.G.Ground.left l.ground) 0 l.session.listing.spent;
  faults : g.W.Wire.faults l.initial.wire ≤ g.W.Wire.faults l.wire;
}
