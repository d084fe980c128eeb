use Rattle.std.proofs.Common.{◌≡◌, ◌≤◌, ◌+◌, ◌*◌, List, None}
use Rattle.session_core.specs.Conduct.{due_with, feed_front, most_answers, WantsFor}
use Rattle.session_core.specs.State.{most_puts}
use Rattle.session_core.specs.Steps.{SessionStep}
use Rattle.session_run.specs.Answered.{Moment, IsEventAnswered}
use Rattle.session_run.specs.inner.Held.{IsReady, Conversing}
use Rattle.session_run.specs.inner.Putting.{MayReply}
use Rattle.session_run.specs.Spent.{Draws}
use Rattle.session_run.proofs.session.Session.converse.Given as goal

abbrev pub invariant-loop-want : goal.invariant-loop-want
invariant-loop-want g l = record {
  wants : WantsFor l.self.core.feed l.self.core.pending l.want;
  ready : IsReady l.self;
  may : MayReply l.self.mux (due_with l.self.core.pending);
  front : feed_front l.self.core.feed ≤ g.G.Ground.lowest_front l.ground;
  room : l.self.core.requests + most_puts * most_answers l.self.core.pending ≤ l.fn.self.core.requests + 3 * most_puts;
  frames : l.self.frames ≡ l.fn.self.frames;
  received : l.self.mux.received ≡ l.fn.self.mux.received;
  sent : l.self.mux.sent ≡ l.fn.self.mux.sent;
  draws : Draws (g.G.Ground.origin l.initial.ground) (g.G.Ground.origin l.ground) (g.G.Ground.left l.initial.ground) (g.G.Ground.left l.ground) l.fn.self.listing.spent l.self.listing.spent;
  run : (before : Moment) → IsEventAnswered before l.fn.self.core.user l.fn.program l.fn.self.core.strict None l.fn.event
      (record { read = g.G.Ground.read l.initial.ground; lowest = g.G.Ground.lowest_front l.initial.ground; recorded = g.G.Ground.recorded l.initial.ground; checkpoints = g.G.Ground.checkpoints l.initial.ground; own = g.G.Ground.own l.initial.ground })
      → (steps : List SessionStep) × Conversing l.fn.program l.fn.self l.self l.fn.event before
      (record { read = g.G.Ground.read l.ground; lowest = g.G.Ground.lowest_front l.ground; recorded = g.G.Ground.recorded l.ground; checkpoints = g.G.Ground.checkpoints l.ground; own = g.G.Ground.own l.ground }) l.want steps;
}

abbrev pub decreases-loop-want : goal.decreases-loop-want
decreases-loop-want g l = most_answers l.self.core.pending
