use Rattle.std.proofs.Common.{◌≡◌, ◌≤◌}
use Rattle.session_mux.specs.Muxed.{all_left_of}
use Rattle.session_mux.proofs.Sending.{Going}
use Rattle.session_mux.proofs.mux.Mux.send_all.Given as goal

abbrev pub decreases-loop-wire : goal.decreases-loop-wire
decreases-loop-wire g l = all_left_of l.self.outbox

abbrev pub invariant-loop-wire : goal.invariant-loop-wire
invariant-loop-wire g l = record {
  going : Going l.initial.self.outbox l.initial.self.sent.value (g.W.Wire.recorded l.initial.wire) l.self.outbox l.self.sent.value (g.W.Wire.recorded l.wire);
  faults : g.W.Wire.faults l.initial.wire ≤ g.W.Wire.faults l.wire;
  inbox : l.self.inbox ≡ l.initial.self.inbox;
  received : l.self.received ≡ l.initial.self.received;
}
