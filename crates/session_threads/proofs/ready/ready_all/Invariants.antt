use Rattle.std.proofs.Common.{◌≡◌, ◌≤◌, ◌+◌, ◌++◌, length, vec_capacity}
use Rattle.std.specs.Arc.{arc_value}
use Rattle.session_threads.specs.Pairs.{AllPairs}
use Rattle.session_threads.specs.inner.Runs.{IsReadyFor}
use Rattle.session_threads.proofs.ready.ready_all.Given as goal

abbrev pub invariant-loop-session : goal.invariant-loop-session
invariant-loop-session g l = record {
  all : l.fn.sessions ≡ l.yielded ++ l.session-iterator.rest.items;
  len : l.session-iterator.rest.len ≡ length l.session-iterator.rest.items;
  room : length l.all.items + length l.session-iterator.rest.items ≤ vec_capacity l.all;
  ready : AllPairs (λ s r. IsReadyFor (arc_value l.fn.program) l.fn.strict (record { user = s.0; version = s.1; traffic = g.W.Wire.recorded s.2; faults = g.W.Wire.faults s.2 }) r.setup (g.W.Wire.recorded r.wire) (g.W.Wire.faults r.wire))
      l.yielded l.all.items;
}
