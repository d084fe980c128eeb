use Rattle.std.proofs.Common.{◌≡◌, ◌+◌, ◌++◌, length}
use Rattle.std.specs.Arc.{arc_value}
use Rattle.replay_in_turn.specs.Sessions.{moment_of}
use Rattle.replay_in_turn.specs.inner.Shape.{AreSessionsRun}
use Rattle.replay_in_turn.proofs.session.serve_in_turn.Given as goal

abbrev pub invariant-loop-recorded : goal.invariant-loop-recorded
invariant-loop-recorded l = record {
  served : AreSessionsRun (arc_value l.program) l.strict 1 l.yielded (moment_of l.initial.ground) (moment_of l.ground) l.initial.out l.out;
  number : l.number ≡ 1 + length l.yielded;
  all : l.fn.sessions.items ≡ l.yielded ++ l.recorded-iterator.rest.items;
  len : l.recorded-iterator.rest.len ≡ length l.recorded-iterator.rest.items;
}
