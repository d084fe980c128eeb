use Rattle.std.proofs.Common.{◌≡◌, ◌+◌, ◌++◌, length}
use Rattle.principals.specs.Script.{AreLines}
use Rattle.session_threads.specs.Opened.{HasOwnLog}
use Rattle.replay_in_turn.specs.inner.Shape.{IsScriptRun}
use Rattle.replay_in_turn.proofs.script.run_script.Given as goal

abbrev pub invariant-loop-line : goal.invariant-loop-line
invariant-loop-line l = record {
  run : IsScriptRun l.program l.strict 2 l.yielded l.initial.ground.board.log l.ground.board.log l.initial.out l.out;
  own : HasOwnLog l.ground;
  number : l.number ≡ 2 + length l.yielded;
  rest : AreLines l.line-iterator.rest.items;
  all : l.fn.lines ≡ l.yielded ++ l.line-iterator.rest.items;
  len : l.line-iterator.rest.len ≡ length l.line-iterator.rest.items;
}
