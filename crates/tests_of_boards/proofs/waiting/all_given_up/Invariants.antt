use Rattle.std.proofs.Common.{◌≡◌, ◌+◌}
use Rattle.tests_of_boards.specs.inner.Frees.{AreFree, StaysBelow}
use Rattle.tests_of_boards.proofs.waiting.all_given_up.Given as goal

abbrev pub invariant-loop-i : goal.invariant-loop-i
invariant-loop-i l = record {
  free : AreFree l.board (l.number + l.i);
  rooms : l.board.rooms ≡ l.fn.board.rooms;
  below : StaysBelow l.fn.board l.board l.number;
}
