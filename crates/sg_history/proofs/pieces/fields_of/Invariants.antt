use Rattle.std.proofs.Common.{◌≡◌, ◌++◌, map, take, length}
use Rattle.sg_history.specs.Pieces.{pieces}
use Rattle.sg_history.proofs.pieces.fields_of.Given as goal

abbrev pub invariant-loop-i : goal.invariant-loop-i
invariant-loop-i l = record {
  long : length l.into ≡ length l.fn.into;
  all : map (λ p. p.now) (take l.i l.into) ++ pieces 9 l.rest ≡ pieces 9 l.line;
}
