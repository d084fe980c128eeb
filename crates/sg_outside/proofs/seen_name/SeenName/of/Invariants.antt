use Rattle.std.proofs.Common.{◌≡◌, ◌++◌, drop}
use Rattle.sg_outside.proofs.seen_name.SeenName.of.Given as goal

abbrev pub invariant-loop-letter : goal.invariant-loop-letter
invariant-loop-letter l = l.seen ++ drop l.letter-index l.name ≡ l.name
