use Rattle.sg_names.specs.Hex.{HasRead}
use Rattle.sg_names.proofs.hex.read_while.Given as goal

abbrev pub invariant-loop-i : goal.invariant-loop-i
invariant-loop-i l = HasRead l.text l.i l.fn.out l.out
