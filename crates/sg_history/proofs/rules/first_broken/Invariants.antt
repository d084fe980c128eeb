use Rattle.std.proofs.Common.{◌≡◌, ◌+◌, [], drop, reverse, take}
use Rattle.sg_history.specs.Rules.{first_broken}
use Rattle.sg_history.specs.inner.Written.{Knows}
use Rattle.sg_history.proofs.rules.first_broken.Given as goal

abbrev pub invariant-loop-i : goal.invariant-loop-i
invariant-loop-i l = record {
  knows : Knows l.written (take l.i l.entries);
  from_here : first_broken (l.i + 2) (reverse (take l.i l.entries)) (drop l.i l.entries) ≡ first_broken 2 [] l.entries;
}
