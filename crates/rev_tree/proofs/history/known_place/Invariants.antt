use Rattle.std.proofs.Common.{◌≡◌, ◌+◌, drop}
use Rattle.rev_tree.specs.inner.Search.{known_place}
use Rattle.rev_tree.proofs.history.known_place.Given as goal

abbrev pub invariant-loop-i : goal.invariant-loop-i
invariant-loop-i l = l.i + known_place l.nodes (drop l.i l.ancestors) ≡ known_place l.nodes l.ancestors
