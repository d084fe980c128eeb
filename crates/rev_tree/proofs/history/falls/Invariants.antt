use Rattle.std.proofs.Common.{◌≡◌, ◌∷◌, drop}
use Rattle.rev_tree.specs.Extension.{falls}
use Rattle.rev_tree.proofs.history.falls.Given as goal

abbrev pub invariant-loop-ancestor : goal.invariant-loop-ancestor
invariant-loop-ancestor l = falls (l.rev ∷ l.ancestors) ≡ falls (l.last ∷ drop l.ancestor-index l.ancestors)
