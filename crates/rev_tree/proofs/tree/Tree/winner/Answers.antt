use Rattle.std.proofs.Common.{◌≡◌, true, refl}
use Rattle.rev_tree.specs.Shape.{is_tree}
use Rattle.rev_tree.proofs.Grown.{no_winner}
use Rattle.rev_tree.proofs.tree.Tree.winner.Goals as goal

pub returns-clause-none : goal.returns-clause-none
returns-clause-none c =
    let is : is_tree c.args.self.now ≡ true = rw (← c.self.view_is) c.self.invariant.0 in
    (no_winner c.args.self.now is, λ e. rw e refl)
