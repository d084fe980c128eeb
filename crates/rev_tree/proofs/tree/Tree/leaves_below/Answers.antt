use Rattle.std.proofs.Common.{◌≡◌, ◌∙◌, true}
use Rattle.rev_tree.specs.Shape.{is_tree}
use Rattle.rev_tree.proofs.TreeSteps.{leaves_lower}
use Rattle.rev_tree.proofs.tree.Tree.leaves_below.Goals as goal

pub returns : goal.returns
returns c =
    let is : is_tree c.args.self.now ≡ true = rw (← c.self.view_is) c.self.invariant.0 in
    c.from_vec.ensures ∙ c.in_ok-revs_below.ensures ∙ rw (c.self.invariant.1.0, c.self.view_is) (leaves_lower c.args.self.now c.args.generation c.args.most is)
