use Rattle.std.proofs.Common.{◌≡◌, ◌∙◌, List, not, sym, subst, refl, IfOk}
use Rattle.std.specs.Arc.{arc_value}
use Rattle.std.specs.Option.{option_copied}
use Rattle.sg_names.specs.RevId.{same_rev}
use Rattle.rev_tree.specs.declared.tree.Node.{Node}
use Rattle.rev_tree.specs.Rising.{insert_node}
use Rattle.rev_tree.specs.Shape.{tips, without_this}
use Rattle.rev_tree.proofs.TreeSteps.{unknown_tip, unknown_filter, all_stay}
use Rattle.rev_tree.proofs.tree.Tree.tips_with.Goals as goal

pub put-requires : goal.put-requires
put-requires c = rw (c.self.invariant.1.0, c.self.view_is) (unknown_tip c.args.self.now (arc_value c.args.node.now).rev c.requires)

pub put-tips-requires : goal.put-tips-requires
put-tips-requires c =
    let known = c.in-Some.known.now in
    rw (c.in_ok-others-in-Some.ensures, c.self.invariant.1.0, c.self.view_is)
    (unknown_filter (λ (n : Node). not (same_rev known n.rev)) (tips c.args.self.now) (arc_value c.args.node.now).rev (unknown_tip c.args.self.now (arc_value c.args.node.now).rev c.requires))

pub returns-in-None : goal.returns-in-None
returns-in-None c =
    let all : c.self.inside.tips ≡ tips c.args.self.now = rw (c.self.invariant.1.0, c.self.view_is) refl in
    let same : c.self.inside.tips ≡ without_this (option_copied c.args.known) (tips c.args.self.now) = rw c.in-None.is (all ∙ sym (all_stay (tips c.args.self.now))) in
    subst (λ (ns : List Node). IfOk c.put.result (λ made. made ≡ insert_node (arc_value c.args.node.now) ns)) same c.put.ensures
