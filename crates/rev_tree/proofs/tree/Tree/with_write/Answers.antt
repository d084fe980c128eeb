use Rattle.std.proofs.Common.{◌≡◌, ◌∙◌, true, sym}
use Rattle.std.specs.Option.{option_copied}
use Rattle.rev_tree.specs.Extension.{Recorded, first_known}
use Rattle.rev_tree.specs.Shape.{is_tree}
use Rattle.rev_tree.proofs.Hanging.{write_tree, write_tips}
use Rattle.rev_tree.proofs.Places.{known_first}
use Rattle.rev_tree.proofs.tree.Tree.with_write.Goals as goal

pub tree_of-requires-clause-tree : goal.tree_of-requires-clause-tree
tree_of-requires-clause-tree c =
    let tree = c.args.self.now in
    let w : Recorded = record { rev = c.args.rev.now; ancestors = c.args.ancestors.now; deleted = c.args.deleted } in
    let is : is_tree tree ≡ true = rw (← c.self.view_is) c.self.invariant.0 in
    rw (c.in_ok-nodes.ensures, c.in_ok-node.ensures) (write_tree tree w c.requires.history c.requires.unknown is)

pub tree_of-requires-clause-tips : goal.tree_of-requires-clause-tips
tree_of-requires-clause-tips c =
    let tree = c.args.self.now in
    let w : Recorded = record { rev = c.args.rev.now; ancestors = c.args.ancestors.now; deleted = c.args.deleted } in
    let is : is_tree tree ≡ true = rw (← c.self.view_is) c.self.invariant.0 in
    let known : option_copied c.ancestor_at.result ≡ first_known tree w.ancestors = c.ancestor_at.ensures ∙ rw c.requires.place (known_first tree w.ancestors) in
    c.in_ok-tips.ensures ∙ rw (c.in_ok-nodes.ensures, c.in_ok-node.ensures, known) (sym (write_tips tree w c.requires.history c.requires.unknown is))
