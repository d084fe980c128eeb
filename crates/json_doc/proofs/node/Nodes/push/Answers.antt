use Rattle.std.proofs.Common.{ap, sym, ◌∙◌}
use Rattle.json_doc.specs.Tree.{add_tree}
use Rattle.json_doc.specs.View.{node_tree, row_trees}
use Rattle.json_doc.specs.declared.node.Nodes.{out-Nodes}
use Rattle.json_doc.proofs.NodeTrees.{nodes_trees-out, nodes_trees-roll, row_trees-push}
use Rattle.json_doc.proofs.node.Nodes.push.Goals as goal

pub returns-clause-ok : goal.returns-clause-ok
returns-clause-ok c =
    nodes_trees-roll c.push.new.self
    ∙ ap row_trees c.in_ok-push.ensures.items
    ∙ row_trees-push (out-Nodes c.args.self.now).items.items c.args.node
    ∙ sym (ap (λ ts. add_tree ts (node_tree c.args.node)) (nodes_trees-out c.args.self.now))
